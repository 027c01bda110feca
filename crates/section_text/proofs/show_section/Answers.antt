-- `section_text::show_section` meets its contract.
-- Assumes nothing.
use Rattle.std.proofs.Common.{◌++◌, List, ℕ, ap, sym, ◌∙◌, arith, rules, of_calls}
use Rattle.formats.specs.Reading.{look_of}
use Rattle.formats.specs.Text.{items_units, first_of}
use Rattle.formats.specs.Items.{integer_places}
use Rattle.tables.specs.Words.{Head, entries_in}
use Rattle.tables.specs.Decode.{items_at}
use Rattle.tables.specs.Encode.{head_of}
use Rattle.lists.proofs.Bools.{no}
use Rattle.table_words.specs.Tabled.{section_of}
use Rattle.section_text.specs.Subject.{SubjectIs}
use Rattle.section_text.specs.Walk.{TextOf, HasText}
use Rattle.section_text.specs.Show.{sign_text}
use Rattle.section_text.proofs.Bodies.{subject-uncut, items-text, items-shows}
use Rattle.section_text.proofs.Lengths.{subject-short, short-text}
use Rattle.section_text.proofs.Fitting.{sign-short, shows-put}
use Rattle.section_text.proofs.show_section.Goals as goal

pub show_whole-requires : goal.show_whole-requires
show_whole-requires c =
    let k = c.requires in
    let s = c.args.source in
    let words = c.items-items.result.now in
    let t = items-text c.items-items.ensures k.context (subject-uncut k.is) k.is in
    let h : HasText (TextOf (λ k. SubjectIs k s.digits.now s.subject s.text.now)) (entries_in words) =
    short-text words _ c.items-items.ensures.few t (subject-short 1024 words (omega arith) s.short t) in
    search of_calls

pub returns : goal.returns
unfolding head_of
returns c =
    let e = c.items-items.ensures in
    let s = c.args.source in
    let words = c.items-items.result.now in
    λ x is places.
    let us : List ℕ = items_units x (first_of (integer_places (section_of c.args.section).items)) (items_at (entries_in words)) in
    let t : TextOf (λ k. SubjectIs k s.digits.now s.subject s.text.now) (entries_in words) us = items-text e x (subject-uncut is) is in
    items-shows e _ _ _ _ x (ap (λ (h : Head). h.colour) c.head-colour.ensures.words) places
    (c.show_whole.ensures (look_of (sign_text c.args.minus ++ us) c.head-colour.result.colour c.args.section.place c.args.exact)
    (λ room shown left p. shows-put (search (rules, t)) (search rules) (search rules) (search rules))
    (λ r. let roomy = c.is_roomy-roomy.ensures r in
    sign-short _ _ _ (omega (arith, roomy.1, subject-short 82 words (omega arith) (λ l. no (sym roomy.0 ∙ l)) t))))
