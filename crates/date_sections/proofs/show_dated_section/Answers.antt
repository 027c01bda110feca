-- `date_sections::show_dated_section` meets its contract.
-- Assumes nothing.
use Rattle.std.proofs.Common.{ℕ, List, ap, arith, rules, of_calls}
use Rattle.lists.specs.Lists.{any}
use Rattle.formats.specs.Reading.{look_of, instant_exactly}
use Rattle.formats.specs.Text.{items_units, first_of}
use Rattle.formats.specs.Items.{integer_places}
use Rattle.tables.specs.Words.{Head, entries_in}
use Rattle.tables.specs.Decode.{items_at}
use Rattle.tables.specs.Encode.{head_of}
use Rattle.table_words.specs.Tabled.{section_of}
use Rattle.date_text.specs.Moment.{dated_entry}
use Rattle.section_text.specs.Walk.{TextOf, HasText}
use Rattle.section_text.proofs.Bodies.{items-text, items-shows}
use Rattle.section_text.proofs.Lengths.{short-text}
use Rattle.section_text.proofs.Fitting.{unsigned, shows-put}
use Rattle.date_sections.specs.Dated.{DatedIs}
use Rattle.date_sections.proofs.Dated.{date-uncut, items-moment, dated-short}
use Rattle.date_sections.proofs.FinestUnit.{dated-exactly}
use Rattle.date_sections.proofs.show_dated_section.Goals as goal

pub show_whole-requires : goal.show_whole-requires
show_whole-requires c =
    let e = c.items-items.ensures in
    let words = c.items-items.result.now in
    let known = c.requires.1 in
    let t : TextOf (DatedIs c.args.m.now (any dated_entry (entries_in words))) (entries_in words) _ =
    items-text e known.context (date-uncut _ c.requires.0) (items-moment e c.requires.0 known.is) in
    let h : HasText (TextOf (DatedIs c.args.m.now (any dated_entry (entries_in words)))) (entries_in words) =
    short-text words _ e.few t (dated-short 1024 words (omega arith) t) in
    search of_calls

pub returns : goal.returns
unfolding head_of
returns c =
    let e = c.items-items.ensures in
    let k = c.requires.0 in
    let words = c.items-items.result.now in
    let section = c.args.section in
    λ x is places.
    let us : List ℕ = items_units x (first_of (integer_places (section_of section).items)) (items_at (entries_in words)) in
    let t : TextOf (DatedIs c.args.m.now (any dated_entry (entries_in words))) (entries_in words) us =
    items-text e x (date-uncut _ k) (items-moment e k is) in
    items-shows e _ _ _ _ x (ap (λ (h : Head). h.colour) c.head-colour.ensures.words) places
    (unsigned _ _ _ _ _
    (c.show_whole.ensures (look_of us c.head-colour.result.colour section.place (instant_exactly (section_of section) c.args.ms))
    (λ room shown left p. shows-put (search (rules, t)) (search rules) (search rules) (rw (← dated-exactly c.args.ms k e) (search rules)))
    (λ r. let roomy = c.is_roomy-roomy.ensures r in omega (arith, roomy.1, dated-short 82 words (omega arith) t))))
