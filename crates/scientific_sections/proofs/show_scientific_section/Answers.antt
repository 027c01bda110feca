-- `scientific_sections::show_scientific_section` meets its contract.
-- Assumes nothing.
use Rattle.std.proofs.Common.{◌++◌, ℕ, List, refl, ap, sym, ◌∙◌, length-append, arith, rules, of_calls}
use Rattle.lists.proofs.Bools.{no}
use Rattle.formats.specs.Items.{kind_of, is_place, integer_places, places_behind}
use Rattle.formats.specs.Text.{items_units, first_of}
use Rattle.formats.specs.Reading.{look_of}
use Rattle.formats.proofs.Cutting.{scientific-some}
use Rattle.tables.specs.Words.{Head, entries_in}
use Rattle.tables.specs.Encode.{head_of}
use Rattle.tables.specs.Decode.{items_at}
use Rattle.tables.proofs.BackEntries.{place-tag}
use Rattle.table_words.specs.Tabled.{section_of}
use Rattle.table_words.proofs.Bodies.{section-exponent, section-limits}
use Rattle.section_text.specs.Subject.{SubjectIs}
use Rattle.section_text.specs.Walk.{TextOf, HasText}
use Rattle.section_text.specs.Show.{sign_text}
use Rattle.section_text.proofs.Lengths.{subject-short, short-text}
use Rattle.section_text.proofs.Fitting.{sign-short, shows-put}
use Rattle.scientific_sections.specs.Power.{PowerIs}
use Rattle.scientific_sections.proofs.PowerItems.{power-short}
use Rattle.scientific_sections.proofs.Scientific.{parts-few, power-places, mantissa-text, power-text, power-some, scientific-shows}
use Rattle.scientific_sections.proofs.show_scientific_section.Goals as goal

pub invariant_of-power : goal.invariant_of-power
unfolding kind_of
invariant_of-power c =
    let r = c.requires in
    let s = c.args.section in
    let x = c.cut_start-start.ensures in
    let counted = power-places c.items-items.ensures r.0 x c.split_at.ensures.front c.split_at.ensures.back (c.count_between.ensures is_place place-tag) in
    record {
      small = r.2;
      some = omega (arith, counted, (section-exponent _ _ s.table.passes s.there (scientific-some _ r.0)).places);
      few = omega (arith, counted, (section-limits _ _ s.table.passes s.there).exponents-most);
    }

pub show_whole-requires : goal.show_whole-requires
show_whole-requires c =
    let r = c.requires in
    let f = c.items-items.ensures in
    let x = c.cut_start-start.ensures in
    let eb = c.split_at.ensures.front in
    let ef = c.split_at.ensures.back in
    let s = c.args.mantissa in
    let before = c.split_at.result.0.now in
    let from = c.split_at.result.1.now in
    let few = parts-few f r.0 x eb ef in
    let counted = power-places f r.0 x eb ef (c.count_between.ensures is_place place-tag) in
    let t : TextOf (λ k. SubjectIs k s.digits.now s.subject s.text.now) (entries_in before) _ = mantissa-text f r.0 x eb ef r.3.context r.3.is in
    let h : HasText (TextOf (λ k. SubjectIs k s.digits.now s.subject s.text.now)) (entries_in before) =
    short-text before _ few.1 t (subject-short 1024 before (omega arith) s.short t) in
    let g : HasText (TextOf (PowerIs c.args.exponent c.args.below c.count_between.result)) (entries_in from) =
    rw counted (power-some f r.0 x eb ef c.args.exponent c.args.below) in
    search of_calls

pub returns : goal.returns
unfolding head_of
returns c =
    let r = c.requires in
    let f = c.items-items.ensures in
    let x = c.cut_start-start.ensures in
    let eb = c.split_at.ensures.front in
    let ef = c.split_at.ensures.back in
    let s = c.args.mantissa in
    let z = c.args.section in
    let before = c.split_at.result.0.now in
    let from = c.split_at.result.1.now in
    let few = parts-few f r.0 x eb ef in
    let counted = power-places f r.0 x eb ef (c.count_between.ensures is_place place-tag) in
    λ m e is places shows power.
    let us : List ℕ = items_units m (first_of (integer_places (section_of z).items)) (items_at (entries_in before)) in
    let vs : List ℕ = items_units e (first_of (places_behind (section_of z).items)) (items_at (entries_in from)) in
    let t : TextOf (λ k. SubjectIs k s.digits.now s.subject s.text.now) (entries_in before) us = mantissa-text f r.0 x eb ef m is in
    let u : TextOf (PowerIs c.args.exponent c.args.below c.count_between.result) (entries_in from) vs =
    power-text f r.0 x eb ef e (refl, shows, power ∙ sym counted) power in
    scientific-shows f r.0 x eb ef _ _ _ _ m e (ap (λ (h : Head). h.colour) c.head-colour.ensures.words) places power
    (c.show_whole.ensures (look_of (sign_text c.args.minus ++ (us ++ vs)) c.head-colour.result.colour z.place c.args.exact)
    (λ room shown left p. shows-put (search (rules, t, u)) (search rules) (search rules) (search rules))
    (λ q.
    let roomy = c.is_roomy-roomy.ensures q in
    let fu = subject-short 82 before (omega arith) (λ l. no (sym r.1 ∙ l)) t in
    let fv = power-short 82 from (omega arith) u in
    sign-short _ (us ++ vs) _ (omega (arith, roomy.1, few.0, fu, fv, length-append us vs))))
