-- The item words of a fraction section, cut in three, and the text of the parts.
-- Assumes nothing.
use Prim.Native.Nat.{ℕ, suc, ◌+◌, ◌-◌, ◌*◌, ◌/◌, ◌≤◌}
use native.Mathlib.Omega.{arith}
use mathlib.Core.Path.{◌≡◌, sym, ap, ◌∙◌}
use mathlib.Core.Bool.{Bool, true, false, ◌&&◌}
use mathlib.Core.List.{List, [], ◌∷◌, ◌++◌, map, flatten}
use lib.Dec.{T, ltb, eqb}
use lib.ListN.{length, take, drop, replicate, length-map, length-replicate, length-take, length-drop, length-append}
use Rattle.lists.specs.Lists.{any, every, count}
use Rattle.lists.proofs.Bools.{by_cases, and_right, carry, or-false, every-cons, every_append}
use Rattle.lists.proofs.Counts.{count-least, any_append, every-both, positive-count}
use Rattle.figures.specs.Digits.{width}
use Rattle.fractions.specs.declared.Mixed.{Mixed}
use Rattle.calendar.specs.Names.{units}
use Rattle.formats.specs.Items.{Item, solidus, fraction_kind, item_allowed, is_place, is_space, is_solidus, start_places, behind_start}
use Rattle.formats.specs.Text.{item_units, items_units, section_units, along}
use Rattle.formats.specs.Reading.{whole_text, spaceless, spare_places, denominator_units, below_units}
use Rattle.table_words.specs.Runs.{items_in, CutAt}
use Rattle.fraction_sections.specs.Fraction.{Behind, Below, FractionReady, mixed_text, loose_text}
use Rattle.table_words.proofs.PlaceRuns.{start-joins, start-run}
use Rattle.section_text.specs.Show.{sign_text}
use Rattle.section_text.proofs.Fitting.{sign-short}
use Rattle.fraction_sections.proofs.Segments.{segment-short}
use Rattle.table_words.proofs.Cuts.{rest_all}
use Rattle.fraction_sections.proofs.Denominators.{all_first, places-length, places-short, spaceless-run}
use Rattle.fraction_sections.proofs.Loose.{blank-text, plain-text, loose-append, loose-short, items-counted}

-- there are places where more than none are counted
pub places-told : (border places : ℕ) (is : List Item) → border ≡ 0 → places ≡ count is_place is → ltb border places ≡ any is_place is
places-told border places is e c = rw (e, c) (positive-count is_place is)

-- ---- from the solidus on
denominator-units-short : (d : ℕ) (places : List Item) → T (every is_place places) → length (denominator_units d places) ≤ 83 * length places
unfolding denominator_units spare_places section_units
denominator-units-short d places t =
    let shown = whole_text d (map spaceless places) in
    let spare : ℕ = count is_space (take (length places - width d) places) in
    let spaces : List ℕ = replicate spare 32 in
    let a : length shown ≤ 82 * length places = rw (← length-map places spaceless) (places-short _ _ (map spaceless places) (spaceless-run places t)) in
    let b : length spaces ≤ length places =
    rw (length-replicate {A = ℕ} spare 32) (omega (arith, count-least is_space (take (length places - width d) places), length-take (length places - width d) places)) in
    rw (length-append shown spaces) (omega arith)

module _ {ws : List ℕ} (b : Behind ws) where
  behind-held : T (every (item_allowed fraction_kind) (behind_start (items_in ws)))
  behind-held =
      and_right (every (item_allowed fraction_kind) (start_places (items_in ws))) (every (item_allowed fraction_kind) (behind_start (items_in ws)))
      (carry (sym (ap (every (item_allowed fraction_kind)) (start-joins (items_in ws))) ∙ every-both (item_allowed fraction_kind) (start_places (items_in ws)) _) b.allowed)

  behind-single : any is_solidus (behind_start (items_in ws)) ≡ false
  behind-single =
      (or-false (any is_solidus (start_places (items_in ws))) (any is_solidus (behind_start (items_in ws)))
      (sym (any_append is_solidus (start_places (items_in ws)) _) ∙ ap (any is_solidus) (start-joins (items_in ws)) ∙ b.single)).1

  behind-text : whole_text 0 (behind_start (items_in ws)) ≡ loose_text false (behind_start (items_in ws))
  unfolding section_units
  behind-text = plain-text _ _ (behind_start (items_in ws)) behind-held b.run behind-single

-- what the code takes of the words behind the solidus
module _ {from : List ℕ} (b : Below from) where
  abbrev rest : List ℕ
  rest = take (length from - 2) (drop 2 from)

  pub below-behind : Behind rest
  below-behind = rw (rest_all 2 from) b.behind

  pub below-few : (k : ℕ) → length (drop k rest) ≤ 508
  below-few k = omega (arith, length-drop k rest, below-behind.few)

  below-items : items_in from ≡ solidus ∷ items_in rest
  below-items = b.items ∙ ap (λ (ws : List ℕ). solidus ∷ items_in ws) (sym (rest_all 2 from))

  pub below-held : T (every (item_allowed fraction_kind) (items_in from))
  unfolding item_allowed
  below-held = rw below-items (every-cons (item_allowed fraction_kind) solidus (items_in rest) tt below-behind.allowed)

  pub below-text : {e : ℕ} (d : ℕ) → CutAt rest e (start_places (items_in rest)) (behind_start (items_in rest))
      → below_units d (items_in from) ≡ (47 ∷ []) ++ (denominator_units d (items_in (take e rest)) ++ loose_text false (items_in (drop e rest)))
  unfolding below_units section_units items_units along flatten item_units units
  below-text {e} d x =
      ap (below_units d) below-items
      ∙ rw (x.before, x.from) (ap (λ (us : List ℕ). 47 ∷ (denominator_units d (start_places (items_in rest)) ++ us)) (behind-text below-behind))

  -- how long it can be
  pub below-short : (d : ℕ) → length (below_units d (items_in from)) ≤ 82 * (length from / 2)
  unfolding below_units section_units items_units along flatten item_units units
  below-short d =
      let js = items_in rest in
      let places = start_places js in
      let parts : length js ≡ length places + length (behind_start js) = sym (ap length (start-joins js)) ∙ length-append places (behind_start js) in
      let few : length places ≤ 3 = omega (arith, places-length places (start-run js), all_first below-behind, below-behind.most) in
      let e : length (whole_text 0 (behind_start js)) ≤ 25 * length (behind_start js) = rw (behind-text below-behind) (loose-short false (behind_start js)) in
      let all : length from / 2 ≡ suc (length js) = sym (items-counted from) ∙ ap length below-items in
      rw (below-items, all, length-append (denominator_units d places) (whole_text 0 (behind_start js))) (omega (arith, denominator-units-short d places (start-run js)))

-- ---- the three parts
module _ {whole numerator from : List ℕ} (g : FractionReady whole numerator from) (f : Mixed) where
  pub mixed-blank : (any is_place (items_in whole) && eqb f.above 0) ≡ true
      → mixed_text f (items_in whole) (items_in numerator) (items_in from)
      ≡ whole_text f.whole (items_in whole) ++ (loose_text true (items_in numerator) ++ loose_text true (items_in from))
  unfolding mixed_text section_units
  mixed-blank e =
      rw e (ap (λ (us : List ℕ). whole_text f.whole (items_in whole) ++ us)
      (blank-text _ _ (items_in numerator ++ items_in from) (every_append (item_allowed fraction_kind) (items_in numerator) (items_in from) g.held (below-held g.below))
      ∙ loose-append true (items_in numerator) (items_in from)))

  pub mixed-shown : (any is_place (items_in whole) && eqb f.above 0) ≡ false
      → mixed_text f (items_in whole) (items_in numerator) (items_in from)
      ≡ whole_text f.whole (items_in whole) ++ (whole_text f.above (items_in numerator) ++ below_units f.below (items_in from))
  unfolding mixed_text
  mixed-shown e = rw e

  -- a room that surely takes their text
  pub mixed-short : (minus : Bool) (size : ℕ) → 41 * (length whole + length numerator + length from) + 1 ≤ size
      → length (sign_text minus ++ mixed_text f (items_in whole) (items_in numerator) (items_in from)) ≤ size
  mixed-short minus size h =
      let first = whole_text f.whole (items_in whole) in
      let a = segment-short g.integer f.whole in
      sign-short minus _ size
      (by_cases (any is_place (items_in whole) && eqb f.above 0)
      (λ e.
      let ns = loose_text true (items_in numerator) in
      let fs = loose_text true (items_in from) in
      rw (mixed-blank e, length-append first (ns ++ fs), length-append ns fs)
      (omega (arith, a, loose-short true (items_in numerator), items-counted numerator, loose-short true (items_in from), items-counted from)))
      (λ e.
      let ns = whole_text f.above (items_in numerator) in
      let fs = below_units f.below (items_in from) in
      rw (mixed-shown e, length-append first (ns ++ fs), length-append ns fs)
      (omega (arith, a, segment-short g.above f.above, below-short g.below f.below))))
