-- The item words of a fraction section, cut at its solidus and before its numerator, are those of its parts.
-- Assumes nothing.
use Prim.Native.Nat.{ℕ, suc, ◌+◌, ◌/◌, ◌≤◌, ◌<◌}
use native.Mathlib.Omega.{arith}
use mathlib.Core.Path.{◌≡◌, refl, sym, ap, ◌∙◌}
use mathlib.Core.Bool.{Bool, true, false, true≢false, cond, not, ◌&&◌, ◌||◌}
use mathlib.Core.List.{List, [], ◌∷◌, ◌++◌, append_assoc, head-eq_of_cons-eq, tail-eq_of_cons-eq}
use lib.Dec.{T, eqb→eq}
use lib.ListN.{length, get_or, take, drop, length-take, length-drop}
use lib.Seq.{take-append_seam, drop-append_seam}
use borrow.Author.Tests.{eqb-true}
use Rattle.std.specs.Prelude.{Result}
use Rattle.answers.specs.declared.Refusal.{Refusal}
use Rattle.answers.specs.declared.Shown.{Shown}
use Rattle.lists.specs.Lists.{any, every, count}
use Rattle.lists.proofs.Bools.{by_cases, and_left, and_right, and_in, carry, or-false, or_right, implied, not_so, true-T, T_true, every-head, every-tail}
use Rattle.lists.proofs.Counts.{any_append, every-both, every-and, any_same, any-either, positive-count}
use Rattle.fractions.specs.declared.Mixed.{Mixed}
use Rattle.formats.specs.Items.{Item, item_number, solidus, Section, text_kind, general_kind, date_kind, scientific_kind, fraction_kind, number_kind, literal_kind, item_makes, items_kind, kind_from, kind_of, item_allowed, is_place, is_point, is_exponent, is_solidus, is_fixed, is_cut, before_cut, from_cut, integer_places, places_behind, before_end, end_places, behind_start, numerator_items, whole_items, main_items, denominator_fits, fraction_fits, items_fit}
use Rattle.formats.specs.Text.{digit_after, along, first_of}
use Rattle.formats.specs.Reading.{look_of, within, is_parted, fraction_units}
use Rattle.formats.proofs.Each.{by-item}
use Rattle.formats.proofs.Cutting.{cut-count, every-before, every-from, places-integers, Solidus, solidus-cut, FractionRules, end-joins, whole-joins, whole-bare, main-exponents, no-exponent, held-bare}
use Rattle.tables.specs.Words.{Entry, entries_at, entries_in}
use Rattle.tables.specs.Encode.{entry}
use Rattle.tables.specs.Decode.{item_at, items_at, section_at}
use Rattle.tables.specs.Rules.{entry_in_range, power_fits, powers_from, run_powers, powers_run_down, all_of, passes}
use Rattle.tables.proofs.MadeHeads.{Within}
use Rattle.tables.proofs.BackEntries.{items-length}
use Rattle.tables.proofs.Back.{row-facts}
use Rattle.table_words.specs.Sections.{section_in, ItemsOf}
use Rattle.table_words.proofs.Heads.{row_in, section-row, row_fits_lem}
use Rattle.table_words.proofs.Bodies.{section-fraction}
use Rattle.table_words.specs.Runs.{items_in, CutAt}
use Rattle.fraction_sections.specs.Fraction.{Segment, Behind, FractionReady, mixed_text}
use Rattle.section_text.specs.Show.{sign_text, fraction_reading, Shows}
use Rattle.table_words.proofs.Cuts.{items-append}
use Rattle.section_text.proofs.Cuts.{powers-anew, powers-front, powers-behind, plain-allowed}
use Rattle.fraction_sections.proofs.Denominators.{places-held, places-counted}
use Rattle.fraction_sections.proofs.Loose.{held-case, items-counted}

-- ---- of items
-- a fraction has a solidus
makes-fraction : (i : Item) → item_makes fraction_kind i ≡ (is_solidus i || is_fixed i)
unfolding item_makes
makes-fraction =
    by-item (λ (i : Item). item_makes fraction_kind i ≡ (is_solidus i || is_fixed i)) (λ u. refl) (λ u. refl) (λ u. refl) (λ p. refl) refl refl refl refl
    (λ n. refl) (λ n. refl) (λ n. refl) (λ n. refl) (λ n. refl) (λ n. refl) (λ n. refl) (λ e n. refl) (λ h. refl) (λ m. refl)
    refl (λ n. refl)

fraction-made : (a b c d e f : Bool)
    → cond a text_kind (cond b general_kind (cond c date_kind (cond d scientific_kind (cond e fraction_kind (cond f number_kind literal_kind))))) ≡ fraction_kind
    → e ≡ true
fraction-made a b c d true f h = refl
fraction-made true b c d false f h = cc
fraction-made false true c d false f h = cc
fraction-made false false true d false f h = cc
fraction-made false false false true false f h = cc
fraction-made false false false false false true h = cc
fraction-made false false false false false false h = cc

fraction-some : (is : List Item) → items_kind is ≡ fraction_kind → T (fraction_fits is) → any is_solidus is ≡ true
unfolding items_kind kind_from fraction_fits
fraction-some is h t =
    let made : (any is_solidus is || any is_fixed is) ≡ true =
    sym (any_same (item_makes fraction_kind) (λ (i : Item). is_solidus i || is_fixed i) makes-fraction is ∙ any-either is_solidus is_fixed is)
    ∙ fraction-made (any (item_makes text_kind) is) (any (item_makes general_kind) is) (any (item_makes date_kind) is)
    (any (item_makes scientific_kind) is) (any (item_makes fraction_kind) is) (any (item_makes number_kind) is) h in
    let all = implied (any is_solidus is || any is_fixed is) _ t (true-T made) in
    let one : count is_solidus is ≡ 1 = search (and_left, and_right, eqb→eq) depth 16 in
    sym (positive-count is_solidus is) ∙ rw one

pub section-rules : (ws : List ℕ) (i : ℕ) → T (passes ws) → i < get_or ws 0 0 → kind_of (section_in ws i) ≡ fraction_kind → FractionRules (section_in ws i).items
unfolding kind_of items_fit
section-rules ws i t l k =
    let fits : T (items_fit (section_at (row_in ws i)).items) = (row-facts (row_in ws i) (row_fits_lem ws i t l)).items in
    let fraction : T (fraction_fits (section_at (row_in ws i)).items) = search (and_right) in
    section-fraction ws i t l (fraction-some (section_in ws i).items k (rw (section-row ws i l) fraction))

-- a fraction holds no point
no-point : (i : Item) → T (item_allowed fraction_kind i) → is_point i ≡ false
no-point = held-case (λ (i : Item). is_point i ≡ false) (λ u. refl) (λ u. refl) (λ u. refl) (λ p. refl) refl (λ n. refl)

pointless : (is : List Item) → T (every (item_allowed fraction_kind) is) → any is_point is ≡ false
unfolding any
pointless [] t = refl
pointless (i ∷ is) t = rw (no-point i (every-head (item_allowed fraction_kind) i is t)) (pointless is (every-tail (item_allowed fraction_kind) i is t))

none-every : (f : Item → Bool) (is : List Item) → any f is ≡ false → T (every (λ (i : Item). not (f i)) is)
unfolding any every
none-every f [] e = tt
none-every f (i ∷ is) e = by_cases (f i) (λ t. absurd (true≢false (rw t at e))) (λ t. rw t (none-every f is (rw t at e)))

-- the integer places before a solidus are those of what stands before it
before-integers : (is js : List Item) → integer_places (is ++ (solidus ∷ js)) ≡ integer_places is
unfolding integer_places
before-integers [] js = refl
before-integers (i ∷ is) js = rw (before-integers is js)

end-places : (is : List Item) → T (every is_place (end_places is))
unfolding end_places every
end-places [] = tt
end-places (i ∷ is) = by_cases (every is_place (i ∷ is)) (λ e. rw e (true-T e)) (λ e. rw e (end-places is))

-- the run of places behind a solidus is all of them
denominator-run : (js : List Item) → T (denominator_fits js) → any is_place (behind_start js) ≡ false
unfolding denominator_fits behind_start any
denominator-run [] t = refl
denominator-run (i ∷ is) t =
    let u = and_left (cond (is_fixed i) (not (any is_place is)) (is_place i && not (any is_place (behind_start is)))) _ t in
    by_cases (is_fixed i)
    (λ e. let number = eqb-true (item_number i) 19 e in rw (number, number) (not_so (any is_place is) (rw e at u)))
    (λ e.
    let v = rw e at u in
    rw (T_true (is_place i) (and_left (is_place i) _ v)) (not_so (any is_place (behind_start is)) (and_right (is_place i) _ v)))

-- the entries in words: the first, and those behind it
entries-first : (ws : List ℕ) → 2 ≤ length ws → entries_in ws ≡ entry (get_or ws 0 0) (get_or ws 1 0) ∷ entries_in (drop 2 ws)
unfolding entries_in entries_at
entries-first [] h = absurd (omega arith)
entries-first (a ∷ []) h = absurd (omega arith)
entries-first (a ∷ b ∷ ws) h = let half : suc (suc (length ws)) / 2 ≡ suc (length ws / 2) = omega arith in rw half

-- behind a solidus the power is anew
solidus-powers : (a p : ℕ) (e : Entry) (es : List Entry) → item_at e ≡ solidus → T (powers_from a p (e ∷ es)) → T (powers_from a a es)
unfolding powers_from along all_of digit_after
solidus-powers a p e es h t = rw h at (and_right (power_fits p e) (powers_from a (digit_after a p (item_at e)) es) t)

-- ---- of a section's words
module _ {z : Section} {words : List ℕ} {s n : ℕ} (o : ItemsOf z words) (k : kind_of z ≡ fraction_kind) (r : FractionRules z.items) (l : Within z)
    (x : CutAt words s (before_cut (items_in words)) (from_cut (items_in words)))
    {before from whole numerator : List ℕ} (eb : before ≡ take s words) (ef : from ≡ drop s words)
    (y : CutAt before n (before_end (items_in before)) (end_places (items_in before))) (ew : whole ≡ take n before) (en : numerator ≡ drop n before) where
  abbrev is : List Item
  is = z.items

  some : any is_solidus is ≡ true
  some = sym (positive-count is_solidus is) ∙ rw r.one

  held : T (every (item_allowed fraction_kind) is)
  held = rw (← o.items, k) at o.allowed

  slash : Solidus is
  slash = solidus-cut is (no-exponent fraction_kind is refl held) some

  -- their items
  before-items : items_in before ≡ before_cut is
  before-items = ap items_in eb ∙ x.before ∙ ap before_cut (sym o.items)

  whole-items : items_in whole ≡ whole_items is
  unfolding whole_items
  whole-items = rw some (ap items_in ew ∙ y.before ∙ ap before_end before-items)

  numerator-items : items_in numerator ≡ numerator_items is
  unfolding numerator_items
  numerator-items = ap items_in en ∙ y.from ∙ ap end_places before-items

  from-items : items_in from ≡ from_cut is
  from-items = ap items_in ef ∙ x.from ∙ ap from_cut (sym o.items)

  main-items : items_in numerator ++ items_in from ≡ main_items is
  unfolding main_items
  main-items = rw (some, numerator-items, from-items)

  -- their entries
  joined : entries_in words ≡ entries_in whole ++ (entries_in numerator ++ entries_in from)
  joined =
      rw (ew, en, ef)
      (x.joins ∙ ap (λ (es : List Entry). es ++ entries_in (drop s words)) (ap entries_in (sym eb) ∙ y.joins)
      ∙ append_assoc (entries_in (take n before)) (entries_in (drop n before)) (entries_in (drop s words)))

  -- how many words they have
  before-size : length before + length from ≡ length words
  before-size = omega (arith, ap length eb, length-take s words, ap length ef, length-drop s words, x.inside)

  whole-size : length whole + length numerator ≡ length before
  whole-size = omega (arith, ap length ew, length-take n before, ap length en, length-drop n before, y.inside)

  in-range : T (every entry_in_range (entries_in whole) && (every entry_in_range (entries_in numerator) && every entry_in_range (entries_in from)))
  in-range =
      carry (ap (every entry_in_range) joined ∙ every-both entry_in_range (entries_in whole) (entries_in numerator ++ entries_in from)
      ∙ ap (λ (b : Bool). every entry_in_range (entries_in whole) && b) (every-both entry_in_range (entries_in numerator) (entries_in from))) o.in_range

  behind-range : T (every entry_in_range (entries_in numerator) && every entry_in_range (entries_in from))
  behind-range = and_right (every entry_in_range (entries_in whole)) _ in-range

  powers : T (run_powers (entries_in whole) && run_powers (entries_in numerator ++ entries_in from))
  unfolding powers_run_down
  powers =
      let size : length (whole_items (items_in words)) ≡ length (entries_in whole) =
      ap (λ (js : List Item). length (whole_items js)) (sym o.items) ∙ sym (ap length whole-items) ∙ items-length (entries_in whole) in
      let front : take (length (whole_items (items_in words))) (entries_in words) ≡ entries_in whole =
      ap (λ (m : ℕ). take m (entries_in words)) size ∙ ap (take (length (entries_in whole))) joined ∙ take-append_seam (entries_in whole) _ in
      let back : drop (length (whole_items (items_in words))) (entries_in words) ≡ entries_in numerator ++ entries_in from =
      ap (λ (m : ℕ). drop m (entries_in words)) size ∙ ap (drop (length (entries_in whole))) joined ∙ drop-append_seam (entries_in whole) _ in
      rw (front, back) at o.powers

  -- the integer part
  whole-held : T (every (item_allowed fraction_kind) (whole_items is))
  whole-held =
      and_left (every (item_allowed fraction_kind) (whole_items is)) (every (item_allowed fraction_kind) (main_items is))
      (carry (sym (ap (every (item_allowed fraction_kind)) (whole-joins is)) ∙ every-both (item_allowed fraction_kind) (whole_items is) (main_items is)) held)

  whole-unfixed : any is_fixed (whole_items is) ≡ false
  unfolding whole_items
  whole-unfixed =
      rw some (or-false (any is_fixed (before_end (before_cut is))) (any is_fixed (end_places (before_cut is)))
      (sym (any_append is_fixed (before_end (before_cut is)) (end_places (before_cut is))) ∙ ap (any is_fixed) (end-joins (before_cut is)) ∙ r.no_fixed)).0

  whole-segment : Segment whole
  unfolding run_powers
  whole-segment =
      let plain : T (every (λ (i : Item). item_allowed fraction_kind i && not (is_fixed i)) (whole_items is)) =
      carry (sym (every-and (item_allowed fraction_kind) (λ (i : Item). not (is_fixed i)) (whole_items is)))
      (and_in (every (item_allowed fraction_kind) (whole_items is)) (every (λ (i : Item). not (is_fixed i)) (whole_items is)) whole-held (none-every is_fixed (whole_items is) whole-unfixed)) in
      record {
        few = omega (arith, before-size, whole-size, o.few);
        in_range = and_left (every entry_in_range (entries_in whole)) _ in-range;
        allowed = rw whole-items (plain-allowed (λ (i : Item). item_allowed fraction_kind i && not (is_fixed i)) (λ i. or_right (item_allowed scientific_kind i) _) (whole_items is) (whole-bare is) plain);
        places = rw whole-items (sym (places-integers (whole_items is) (pointless (whole_items is) whole-held) (whole-bare is)));
        most = rw whole-items l.wholes-most;
        powers = carry (powers-anew _ 0 _ (entries_in whole) (ap (any is_cut) whole-items ∙ whole-bare is)) (and_left (run_powers (entries_in whole)) _ powers);
      }

  -- the numerator
  run : T (every is_place (items_in numerator))
  unfolding numerator_items
  run = rw numerator-items (end-places (before_cut is))

  same-integers : integer_places (items_in numerator ++ items_in from) ≡ integer_places (items_in numerator)
  same-integers =
      ap (λ (js : List Item). integer_places (items_in numerator ++ js)) (from-items ∙ slash.from) ∙ before-integers (items_in numerator) slash.behind

  main-powers : T (powers_from (first_of (count is_place (items_in from))) (first_of (integer_places (items_in numerator))) (entries_in numerator ++ entries_in from))
  unfolding run_powers places_behind
  main-powers =
      let both = items-append (entries_in numerator) (entries_in from) in
      let exponents : places_behind (items_at (entries_in numerator ++ entries_in from)) ≡ count is_place (items_in from) =
      ap places_behind (both ∙ main-items) ∙ main-exponents is ∙ ap (count is_place) (sym from-items) in
      let integers : integer_places (items_at (entries_in numerator ++ entries_in from)) ≡ integer_places (items_in numerator) = ap integer_places both ∙ same-integers in
      rw (← exponents, ← integers) (and_right (run_powers (entries_in whole)) _ powers)

  numerator-segment : Segment numerator
  numerator-segment =
      let allowed = places-held (items_in numerator) run in
      record {
        few = omega (arith, before-size, whole-size, o.few);
        in_range = and_left (every entry_in_range (entries_in numerator)) _ behind-range;
        allowed = allowed;
        places = places-counted (items_in numerator) run;
        most = omega (arith, same-integers, ap integer_places main-items, l.integers-most);
        powers = carry (powers-anew _ 0 _ (entries_in numerator) (held-bare number_kind (items_in numerator) refl refl allowed)) (powers-front _ _ (entries_in numerator) (entries_in from) main-powers);
      }

  -- from the solidus on
  two : 2 ≤ length from
  two = omega (arith, items-counted from, ap length (from-items ∙ slash.from))

  abbrev first : Entry
  first = entry (get_or from 0 0) (get_or from 1 0)

  first-items : items_in from ≡ item_at first ∷ items_in (drop 2 from)
  unfolding items_at
  first-items = ap items_at (entries-first from two)

  first-solidus : item_at first ≡ solidus
  first-solidus = head-eq_of_cons-eq (sym first-items ∙ from-items ∙ slash.from)

  behind-items : items_in (drop 2 from) ≡ slash.behind
  behind-items = tail-eq_of_cons-eq (sym first-items ∙ from-items ∙ slash.from)

  behind-single : any is_solidus (items_in (drop 2 from)) ≡ false
  unfolding count
  behind-single =
      let none : count is_solidus slash.behind ≡ 0 = omega (arith, cut-count is_solidus is, ap (count is_solidus) slash.from, r.one) in
      ap (any is_solidus) behind-items ∙ sym (positive-count is_solidus slash.behind) ∙ rw none

  behind-held : T (every (item_allowed fraction_kind) (items_in (drop 2 from)))
  behind-held = rw behind-items (every-tail (item_allowed fraction_kind) solidus slash.behind (rw slash.from at (every-from (item_allowed fraction_kind) is held)))

  behind : Behind (drop 2 from)
  unfolding count places_behind
  behind =
      let places : count is_place (items_in from) ≡ count is_place (items_in (drop 2 from)) = ap (count is_place) (first-items ∙ ap (λ (i : Item). i ∷ items_in (drop 2 from)) first-solidus) in
      let all : T (powers_from (first_of (count is_place (items_in from))) 0 (entries_in from)) =
      powers-behind _ 0 _ (entries_in numerator) (entries_in from) solidus slash.behind refl (from-items ∙ slash.from) main-powers in
      let anew : T (powers_from (first_of (count is_place (items_in from))) (first_of (count is_place (items_in from))) (entries_in (drop 2 from))) =
      solidus-powers _ 0 first (entries_in (drop 2 from)) first-solidus (carry (ap (powers_from (first_of (count is_place (items_in from))) 0) (entries-first from two)) all) in
      let bare : any is_cut (items_in (drop 2 from)) ≡ false =
      any-either is_exponent is_solidus (items_in (drop 2 from)) ∙ rw (no-exponent fraction_kind (items_in (drop 2 from)) refl behind-held, behind-single) in
      record {
        few = omega (arith, length-drop 2 from, before-size, o.few);
        in_range = every-tail entry_in_range first (entries_in (drop 2 from)) (carry (ap (every entry_in_range) (entries-first from two)) (and_right (every entry_in_range (entries_in numerator)) _ behind-range));
        allowed = behind-held;
        single = behind-single;
        most = omega (arith, sym places ∙ ap (count is_place) from-items, l.exponents-most);
        run = rw behind-items (denominator-run slash.behind (rw slash.from at r.denominator));
        powers = carry (powers-anew _ 0 _ (entries_in (drop 2 from)) bare ∙ ap (λ (m : ℕ). powers_from 0 (first_of m) (entries_in (drop 2 from))) places) anew;
      }

  ended : T (every (item_allowed fraction_kind) (before_end (before_cut is)) && every (item_allowed fraction_kind) (numerator_items is))
  unfolding numerator_items
  ended =
      carry (sym (ap (every (item_allowed fraction_kind)) (end-joins (before_cut is))) ∙ every-both (item_allowed fraction_kind) (before_end (before_cut is)) (end_places (before_cut is)))
      (every-before (item_allowed fraction_kind) is held)

  pub parts-few : length whole + length numerator + length from ≤ 508
  parts-few = omega (arith, before-size, whole-size, o.few)

  pub fraction-ready : FractionReady whole numerator from
  fraction-ready = record {
    few = parts-few;
    integer = whole-segment;
    above = numerator-segment;
    held = rw numerator-items (and_right (every (item_allowed fraction_kind) (before_end (before_cut is))) (every (item_allowed fraction_kind) (numerator_items is)) ended);
    below = record { some = two; items = first-items ∙ ap (λ (i : Item). i ∷ items_in (drop 2 from)) first-solidus; behind = behind };
  }

  shown-text : (f : Mixed) → fraction_units f is ≡ mixed_text f (items_in whole) (items_in numerator) (items_in from)
  unfolding fraction_units is_parted mixed_text
  shown-text f = rw (← whole-items, ← main-items, ← numerator-items, ← from-items)

  -- what is shown of the words is what is shown of the section
  pub fraction-shows : {old out : List ℕ} {t : Result Shown Refusal} {colour : ℕ} (size i : ℕ) (minus exact : Bool) (f : Mixed) → colour ≡ z.colour
      → Shows (within size (look_of (sign_text minus ++ mixed_text f (items_in whole) (items_in numerator) (items_in from)) colour i exact)) old t out
      → Shows (fraction_reading size z i minus exact f) old t out
  unfolding fraction_reading
  fraction-shows size i minus exact f ec h =
      let text : fraction_units f is ≡ mixed_text f (items_in whole) (items_in numerator) (items_in from) = shown-text f in
      rw (text, ← ec) h
