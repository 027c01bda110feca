-- How long a section's text can be: each item has at most 82 units, General and `@` apart, which have as many as they stand for.
-- Assumes nothing.
use Prim.Native.Nat.{ℕ, zero, suc, ◌+◌, ◌-◌, ◌*◌, ◌/◌, ◌%◌, ◌^◌, ◌≤◌}
use native.Mathlib.Nat.{mul-suc}
use native.Mathlib.Omega.{arith}
use mathlib.Core.Path.{◌≡◌, refl}
use mathlib.Core.Bool.{Bool, true, false, cond, ◌&&◌}
use mathlib.Core.List.{List, [], ◌∷◌, ◌++◌, flatten}
use lib.ListN.{length, take, length-append, length-take, length-map}
use lib.Dec.{T, leb, eqb}
use borrow.Author.Tests.{leb-true}
use Rattle.values.specs.Ranges.{between}
use Rattle.lists.specs.Lists.{is_empty, every}
use Rattle.lists.proofs.Bools.{cond_both, cond-case, every-head, every-tail}
use Rattle.figures.specs.Digits.{digit, digit_unit, digit_units, numeral}
use Rattle.figures.specs.General.{without_end_zeros, pointed, general_units}
use Rattle.figures.proofs.Digits.{digit_units-length}
use Rattle.calendar.specs.Clock.{afternoon}
use Rattle.calendar.specs.Names.{units, short_name, first_letter, month_name, weekday_name}
use Rattle.formats.specs.Tokens.{Place, zero_place, hash_place, space_place, HalfDay, short, long, run_allowed, ExponentMark, e_plus, e_minus}
use Rattle.formats.specs.Items.{Item, general, at, Kind, item_in_range, item_allowed}
use Rattle.formats.specs.Text.{Context, insignificant, idle_units, ends_group, with_separator, figure_units, extra_units, units_beyond, at_first_integer, place_units, point_units, year_units, named_units, hour_shown, part_units, elapsed_count, half_units, item_units, items_units, digit_after, along, first_of, exponent_units}
use Rattle.formats.proofs.Each.{by-item}
use Rattle.tables.specs.Words.{Entry, entries_in}
use Rattle.tables.specs.Decode.{item_at, items_at}
use Rattle.tables.proofs.BackEntries.{between-facts, items-ranged}
use Rattle.tables.proofs.Words.{entries_at-length}
use Rattle.writing.proofs.Numerals.{numeral-short}
use Rattle.figure_text.specs.declared.Figures.{Figures}
use Rattle.date_text.proofs.Letters.{month-spelt, weekday-spelt}
use Rattle.section_text.specs.declared.Subject.{Subject}
use Rattle.section_text.specs.Subject.{StandsFor, SubjectIs}
use Rattle.section_text.specs.Walk.{EntriesFit, TextOf, HasText}

-- ---- figures
idle-length : (p : Place) → length (idle_units p) ≤ 1
unfolding idle_units
idle-length zero_place = omega arith
idle-length hash_place = omega arith
idle-length space_place = omega arith

separator-length : (us : List ℕ) → length us ≤ 1 → length (with_separator us) ≤ 2
unfolding with_separator
separator-length [] h = omega arith
separator-length (u ∷ us) h = omega arith

figure-length : (n : ℕ) (grouped : Bool) (p : Place) (q : ℕ) → length (figure_units n grouped p q) ≤ 2
unfolding figure_units
figure-length n grouped p q =
    let one : length (cond (insignificant n q) (idle_units p) (digit_unit (digit n q) ∷ [])) ≤ 1 =
    cond_both (λ (l : List ℕ). length l ≤ 1) (insignificant n q) (idle-length p) (omega arith) in
    cond_both (λ (l : List ℕ). length l ≤ 2) (grouped && ends_group q) (separator-length _ one) (omega (arith, one))

extra-length : (n : ℕ) (grouped : Bool) (q count : ℕ) → length (extra_units n grouped q count) ≤ 2 * count
unfolding extra_units
extra-length n grouped q zero = omega arith
extra-length n grouped q (suc count) =
    rw (length-append (figure_units n grouped hash_place (q + count)) (extra_units n grouped q count))
    (omega (arith, figure-length n grouped hash_place (q + count), extra-length n grouped q count))

beyond-length : (c : Context) (b : Bool) (q : ℕ) (us : List ℕ) → length us ≤ 2 → length (cond b (units_beyond c q) [] ++ us) ≤ 82
beyond-length c true q us h =
    rw (length-append (units_beyond c q) us) (omega (arith, extra-length c.figures c.grouped (suc q) (39 - q)))
beyond-length c false q us h = omega arith

place-length : (c : Context) (p : Place) (q : ℕ) → length (place_units c p q) ≤ 82
unfolding place_units
place-length c p q = beyond-length c (at_first_integer c q) q _ (figure-length c.figures c.grouped p q)

point-length : (c : Context) → length (point_units c) ≤ 82
unfolding point_units
point-length c = beyond-length c (eqb c.integer_places 0) 14 _ (omega arith)

end-zeros-length : (us : List ℕ) → length (without_end_zeros us) ≤ length us
unfolding without_end_zeros
end-zeros-length [] = omega arith
end-zeros-length (u ∷ us) =
    cond_both (λ (l : List ℕ). length l ≤ suc (length us)) (is_empty (without_end_zeros us) && eqb u 48) (omega arith)
    (omega (arith, end-zeros-length us))

pointed-length : (us : List ℕ) → length (pointed us) ≤ suc (length us)
unfolding pointed
pointed-length [] = omega arith
pointed-length (u ∷ us) = omega arith

general-length : (n : ℕ) → length (general_units n) ≤ 82
unfolding general_units
general-length n =
    let us = without_end_zeros (digit_units 15 n) in
    rw (length-append (numeral 1 (n / 10 ^ 15)) (pointed us))
    (omega (arith, numeral-short 1 (n / 10 ^ 15) (omega arith), pointed-length us, end-zeros-length (digit_units 15 n), digit_units-length 15 n))

-- ---- days
year-length : (n y : ℕ) → length (year_units n y) ≤ 25
unfolding year_units
year-length n y =
    cond_both (λ (l : List ℕ). length l ≤ 25) (eqb n 2) (numeral-short 2 (y % 100) (omega arith)) (numeral-short 4 y (omega arith))

take_short : (k : ℕ) (name : List ℕ) → length name ≤ 9 → length (take k name) ≤ 25
take_short k name h = rw (length-take k name) (omega arith)

named-length : (n number : ℕ) (name : List ℕ) → length name ≤ 9 → length (named_units n number name) ≤ 25
unfolding named_units short_name first_letter
named-length n number name h =
    cond-case (λ (l : List ℕ). length l ≤ 25) (leb n 2) (λ e. numeral-short n number (omega (arith, leb-true n 2 e)))
    (λ e. cond_both (λ (l : List ℕ). length l ≤ 25) (eqb n 3) (take_short 3 name h)
    (cond_both (λ (l : List ℕ). length l ≤ 25) (eqb n 4) (omega arith) (take_short 1 name h)))

run_short : (n most number : ℕ) → most ≤ 9 → T (between 1 most n) → length (numeral n number) ≤ 25
run_short n most number h r = numeral-short n number (omega (arith, between-facts 1 most n r))

part_length : (n t : ℕ) → T (between 1 3 n) → length (part_units n t) ≤ 25
unfolding part_units
part_length n t r = rw (digit_units-length n (t / 10 ^ (3 - n))) (omega (arith, between-facts 1 3 n r))

half_length : (h : HalfDay) (b : Bool) → length (half_units h b) ≤ 2
unfolding half_units units
half_length short true = omega arith
half_length short false = omega arith
half_length long true = omega arith
half_length long false = omega arith

exponent-length : (m : ExponentMark) (b : Bool) → length (exponent_units m b) ≤ 2
unfolding exponent_units units
exponent-length e_plus true = omega arith
exponent-length e_plus false = omega arith
exponent-length e_minus true = omega arith
exponent-length e_minus false = omega arith

-- ---- items
-- in a section of kind k, where what General and `@` stand for is short if it may hold them
module _ (c : Context) (k : Kind) (n : ℕ) (h : 82 ≤ n) (g : T (item_allowed k general) → length c.standing ≤ n)
    (a : T (item_allowed k at) → length c.standing ≤ n) where
  item-short : (q : ℕ) (i : Item) → T (item_in_range i) → T (item_allowed k i) → length (item_units c q i) ≤ n
  unfolding item_units item_in_range run_allowed units
  item-short q =
      by-item (λ i. T (item_in_range i) → T (item_allowed k i) → length (item_units c q i) ≤ n)
      (λ u r f. omega arith)
      (λ u r f. omega arith)
      (λ u r f. omega arith)
      (λ p r f. omega (arith, place-length c p q))
      (λ r f. omega (arith, point-length c))
      (λ r f. omega arith)
      (λ r f. g f)
      (λ r f. a f)
      (λ m r f. omega (arith, year-length m c.date.year))
      (λ m r f. omega (arith, named-length m c.date.month (month_name c.date.month) (month-spelt c.date.month _ refl).short))
      (λ m r f. omega (arith, named-length m c.date.day_of_month (weekday_name c.date.weekday) (weekday-spelt c.date.weekday _ refl).short))
      (λ m r f. omega (arith, run_short m 2 (hour_shown c.twelve c.clock.hour) (omega arith) r))
      (λ m r f. omega (arith, run_short m 2 c.clock.minute (omega arith) r))
      (λ m r f. omega (arith, run_short m 2 c.clock.second (omega arith) r))
      (λ m r f. omega (arith, part_length m c.clock.thousandth r))
      (λ e m r f. omega (arith, run_short m 9 (elapsed_count e c.elapsed) (omega arith) r))
      (λ d r f. omega (arith, half_length d (afternoon c.clock.hour)))
      (λ m r f. omega (arith, exponent-length m c.below))
      (λ r f. omega arith)
      (λ m r f. omega (arith, numeral-short 1 m (omega arith)))

  pub items-short : (q : ℕ) (is : List Item) → T (every item_in_range is) → T (every (item_allowed k) is) → length (items_units c q is) ≤ n * length is
  unfolding items_units along flatten
  items-short q [] r f = omega arith
  items-short q (i ∷ is) r f =
      let here = item-short q i (every-head item_in_range i is r) (every-head (item_allowed k) i is f) in
      let later = items-short (digit_after (first_of c.integer_places) q i) is (every-tail item_in_range i is r) (every-tail (item_allowed k) i is f) in
      rw (mul-suc n (length is), length-append (item_units c q i) (items_units c (digit_after (first_of c.integer_places) q i) is)) (omega (arith, here, later))

  pub words-short : (q : ℕ) (words : List ℕ) → EntriesFit k c q (entries_in words) → length (items_units c q (items_at (entries_in words))) ≤ n * (length words / 2)
  unfolding entries_in items_at
  words-short q words f =
      rw (length-map (entries_in words) item_at, entries_at-length (length words / 2) words) at
      (items-short q (items_at (entries_in words)) (items-ranged (entries_in words) f.in_range) f.allowed)

-- what General and `@` stand for
standing-short : (b : Bool) (digits : List ℕ) (f : Figures) (text us : List ℕ) (n : ℕ) → 82 ≤ n → (b ≡ true → length text ≤ n)
    → StandsFor b digits f text us → length us ≤ n
standing-short true digits f text us n h l e = rw e at (l refl)
standing-short false digits f text us n h l g = rw g.shows (omega (arith, general-length g.context.figures))

module _ (n : ℕ) (words : List ℕ) (h : 82 ≤ n) where
  -- of a subject, whose text has at most n units where it is lent
  pub subject-short : {digits : List ℕ} {s : Subject} {text us : List ℕ} → (s.lent ≡ true → length text ≤ n)
      → TextOf (λ k. SubjectIs k digits s text) (entries_in words) us → length us ≤ n * (length words / 2)
  unfolding item_allowed
  subject-short {digits} {s} {text} l t =
      let short = standing-short s.lent digits s.figures text t.context.standing n h l in
      rw t.is (words-short t.context t.kind n h (λ g. short (t.subject.general g)) (λ a. short (t.subject.textual a)) t.power words t.fit)

-- so the text of few words keeps a walk's places small
pub short-text : {text : List Entry → List ℕ → Type 0} (words us : List ℕ) → length words ≤ 508 → text (entries_in words) us
    → length us ≤ 1024 * (length words / 2) → HasText text (entries_in words)
short-text words us few t h = record { units = us; has = t; short = omega (arith, h, few) }
