-- What the pass has kept at its end, field by field: it is the tally. The loop over the words.
-- Assumes nothing.
use Prim.Native.Nat.{ℕ, ◌+◌, ◌*◌, ◌/◌, ◌%◌, ◌^◌, ◌≤◌}
use native.Mathlib.Omega.{arith}
use native.Mathlib.Nat.{zero-add, div-one}
use mathlib.Core.Path.{◌≡◌, refl, sym, ◌∙◌, ap}
use mathlib.Core.Bool.{Bool, true, false, cond, ◌&&◌, ◌||◌}
use mathlib.Core.List.{List, [], ◌∷◌}
use lib.Dec.{ltb, eqb, eqb-suc-zero}
use lib.ListN.{length, get_or}
use borrow.Author.Tests.{eqb-true}
use Rattle.lists.specs.Lists.{every, any, count}
use Rattle.lists.proofs.Bools.{by_cases}
use Rattle.lists.proofs.Counts.{count-least, any_same, any-either, every-and, positive-count}
use Rattle.formats.specs.Tokens.{hours, minutes, seconds}
use Rattle.formats.specs.Items.{Item, elapsed, is_place, is_point, is_percent, is_hour, is_minute, is_second, is_part, is_elapsed_of, is_half, is_exponent, is_solidus, is_cut, is_space, item_row, item_makes, item_number, before_cut, from_cut, integer_places, decimal_places, places_behind}
use Rattle.formats.specs.Limits.{elapsed_short, fixed_small}
use Rattle.formats.proofs.Each.{by-item, by-elapsed}
use Rattle.tables.specs.Words.{Entry, entries_in}
use Rattle.tables.specs.Encode.{bit}
use Rattle.tables.specs.Decode.{item_at, items_at}
use Rattle.tables.proofs.Words.{entries_at-length}
use Rattle.tables.proofs.BackEntries.{items-length}
use Rattle.tallies.specs.declared.Walk.{Walk}
use Rattle.tallies.specs.Tally.{makes_text, makes_date, belongs_date, tally_of}
use Rattle.tallies.specs.Walk.{packed, tallies, weight, is_long, is_misplaced, other_tests, date_tests, figure_tests, behind_unit, number_weight, unit_after, step_of, walk_from, start_of, finished_of, Few}
use Rattle.tallies.proofs.Packed.{tallies-none, tallies-turn, ones, weight-most, Small, digits_from, digit_at_lem, tallies-small, packed-positive}
use Rattle.tallies.proofs.Places.{places-counted}

-- ---- sums of weights
module _ (f : Walk → ℕ) (ps : List (Item → Bool)) (turn : (w : Walk) (e : Entry) → f (step_of w e) ≡ f w + weight ps (item_at e)) where
  summed : (w : Walk) (es : List Entry) → f (walk_from w es) ≡ f w + packed (tallies ps (items_at es))
  unfolding walk_from items_at
  summed w [] = rw (tallies-none ps) (omega arith)
  summed w (e ∷ es) = omega (arith, summed (step_of w e) es, turn w e, tallies-turn ps (item_at e) (items_at es))

-- ---- the numbers: what is still to be added
numbers_left : ℕ → List Item → ℕ
numbers_left unit [] = 0
numbers_left unit (i ∷ is) = number_weight unit i + numbers_left (unit_after unit i) is

numbers-walked : (w : Walk) (es : List Entry) → (walk_from w es).numbers ≡ w.numbers + numbers_left w.unit (items_at es)
unfolding walk_from step_of items_at numbers_left
numbers-walked w [] = omega arith
numbers-walked w (e ∷ es) = omega (arith, numbers-walked (step_of w e) es)

-- an E, a solidus, a point, a place `?` or another, or none of these
figure-cases : {P : Type 0} (i : Item) → (item_number i ≡ 17 → P) → (item_number i ≡ 18 → P) → (item_number i ≡ 4 → P) → (item_number i ≡ 3 → eqb (item_row i).variant 2 ≡ true → P)
    → (item_number i ≡ 3 → eqb (item_row i).variant 2 ≡ false → P) → (is_exponent i ≡ false → is_solidus i ≡ false → is_point i ≡ false → is_place i ≡ false → P) → P
figure-cases i e c p s q o =
    by_cases (is_exponent i) (λ x. e (eqb-true (item_number i) 17 x))
    (λ x. by_cases (is_solidus i) (λ y. c (eqb-true (item_number i) 18 y))
    (λ y. by_cases (is_point i) (λ g. p (eqb-true (item_number i) 4 g))
    (λ g. by_cases (is_place i)
    (λ k. by_cases (eqb (item_row i).variant 2) (s (eqb-true (item_number i) 3 k)) (q (eqb-true (item_number i) 3 k)))
    (o x y g))))

abbrev figures_of : List Item → ℕ
figures_of is = packed (tallies figure_tests is)

-- behind an E, behind a point, from the start
behind-numbers : (is : List Item) → numbers_left behind_unit is ≡ 65536 * figures_of is + behind_unit * count is_place is + 281474976710656 * count is_misplaced is
unfolding numbers_left number_weight unit_after count weight bit
behind-numbers [] = rw (tallies-none figure_tests)
behind-numbers (i ∷ is) =
    let h = behind-numbers is in
    rw (tallies-turn figure_tests i is)
    (figure-cases i (λ n. rw n (omega arith)) (λ n. rw n (omega arith)) (λ n. rw n (omega arith)) (λ n v. rw (n, v) (omega arith)) (λ n v. rw (n, v) (omega arith))
    (λ x y g k. rw (x, y, g, k) (omega arith)))

abbrev behind_of : List Item → ℕ
behind_of is = behind_unit * places_behind is + 281474976710656 * count is_misplaced (from_cut is)

closed-numbers : (is : List Item) → numbers_left 256 is ≡ 256 * count is_place (before_cut is) + 65536 * figures_of is + behind_of is
unfolding numbers_left number_weight unit_after before_cut from_cut places_behind count weight bit
closed-numbers [] = rw (tallies-none figure_tests)
closed-numbers (i ∷ is) =
    let h = closed-numbers is in
    rw (tallies-turn figure_tests i is)
    (figure-cases i (λ n. rw (n, n) (omega (arith, behind-numbers is))) (λ n. rw (n, n) (omega (arith, behind-numbers is))) (λ n. rw (n, n) (omega arith)) (λ n v. rw (n, n, v) (omega arith)) (λ n v. rw (n, n, v) (omega arith))
    (λ x y g k. rw (x, y, g, k) (omega arith)))

opened-numbers : (is : List Item) → numbers_left 1 is ≡ integer_places is + 256 * decimal_places is + 65536 * figures_of is + behind_of is
unfolding numbers_left number_weight unit_after integer_places decimal_places from_cut places_behind count weight bit
opened-numbers [] = rw (tallies-none figure_tests)
opened-numbers (i ∷ is) =
    let h = opened-numbers is in
    rw (tallies-turn figure_tests i is)
    (figure-cases i (λ n. rw (n, n) (omega (arith, behind-numbers is))) (λ n. rw (n, n) (omega (arith, behind-numbers is))) (λ n. rw n (omega (arith, closed-numbers is))) (λ n v. rw (n, v) (omega arith)) (λ n v. rw (n, v) (omega arith))
    (λ x y g k. rw (x, y, g, k) (omega arith)))

from-short : (is : List Item) → length (from_cut is) ≤ length is
unfolding from_cut
from-short [] = omega arith
from-short (i ∷ is) = by_cases (is_cut i) (λ x. rw x (omega arith)) (λ x. rw x (omega (arith, from-short is)))

-- ---- what an item's weight says
date-weight : (i : Item) → ltb 0 (weight date_tests i) ≡ makes_date i
unfolding weight bit item_makes
date-weight =
    by-item (λ i. ltb 0 (weight date_tests i) ≡ makes_date i) (λ u. refl) (λ u. refl) (λ u. refl) (λ p. refl) refl refl refl refl
    (λ n. refl) (λ n. refl) (λ n. refl) (λ n. refl) (λ n. refl) (λ n. refl) (λ n. refl)
    (λ e n. by-elapsed (λ d. ltb 0 (weight date_tests (elapsed d n)) ≡ makes_date (elapsed d n)) refl refl refl e) (λ h. refl) (λ m. refl)
    refl (λ n. refl)

-- a half-day mark or a part of a second
abbrev beside_tests : List (Item → Bool)
beside_tests = is_half ∷ is_part ∷ []

beside-weight : (i : Item) → ltb 0 (weight beside_tests i) ≡ (is_half i || is_part i)
unfolding weight bit
beside-weight i = by_cases (is_half i) (λ h. rw h (by_cases (is_part i) (λ k. rw k) (λ k. rw k))) (λ h. rw h (by_cases (is_part i) (λ k. rw k) (λ k. rw k)))

none-long : (is : List Item) → eqb (count is_long is) 0 ≡ every (λ (i : Item). elapsed_short i && fixed_small i) is
unfolding count every
none-long [] = refl
none-long (i ∷ is) = by_cases (elapsed_short i && fixed_small i) (λ h. rw h (none-long is)) (λ h. rw h (eqb-suc-zero (count is_long is)))

-- ---- the end
module _ (es : List Entry) (few : length es ≤ 254) where
  abbrev is : List Item
  is = items_at es

  abbrev end : Walk
  end = walk_from start_of es

  few-items : length is ≤ 254
  few-items = rw (items-length es) few

  abbrev number_counts : List ℕ
  number_counts =
      integer_places is ∷ decimal_places is ∷ count is_point is ∷ count is_percent is ∷ count is_exponent is ∷ places_behind is ∷ count is_misplaced (from_cut is) ∷ []

  numbers-are : end.numbers ≡ packed number_counts
  unfolding packed tallies
  numbers-are = omega (arith, numbers-walked start_of es, opened-numbers is)

  numbers-small : Small number_counts
  unfolding places_behind
  numbers-small =
      let l = few-items in
      let p = places-counted is in
      let c = count-least is_place is in (
        omega arith,
        (
          omega arith,
          (
            omega (arith, count-least is_point is),
            (
              omega (arith, count-least is_percent is),
              (
                omega (arith, count-least is_exponent is),
                (omega arith, (omega (arith, count-least is_misplaced (from_cut is), from-short is), tt)),
              ),
            ),
          ),
        ),
      )

  small : (ps : List (Item → Bool)) → Small (tallies ps is)
  small ps = tallies-small ps is (omega (arith, few-items))

  others-are : end.others ≡ packed (tallies other_tests is)
  unfolding step_of
  others-are = summed (λ (w : Walk). w.others) other_tests (λ w e. refl) start_of es ∙ zero-add _

  dates-are : end.dates ≡ packed (tallies date_tests is)
  unfolding step_of
  dates-are = summed (λ (w : Walk). w.dates) date_tests (λ w e. refl) start_of es ∙ zero-add _

  number-digit : (j : ℕ) → end.numbers / 256 ^ j % 256 ≡ get_or number_counts j 0
  number-digit j = rw numbers-are (digit_at_lem number_counts j numbers-small)

  other-digit : (j : ℕ) → end.others / 256 ^ j % 256 ≡ get_or (tallies other_tests is) j 0
  other-digit j = rw others-are (digit_at_lem (tallies other_tests is) j (small other_tests))

  first-of : (n c : ℕ) → n / 1 % 256 ≡ c → n % 256 ≡ c
  first-of n c e = ap (λ (m : ℕ). m % 256) (sym (div-one n)) ∙ e

  -- the flag of a digit
  flag : (n : ℕ) (p : Item → Bool) (xs : List Item) → n ≡ count p xs → ltb 0 n ≡ any p xs
  flag n p xs h = ap (λ (n : ℕ). ltb 0 n) h ∙ positive-count p xs

  date-flag : (j : ℕ) (p : Item → Bool) → get_or (tallies date_tests is) j 0 ≡ count p is → ltb 0 (end.dates / 256 ^ j % 256) ≡ any p is
  date-flag j p h =
      let digit : end.dates / 256 ^ j % 256 ≡ get_or (tallies date_tests is) j 0 = rw dates-are (digit_at_lem (tallies date_tests is) j (small date_tests)) in
      flag _ p is (digit ∙ h)

  dating-told : ltb 0 end.dates ≡ any makes_date is
  dating-told = rw dates-are (packed-positive date_tests is ∙ any_same (λ (i : Item). ltb 0 (weight date_tests i)) makes_date date-weight is)

  dates-told : (ltb 0 end.dates || ltb 0 (end.others / 1099511627776)) ≡ any belongs_date is
  unfolding tallies
  dates-told =
      let beside : Item → Bool = λ i. ltb 0 (weight beside_tests i) in
      let high : end.others / 1099511627776 ≡ packed (tallies beside_tests is) = rw others-are (digits_from (tallies other_tests is) 5 (small other_tests)) in
      rw (dating-told, high, packed-positive beside_tests is)
      (sym (any-either makes_date beside is) ∙ any_same (λ (i : Item). makes_date i || beside i) belongs_date (λ i. rw (beside-weight i)) is)

  misplaced-told : ltb 0 (end.numbers / 281474976710656 % 256) ≡ (any is_point (from_cut is) || any is_space (from_cut is))
  misplaced-told = flag _ is_misplaced (from_cut is) (number-digit 6) ∙ any-either is_point is_space (from_cut is)

  finished-is : finished_of end ≡ tally_of es
  unfolding tally_of tallies
  finished-is = λ i. record {
    integers = first-of end.numbers _ (number-digit 0) i;
    decimals = number-digit 1 i;
    points = number-digit 2 i;
    percents = number-digit 3 i;
    exponents = number-digit 4 i;
    places_behind = number-digit 5 i;
    misplaced = misplaced-told i;
    generals = first-of end.others _ (other-digit 0) i;
    texts = flag _ makes_text is (other-digit 1) i;
    elapsed = other-digit 2 i;
    short = (ap (λ (n : ℕ). eqb n 0) (other-digit 3) ∙ none-long is ∙ every-and elapsed_short fixed_small is) i;
    solidi = other-digit 4 i;
    halves = flag _ is_half is (other-digit 5) i;
    dating = dating-told i;
    dates = dates-told i;
    hours = date-flag 1 is_hour refl i;
    minutes = date-flag 2 is_minute refl i;
    seconds = date-flag 3 is_second refl i;
    elapsed_hours = date-flag 4 (is_elapsed_of hours) refl i;
    elapsed_minutes = date-flag 5 (is_elapsed_of minutes) refl i;
    elapsed_seconds = date-flag 6 (is_elapsed_of seconds) refl i;
  }

-- ---- no weight is too large
few-step : (w : Walk) (e : Entry) (n : ℕ) → Few n w → Few (n + 1) (step_of w e)
unfolding step_of number_weight unit_after ones
few-step w e n h =
    let i = item_at e in
    let m = weight-most figure_tests i in
    let unit = h.unit in
    let plain : cond (is_place i) w.unit (65536 * weight figure_tests i) ≤ 281474976710656 =
    by_cases (is_place i) (λ g. rw g (omega arith)) (λ g. rw g (omega arith)) in
    record {
      numbers = by_cases (is_misplaced i && eqb w.unit behind_unit) (λ b. rw b (omega (arith, h.numbers))) (λ b. rw b (omega (arith, h.numbers)));
      others = omega (arith, h.others, weight-most other_tests i);
      dates = omega (arith, h.dates, weight-most date_tests i);
      unit = by_cases (is_cut i) (λ x. rw x (omega arith)) (λ x. rw x (by_cases (is_point i && eqb w.unit 1) (λ g. rw g (omega arith)) (λ g. rw g unit)));
    }

few-most : (w : Walk) (n : ℕ) → Few n w → n ≤ 253 → Few 253 w
few-most w n h g = omega arith

-- ---- the loop, behind k items with these left
pub record Walking (words : List ℕ) (k : ℕ) (left : List Entry) (w : Walk) : Type 0 where
  pub few : Few k w
  pub same : walk_from start_of (entries_in words) ≡ walk_from w left

pub walking_start : (words : List ℕ) → Walking words 0 (entries_in words) start_of
walking_start words = record { few = record { numbers = omega arith; others = omega arith; dates = omega arith; unit = omega arith }; same = refl }

module _ {words : List ℕ} {k : ℕ} {left : List Entry} {w : Walk} (inv : Walking words k left w) where
  pub walking-few : k ≤ 253 → Few 253 w
  walking-few h = few-most w k inv.few h

  pub walking-step : (e : Entry) (rest : List Entry) → left ≡ e ∷ rest → Walking words (k + 1) rest (step_of w e)
  unfolding walk_from
  walking-step e rest front = record { few = few-step w e k inv.few; same = inv.same ∙ ap (walk_from w) front }

  pub walking-end : length words ≤ 508 → left ≡ [] → finished_of w ≡ tally_of (entries_in words)
  unfolding walk_from entries_in
  walking-end h none =
      let same : walk_from start_of (entries_in words) ≡ w = inv.same ∙ ap (walk_from w) none in
      ap finished_of (sym same) ∙ finished-is (entries_in words) (omega (arith, entries_at-length (length words / 2) words))
