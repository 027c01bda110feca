-- The figures of items without an E or solidus, read back, are the rounded number: of a number section, and of a scientific one's items before the E
-- and behind it.
-- Assumes nothing.
use mathlib.Core.Path.{◌≡◌, refl, sym, ap, ◌∙◌}
use Prim.Native.Nat.{ℕ, zero, suc, ◌+◌, ◌-◌, ◌*◌, ◌/◌, ◌%◌, ◌^◌, ◌≤◌, ◌<◌}
use native.Mathlib.Nat.{div-eq_of_lt, lt_of_lt_of_le, mul-le-mul_right, mul-mod_left}
use native.Mathlib.Omega.{arith}
use mathlib.Core.Bool.{Bool, true, false, cond, true≢false}
use mathlib.Core.List.{List, [], ◌∷◌, ◌++◌, append_assoc}
use borrow.Author.Tests.{eqb-true, eqb-false, ltb-true, lt-ltb, lt-leb, eq-eqb, ne_eqb}
use lib.Dec.{eqb, ltb}
use Rattle.lists.specs.Lists.{any, count}
use Rattle.lists.proofs.Bools.{by_cases}
use Rattle.lists.proofs.Counts.{any-count, none-count, any_same}
use Rattle.figures.proofs.Digits.{mod-next}
use Rattle.formats.specs.Tokens.{Place, ExponentMark, is_digit}
use Rattle.formats.specs.Items.{Item, literal, blank, fill, place, point, percent, general, at, year, month, day, hour, minute, second, part, elapsed, half, exponent, solidus, fixed, number_kind, item_makes, items_kind, is_place, is_point, is_cut, before_cut, integer_places, decimal_places}
use Rattle.formats.specs.Text.{Context, first_digit, first_decimal, insignificant, figure_units, units_beyond, place_units, point_units, item_units, digit_after, along, first_of, item_pieces}
use Rattle.formats.specs.Reading.{whole_context}
use Rattle.formats.specs.Figures.{read_from, units_read, Counts, units_of, figure_pieces}
use Rattle.formats.proofs.FigureUnits.{digit-in, figure-aside, figure-read, extra-read, idle-nought, cut-exact}
use Rattle.formats.proofs.Each.{by-item}
use Rattle.formats.proofs.Cutting.{bare-before, no-decimals, made_some}

-- the units of the figure pieces
abbrev figures_shown : Context → ℕ → List Item → List ℕ
figures_shown c q is = figure_pieces is (item_pieces c q is)

-- an item is a place, the point, an E, the solidus, or none of them
pub item-case : (P : Item → Type 0) → ((p : Place) → P (place p)) → P point → ((m : ExponentMark) → P (exponent m)) → P solidus
    → ((i : Item) → is_place i ≡ false → is_point i ≡ false → is_cut i ≡ false → item_makes number_kind i ≡ false → P i) → (i : Item) → P i
unfolding item_makes
item-case P f g e s h =
    by-item P (λ u. h (literal u) refl refl refl refl) (λ u. h (blank u) refl refl refl refl) (λ u. h (fill u) refl refl refl refl) f
    g (h percent refl refl refl refl) (h general refl refl refl refl) (h at refl refl refl refl)
    (λ n. h (year n) refl refl refl refl) (λ n. h (month n) refl refl refl refl) (λ n. h (day n) refl refl refl refl)
    (λ n. h (hour n) refl refl refl refl) (λ n. h (minute n) refl refl refl refl) (λ n. h (second n) refl refl refl refl)
    (λ n. h (part n) refl refl refl refl) (λ a n. h (elapsed a n) refl refl refl refl) (λ a. h (half a) refl refl refl refl) e
    s (λ n. h (fixed n) refl refl refl refl)

-- a number section has a place
pub makes-place : (i : Item) → item_makes number_kind i ≡ is_place i
unfolding item_makes
makes-place =
    item-case (λ (i : Item). item_makes number_kind i ≡ is_place i) (λ p. refl) refl (λ m. refl) refl
    (λ i not_place not_point not_e other. rw (not_place, other))

pub number-place : (is : List Item) → items_kind is ≡ number_kind → any is_place is ≡ true
number-place is e = sym (any_same (item_makes number_kind) is_place makes-place is) ∙ made_some number_kind is refl e

-- what has been read behind j decimals, where k digits of n are left: n itself where these are noughts, else the digits above them
record Behind (n k j v w : ℕ) : Type 0 where
  exact : n % 10 ^ k ≡ 0 → v * 10 ^ 15 ≡ n * w
  digits : (n % 10 ^ k ≡ 0 → ⊥) → (v ≡ n / 10 ^ k) × (w ≡ 10 ^ j)

behind : (n k j : ℕ) → k + j ≡ 15 → Behind n k j (n / 10 ^ k) (10 ^ j)
behind n k j sum = record { exact = cut-exact n k j sum; digits = λ some. (refl, refl) }

module _ (c : Context) where
  -- a place that is not the first integer place
  place-later : (p : Place) (q : ℕ) → (0 < c.integer_places → suc q < 15 + c.integer_places)
      → place_units c p q ≡ figure_units c.figures c.grouped p q
  unfolding place_units
  place-later p q h =
      by_cases (ltb 0 c.integer_places)
      (λ e.
      let less = h (ltb-true 0 c.integer_places e) in
      rw (e, ne_eqb (suc q) (15 + c.integer_places) (λ f. omega arith)))
      (λ e. rw e)

  place-first : (p : Place) (q : ℕ) → 0 < c.integer_places → suc q ≡ 15 + c.integer_places
      → place_units c p q ≡ units_beyond c q ++ figure_units c.figures c.grouped p q
  unfolding place_units
  place-first p q h e = rw (lt-ltb 0 c.integer_places h, eq-eqb (suc q) (15 + c.integer_places) e)

  -- the r lowest digits have no place and are noughts
  abbrev Decimals : List Item → Type 0
  Decimals is = (k j r v w : ℕ) → k + j ≡ 15 → any is_point is ≡ false → any is_cut is ≡ false → k ≡ count is_place is + r → c.figures % 10 ^ r ≡ 0
      → Behind c.figures k j v w → Counts (read_from true v w (figures_shown c (k - 1) is)) c.figures

  decimals-place : (p : Place) (is : List Item) → Decimals is → Decimals (place p ∷ is)
  unfolding units_of item_units digit_after any count insignificant along
  decimals-place p is rest zero j r v w sum no_point bare places none seen = absurd (omega arith)
  decimals-place p is rest (suc q) j r v w sum no_point bare places none seen =
      let n : ℕ = c.figures in
      let us : List ℕ = figures_shown c (q - 1) is in
      let f : suc q - 1 ≡ q = omega arith in
      let next : 10 ^ j * 10 ≡ 10 ^ suc j = omega arith in
      let sum-next : q + suc j ≡ 15 = omega arith in
      let places-next : q ≡ count is_place is + r = omega arith in
      rw (f, place-later p q (λ h. omega arith), figure-aside true v w n c.grouped p q us, lt-leb 15 q (omega arith))
      (by_cases (eqb (n % 10 ^ suc q) 0)
      (λ z.
      let zeros : n % 10 ^ suc q ≡ 0 = eqb-true (n % 10 ^ suc q) 0 z in
      let lower : n % 10 ^ q ≡ 0 = omega (arith, mod-next n q) in
      rw z
      (idle-nought n v w p us
      (λ v w e. rest q (suc j) r v w sum-next no_point bare places-next none (record { exact = λ h. e; digits = λ h. absurd (h lower) }))
      (seen.exact zeros)))
      (λ z.
      let e = seen.digits (eqb-false (n % 10 ^ suc q) 0 z) in
      rw (z, e.0, e.1, digit-in true n (10 ^ j) q us, next)
      (rest q (suc j) r (n / 10 ^ q) (10 ^ suc j) sum-next no_point bare places-next none (behind n q (suc j) sum-next))))

  decimals-read : (is : List Item) → Decimals is
  unfolding read_from units_of item_units digit_after any count along
  decimals-read [] = λ k j r v w sum no_point bare places none seen.
      let f : k ≡ r = omega arith in
      seen.exact (rw f none)
  decimals-read (i ∷ is) =
      item-case (λ (j : Item). Decimals (j ∷ is))
      (λ p. decimals-place p is (decimals-read is))
      (λ k j r v w sum no_point bare places none seen. absurd (true≢false no_point))
      (λ m k j r v w sum no_point bare places none seen. absurd (true≢false bare))
      (λ k j r v w sum no_point bare places none seen. absurd (true≢false bare))
      (λ j not_place not_point not_e other. rw (not_place, not_point, not_e) (decimals-read is))
      i

  -- what stands behind the point
  behind-point : (is : List Item) → count is_point is ≡ 0 → any is_cut is ≡ false → count is_place is ≤ 15 → c.figures % 10 ^ (15 - count is_place is) ≡ 0
      → Counts (read_from true (c.figures / 10 ^ 15) 1 (figures_shown c 14 is)) c.figures
  behind-point is one_point bare most none =
      let no_point : any is_point is ≡ false = by_cases (any is_point is) (λ e. absurd (omega (arith, any-count is_point is e))) (λ e. e) in
      decimals-read is 15 0 (15 - count is_place is) (c.figures / 10 ^ 15) 1 (omega arith) no_point bare (omega arith) none (behind c.figures 15 0 (omega arith))

  module _ (small : c.figures < 10 ^ 40) (most : c.integer_places ≤ 20) where
    -- what has been read where k integer places are left: nothing before the first, and then the digits above theirs
    abbrev seen : ℕ → ℕ
    seen k = cond (eqb c.integer_places k) 0 (c.figures / 10 ^ (15 + k))

    -- the digits beyond the places
    beyond : (q : ℕ) (us : List ℕ) → 14 ≤ q → q < 40 → read_from false 0 1 (units_beyond c q ++ us) ≡ read_from false (c.figures / 10 ^ suc q) 1 us
    beyond q us least bound =
        let n : ℕ = c.figures in
        let e : suc q + (first_digit - q) ≡ 40 = omega arith in
        let f : n / 10 ^ (suc q + (first_digit - q)) ≡ 0 = ap (λ (x : ℕ). n / 10 ^ x) e ∙ div-eq_of_lt {n = n} {m = 10 ^ 40} small in
        ap (λ (v : ℕ). read_from false v 1 (units_beyond c q ++ us)) (sym f)
        ∙ extra-read n c.grouped (suc q) (first_digit - q) us (omega arith)

    point-read : (us : List ℕ) → read_from false (seen 0) 1 (point_units c ++ us) ≡ read_from true (c.figures / 10 ^ 15) 1 us
    unfolding read_from is_digit point_units
    point-read us =
        by_cases (eqb c.integer_places 0)
        (λ e. rw (e, append_assoc (units_beyond c first_decimal) (46 ∷ []) us) (beyond first_decimal (46 ∷ us) (omega arith) (omega arith)))
        (λ e. rw e)

    place_read : (p : Place) (k : ℕ) (us : List ℕ) → k < c.integer_places
        → read_from false (seen (suc k)) 1 (place_units c p (15 + k) ++ us) ≡ read_from false (c.figures / 10 ^ (15 + k)) 1 us
    place_read p k us h =
        let q : ℕ = 15 + k in
        let here : List ℕ = figure_units c.figures c.grouped p q in
        let f : 15 + suc k ≡ suc q = omega arith in
        let digit-here : read_from false (c.figures / 10 ^ suc q) 1 (here ++ us) ≡ read_from false (c.figures / 10 ^ q) 1 us =
        figure-read c.figures c.grouped p q us (omega arith) in
        by_cases (eqb c.integer_places (suc k))
        (λ e.
        let first : c.integer_places ≡ suc k = eqb-true c.integer_places (suc k) e in
        rw (e, place-first p q (omega arith) (omega arith), append_assoc (units_beyond c q) here us)
        (beyond q (here ++ us) (omega arith) (omega arith) ∙ digit-here))
        (λ e.
        let other : c.integer_places ≡ suc k → ⊥ = eqb-false c.integer_places (suc k) e in
        rw (e, f, place-later p q (λ some. omega arith)) digit-here)

    abbrev Integers : List Item → Type 0
    Integers is = (k : ℕ) → k ≡ integer_places is → k ≤ c.integer_places → (eqb c.integer_places k ≡ true → any is_place is ≡ true)
        → count is_point is ≤ 1 → any is_cut is ≡ false → decimal_places is ≤ 15 → c.figures % 10 ^ (15 - decimal_places is) ≡ 0
        → Counts (read_from false (seen k) 1 (figures_shown c (14 + k) is)) c.figures

    integers-place : (p : Place) (is : List Item) → Integers is → Integers (place p ∷ is)
    unfolding units_of item_units digit_after any count integer_places decimal_places along
    integers-place p is rest zero places before some one_point bare bound none = absurd (omega arith)
    integers-place p is rest (suc k) places before some one_point bare bound none =
        let e : 14 + suc k ≡ 15 + k = omega arith in
        let g : 15 + k - 1 ≡ 14 + k = omega arith in
        let later : eqb c.integer_places k ≡ false = ne_eqb c.integer_places k (λ f. omega arith) in
        rw (e, g, place_read p k (figures_shown c (14 + k) is) (omega arith))
        (rw later at (rest k (omega arith) (omega arith) (λ z. absurd (true≢false (sym z ∙ later))) one_point bare bound none))

    integers-read : (is : List Item) → Integers is
    unfolding read_from units_of item_units digit_after any count integer_places decimal_places along
    integers-read [] = λ k places before some one_point bare bound none.
        by_cases (eqb c.integer_places k) (λ e. absurd (true≢false (sym (some e)))) (λ e. rw (e, places) (omega arith))
    integers-read (i ∷ is) =
        item-case (λ (j : Item). Integers (j ∷ is))
        (λ p. integers-place p is (integers-read is))
        (λ k places before some one_point bare bound none.
        let whole : before_cut is ≡ is = bare-before is bare in
        rw (places, point-read (figures_shown c 14 is)) (behind-point is (omega arith) bare (rw whole at bound) (rw whole at none)))
        (λ m k places before some one_point bare bound none. absurd (true≢false bare))
        (λ k places before some one_point bare bound none. absurd (true≢false bare))
        (λ j not_place not_point not_e other. rw (not_place, not_point, not_e) (integers-read is))
        i

-- the figure pieces of items without an E, read, are the number that they show, a count of 10^-15
pub figures-read : (c : Context) (is : List Item) → c.figures < 10 ^ 40 → c.integer_places ≡ integer_places is
    → integer_places is ≤ 20 → decimal_places is ≤ 15 → count is_point is ≤ 1 → any is_cut is ≡ false → any is_place is ≡ true
    → c.figures % 10 ^ (15 - decimal_places is) ≡ 0 → Counts (units_read (figure_pieces is (item_pieces c (first_of c.integer_places) is))) c.figures
unfolding units_read
figures-read c is small places integers decimals one_point bare some none =
    let k : ℕ = c.integer_places in
    rw (eq-eqb k k refl)
    at (integers-read c small (omega arith) is k places (omega arith) (λ e. some) one_point bare decimals none)

-- and of items that show a whole number in their places, with no point
pub whole-read : (n places : ℕ) (below : Bool) (is : List Item) → n < 10 ^ 25 → places ≡ integer_places is → places ≤ 20
    → any is_point is ≡ false → any is_cut is ≡ false → any is_place is ≡ true
    → Counts (units_read (figure_pieces is (item_pieces (whole_context n places below) (first_of places) is))) (n * 10 ^ 15)
unfolding whole_context
whole-read n places below is small e most no_point bare some =
    let next : n * 10 ^ 15 < suc n * 10 ^ 15 = omega arith in
    figures-read (whole_context n places below) is (lt_of_lt_of_le next (mul-le-mul_right (10 ^ 15) small)) e (omega arith)
    (omega (arith, no-decimals is no_point)) (omega (arith, none-count is_point is no_point)) bare some
    (rw (no-decimals is no_point) (mul-mod_left n (10 ^ 15)))
