-- Laws of General: the decimals that it rounds to, and the units that it shows.
-- Assumes nothing.
use Rattle.figures.proofs.Tens.{ten-pos, ten-split}
use mathlib.Core.Path.{◌≡◌, refl, sym, ap, ◌∙◌, ap₂}
use mathlib.Core.Bool.{true, false, cond, ◌&&◌}
use mathlib.Core.Logic.{⊎_elim}
use mathlib.Core.List.{List, [], ◌∷◌, ◌++◌}
use Prim.Native.Nat.{ℕ, zero, suc, ◌+◌, ◌-◌, ◌/◌, ◌%◌, ◌^◌, ◌≤◌, ◌<◌, max}
use native.Mathlib.Nat.{mul-one, mod-one, eq-or-lt_of_le, div-lt_iff_lt-mul, one-mul, div-eq_of_lt, lt_of_le_of_lt}
use native.Mathlib.Numerals.{add-one}
use native.Mathlib.Omega.{arith}
use borrow.Author.Tests.{ltb-true, leb-true, lt-leb, ne_eqb}
use lib.Dec.{leb, ltb, eqb}
use lib.ListN.{length, take}
use lib.Seq.{take-nil}
use Rattle.lists.specs.Lists.{is_empty}
use Rattle.lists.proofs.Bools.{and_parts}
use Rattle.figures.specs.Digits.{digit, figures, digit_units, width, numeral}
use Rattle.figures.specs.Rounding.{Magnitude, nearest, rounded}
use Rattle.figures.specs.Powers.{powered}
use Rattle.figures.specs.Places.{lowest_place, places_used}
use Rattle.figures.specs.General.{general_decimals, general_rounded, general_too_wide, without_end_zeros, pointed, general_units}
use Rattle.figures.proofs.Rounding.{nearest-le, rounded-exact}
use Rattle.figures.proofs.Digits.{quotient-quotient, width-unique, width-within, digit_units-length, width-least}
use Rattle.figures.proofs.Filling.{lt-or-le}
use Rattle.figures.proofs.Places.{used-iff, used-most, lowest-iff, mod-lower, mod-zero-next, mod-zero-digit}

pub decimals-most : (x : Magnitude) → general_decimals x ≤ 9
unfolding general_decimals
decimals-most x = omega (arith, width-least (x.above / x.below))

module _ (m s : ℕ) where
  -- to d decimals a number is rounded as General rounds it
  abbrev AsGeneral : ℕ → Type 0
  AsGeneral d = (d ≤ 15) × (rounded (powered m 0 s) d ≡ general_rounded (powered m 0 s))

  decimals-powered : general_decimals (powered m 0 s) ≡ 10 - width (m / 10 ^ s)
  unfolding general_decimals powered
  decimals-powered = ap (λ (x : ℕ). 10 - width (x / 10 ^ s)) (mul-one m)

  -- in the code's words: w is the width of the whole part
  module _ {n w : ℕ} (whole : n ≡ m / 10 ^ s) (wide : w ≡ width n) where
    pub decimals-some : AsGeneral (10 - w)
    unfolding general_rounded
    decimals-some =
        (omega arith, ap (rounded (powered m 0 s)) (ap (λ (x : ℕ). 10 - x) (wide ∙ ap width whole) ∙ sym decimals-powered))

    pub decimals-none : 10 ≤ w → AsGeneral 0
    decimals-none h = let e : 10 - w ≡ 0 = omega arith in rw e at decimals-some

  -- ten digits, of which nothing is cut
  pub decimals-own : (ltb m 10000000000 && leb s 9) ≡ true → AsGeneral s
  unfolding general_rounded
  decimals-own t =
      let b = and_parts (ltb m 10000000000) (leb s 9) t in
      let few : s ≤ 9 = leb-true s 9 b.1 in
      let whole : m / 10 ^ s < 10 ^ (10 - s) =
      (div-lt_iff_lt-mul {k = 10 ^ s} {x = m} {y = 10 ^ (10 - s)} (ten-pos s)).1 (rw (← ten-split s 10 (omega arith)) (ltb-true m 10000000000 b.0)) in
      let held : s ≤ 0 + general_decimals (powered m 0 s) = omega (arith, decimals-powered, width-within (m / 10 ^ s) (10 - s) (omega arith) whole) in (
        omega arith,
        rounded-exact m 0 s s (omega arith) (omega arith)
            ∙ sym (rounded-exact m 0 s (general_decimals (powered m 0 s)) (omega (arith, decimals-powered)) held),
      )

  pub wide-powered : general_too_wide (powered m 0 s) ≡ leb (10 ^ 11) (nearest m (10 ^ s))
  unfolding general_too_wide powered
  wide-powered = ap (λ (x : ℕ). leb (10 ^ 11) (nearest x (10 ^ s))) (mul-one m)

  pub narrow-powered : m < 10 ^ 11 → false ≡ general_too_wide (powered m 0 s)
  narrow-powered h = sym (wide-powered ∙ lt-leb (10 ^ 11) (nearest m (10 ^ s)) (lt_of_le_of_lt (nearest-le m (10 ^ s) (ten-pos s)) h))

-- one unit in front of units without their end zeros
kept : (d k : ℕ) (us : List ℕ) → (k ≡ 0 → d ≡ 0 → ⊥) → k ≤ length us
    → cond (is_empty (take k us) && eqb (48 + d) 48) [] ((48 + d) ∷ take k us) ≡ take (suc k) ((48 + d) ∷ us)
unfolding is_empty
kept d zero us p h = rw (ne_eqb (48 + d) 48 (λ e. p refl (omega arith)))
kept d (suc k) [] p h = absurd (omega arith)
kept d (suc k) (u ∷ us) p h = refl

dropped : (d : ℕ) (us : List ℕ) → us ≡ [] → d ≡ 0 → cond (is_empty us && eqb (48 + d) 48) [] ((48 + d) ∷ us) ≡ []
unfolding is_empty
dropped d us e z = rw (e, z) refl

-- digits without the zeros at their end are the first ones: where n is whole at 10^e and the digit there is not 0
pub end-zeros : (n m e : ℕ) → e ≤ m → n % 10 ^ e ≡ 0 → (e < m → digit n e ≡ 0 → ⊥)
    → without_end_zeros (digit_units m n) ≡ take (m - e) (digit_units m n)
unfolding without_end_zeros digit_units
end-zeros n zero e h z p = sym (take-nil (0 - e))
end-zeros n (suc m) e h z p =
    ⊎_elim
    (λ (s : e ≡ suc m).
    let whole : n % 10 ^ suc m ≡ 0 = rw (← s) z in
    let ih = end-zeros n m m (omega arith) (mod-lower n m (suc m) (omega arith) whole) (λ g. absurd (omega arith)) in
    let none : m - m ≡ 0 = omega arith in
    let all : suc m - e ≡ 0 = omega arith in
    dropped (digit n m) (without_end_zeros (digit_units m n)) (ih ∙ ap (λ (k : ℕ). take k (digit_units m n)) none) (mod-zero-digit n m whole)
    ∙ sym (ap (λ (k : ℕ). take k (digit_units (suc m) n)) all))
    (λ (s : e < suc m).
    let ih = end-zeros n m e (omega arith) z (λ g. p (omega arith)) in
    let long : m - e ≤ length (digit_units m n) = omega (arith, digit_units-length m n) in
    let one : suc (m - e) ≡ suc m - e = omega arith in
    ap (λ (us : List ℕ). cond (is_empty us && eqb (48 + digit n m) 48) [] ((48 + digit n m) ∷ us)) ih
    ∙ kept (digit n m) (m - e) (digit_units m n) (λ a b. p s (let same : e ≡ m = omega arith in rw same b)) long
    ∙ ap (λ (k : ℕ). take k (digit_units (suc m) n)) one)
    (eq-or-lt_of_le h)

-- n is whole at its lowest place, and its digit there is not 0
module _ (n : ℕ) where
  abbrev low : ℕ
  low = lowest_place (figures n)

  lowest-whole : (e : ℕ) → e ≤ low → e ≤ 40 → n % 10 ^ e ≡ 0
  lowest-whole zero h g = mod-one n
  lowest-whole (suc e) h g = ap (λ (x : ℕ). n % 10 ^ x) (sym (add-one e)) ∙ (lowest-iff n e g).0 h

  lowest-digit : low < 40 → digit n low ≡ 0 → ⊥
  lowest-digit h d =
      let z : n % 10 ^ (low + 1) ≡ 0 = ap (λ (x : ℕ). n % 10 ^ x) (add-one low) ∙ mod-zero-next n low d (lowest-whole low (omega arith) (omega arith)) in
      let less : low < low = (lowest-iff n low h).1 z in
      omega arith

  -- the decimals that are left
  pub decimals-kept : without_end_zeros (digit_units 15 n) ≡ take (15 - lowest_place (figures n)) (digit_units 15 n)
  decimals-kept =
      ⊎_elim
      (λ (s : low < 15). end-zeros n 15 low (omega arith) (lowest-whole low (omega arith) (omega arith)) (λ g. lowest-digit (omega arith)))
      (λ (s : 15 ≤ low).
      let none : 15 - 15 ≡ 15 - low = omega arith in
      end-zeros n 15 15 (omega arith) (lowest-whole 15 s (omega arith)) (λ g. absurd (omega arith))
      ∙ ap (λ (k : ℕ). take k (digit_units 15 n)) none)
      (lt-or-le low 15)

-- the whole part of a number of forty places, by its places
module _ (n : ℕ) (h : n < 10 ^ 40) where
  abbrev used : ℕ
  used = places_used 40 (figures n)

  quotient-less : (a b : ℕ) → 0 < b → a / b ≡ 0 → a < b
  quotient-less a b p e = omega (arith, (div-lt_iff_lt-mul {k = b} {x = a} {y = 1} p).0 (omega arith), one-mul b)

  pub whole-width : width (n / 10 ^ 15) ≡ max 1 (places_used 40 (figures n) - 15)
  whole-width =
      let w : ℕ = max 1 (used - 15) in
      let most : used ≤ 40 = used-most 40 (figures n) in
      let none : n / 10 ^ 15 / 10 ^ w ≡ 0 = quotient-quotient n 15 w ∙ (used-iff n h (15 + w)).0 (omega arith) in
      let less : 1 < w → n / 10 ^ 15 < 10 ^ (w - 1) → ⊥ =
      λ g lt. let e = (used-iff n h (15 + (w - 1))).1 (sym (quotient-quotient n 15 (w - 1)) ∙ div-eq_of_lt lt) in omega arith in
      width-unique (n / 10 ^ 15) w (omega arith) (omega arith) (quotient-less (n / 10 ^ 15) (10 ^ w) (ten-pos w) none)
      (λ g. ⊎_elim (λ lt. absurd (less g lt)) (λ (le : 10 ^ (w - 1) ≤ n / 10 ^ 15). le) (lt-or-le (n / 10 ^ 15) (10 ^ (w - 1))))

  -- what General shows, by the number's places: the digits from the highest place or 10^0 down, a point and the decimals that are left
  pub general-text : general_units n
      ≡ digit_units (max 1 (places_used 40 (figures n) - 15)) (n / 10 ^ 15)
      ++ pointed (take (15 - lowest_place (figures n)) (digit_units 15 n))
  unfolding general_units numeral
  general-text =
      let w : ℕ = max 1 (used - 15) in
      let e : max 1 (width (n / 10 ^ 15)) ≡ w = omega (arith, whole-width) in
      ap₂ (λ (k : ℕ) (us : List ℕ). digit_units k (n / 10 ^ 15) ++ pointed us) e (decimals-kept n)
