-- The code's way to the exponent: the multiple of n at or below the leading digit's power, and the one behind it where rounding carries.
-- Assumes nothing.
use mathlib.Core.Path.{◌≡◌, sym, ap, ap₂, ◌∙◌}
use mathlib.Core.Bool.{false}
use Prim.Native.Nat.{ℕ, ◌+◌, ◌*◌, ◌^◌, ◌≤◌, ◌<◌}
use native.Mathlib.Nat.{mul-le-mul_right, mul_assoc, add-zero, le_antisymm}
use native.Mathlib.Omega.{arith}
use borrow.Author.Tests.{ne_eqb, le-ltb, ltb-true, ltb-false}
use lib.Pow.{pow-add}
use lib.Dec.{ltb}
use Rattle.lists.proofs.Bools.{cond-case}
use Rattle.figures.specs.Rounding.{Magnitude, rounded, rounds_exactly}
use Rattle.figures.specs.Powers.{powered}
use Rattle.figures.proofs.Tens.{ten-le}
use Rattle.figures.proofs.Rounding.{powered-net}
use Rattle.figures.proofs.Exactly.{exactly-net}
use Rattle.exponents.specs.Exponent.{under, over, decimal, divided_by, mantissa_at}
use Rattle.exponents.specs.Least.{LeastExponent}
use Rattle.exponents.specs.Leading.{exponent_by, MultipleBy, Leading, Next}
use Rattle.exponents.proofs.Powered.{powered-least, powered-most, powered-step}
use Rattle.exponents.proofs.Least.{divided-powered, leaves_in, least_by, sum-multiple}

-- the two distances of an exponent made of them
under-by : (u o : ℕ) → (0 < u → o ≡ 0) → under (exponent_by u o) ≡ u
unfolding under exponent_by
under-by u o h =
    cond-case (λ (x : ℕ). x ≡ u) (ltb 0 u) (λ t. omega (arith, h (ltb-true 0 u t))) (λ t. omega (arith, ltb-false 0 u t))

over_by : (u o : ℕ) → (0 < u → o ≡ 0) → over (exponent_by u o) ≡ o
unfolding over exponent_by
over_by u o h =
    cond-case (λ (x : ℕ). x ≡ o) (ltb 0 u) (λ t. omega (arith, h (ltb-true 0 u t))) (λ t. omega (arith, ltb-false 0 u t))

module _ (m s n d : ℕ) {u o : ℕ} (by : MultipleBy n u o) where
  abbrev at : ℕ
  at = rounded (powered m u (s + o)) d

  divided-by : divided_by (decimal m s) (exponent_by u o) ≡ powered m u (s + o)
  divided-by =
      divided-powered m s (exponent_by u o)
      ∙ ap₂ (λ (x y : ℕ). powered m x (s + y)) (under-by u o by.one_side) (over_by u o by.one_side)

  pub mantissa-by : mantissa_at (decimal m s) d (exponent_by u o) ≡ rounded (powered m u (s + o)) d
  unfolding mantissa_at
  mantissa-by = ap (λ (x : Magnitude). rounded x d) divided-by

  pub exactly-by : rounds_exactly (divided_by (decimal m s) (exponent_by u o)) d ≡ rounds_exactly (powered m u (s + o)) d
  exactly-by = ap (λ (x : Magnitude). rounds_exactly x d) divided-by

  -- it is the exponent where it leaves 1 to n digits and the multiple before leaves more
  by-least : 10 ^ 15 ≤ at → at < 10 ^ (15 + n) → 10 ^ (15 + n) ≤ rounded (powered m (u + n) (s + o)) d
      → LeastExponent (decimal m s) n d (exponent_by u o)
  unfolding exponent_by
  by-least h g before =
      least_by m s n d (exponent_by u o) (λ e. le-ltb 0 u (omega arith)) (sum-multiple n u o by.below by.above)
      (leaves_in (decimal m s) n d (exponent_by u o) (rw mantissa-by h) (rw mantissa-by g))
      (rw (under-by u o by.one_side, over_by u o by.one_side) before)

module _ {m s n u o : ℕ} (d : ℕ) (most : d ≤ 15) (l : Leading m s n u o) where
  -- rounding does not carry
  pub found-least : rounded (powered m u (s + o)) d < 10 ^ (15 + n) → LeastExponent (decimal m s) n d (exponent_by u o)
  found-least h =
      let v : ℕ = s + o in
      let less : 10 ^ (v + n) ≤ m * 10 ^ (u + n) =
      rw (pow-add 10 v n, pow-add 10 u n, ← mul_assoc m (10 ^ u) (10 ^ n)) (mul-le-mul_right (10 ^ n) l.least) in
      by-least m s n d l.multiple (powered-least m u v 0 d most (rw (add-zero v) l.least)) h (powered-least m (u + n) v n d most less)

  -- rounding carries: the mantissa is 1 at the next multiple
  module _ {u' o' : ℕ} (next : Next n u o u' o') (carry : 10 ^ (15 + n) ≤ rounded (powered m u (s + o)) d) where
    carried-net : rounded (powered m u (s + o + n)) d ≡ 10 ^ 15
    carried-net =
        let v : ℕ = s + o in
        le_antisymm
        (powered-most m u (v + n) 0 d most (rw (add-zero (v + n)) (omega (arith, l.most))))
        (powered-step m u v n d most carry)

    pub carried-one : rounded (powered m u' (s + o')) d ≡ 10 ^ 15
    carried-one = powered-net m u' (s + o') u (s + o + n) d (omega (arith, next.net)) ∙ carried-net

    -- and it is not exact: the number is below
    pub carried-cut : false ≡ rounds_exactly (powered m u' (s + o')) d
    unfolding rounds_exactly powered
    carried-cut =
        let v : ℕ = s + o + n in
        let below : ¬ (rounded (powered m u v) d * 10 ^ v ≡ m * 10 ^ u * 10 ^ 15) =
        λ e. omega (arith, l.most, e, ap (λ (x : ℕ). x * 10 ^ v) carried-net) in
        sym (exactly-net m u' (s + o') u v d (omega (arith, next.net)) ∙ ne_eqb (rounded (powered m u v) d * 10 ^ v) (m * 10 ^ u * 10 ^ 15) below)

    pub carried-least : 1 ≤ n → LeastExponent (decimal m s) n d (exponent_by u' o')
    carried-least one =
        let digits : 10 ^ 15 < 10 ^ (15 + n) = omega (arith, ten-le 16 (15 + n) (omega arith)) in
        by-least m s n d next.multiple (omega (arith, carried-one)) (omega (arith, carried-one))
        (rw (powered-net m (u' + n) (s + o') u (s + o) d (omega (arith, next.net))) carry)
