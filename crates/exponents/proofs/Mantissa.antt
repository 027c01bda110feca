-- Laws of the exponent and the mantissa for whoever shows them: nought, bounds, and how near the mantissa is.
-- Assumes nothing.
use mathlib.Core.Path.{◌≡◌, refl, sym, ap, ◌∙◌}
use mathlib.Core.Bool.{Bool, true, false, cond}
use Prim.Native.Nat.{ℕ, zero, suc, ◌+◌, ◌-◌, ◌*◌, ◌^◌, ◌≤◌, ◌<◌}
use native.Mathlib.Nat.{mul-zero, zero-mul, mul-pos, lt_of_lt_of_le}
use native.Mathlib.Omega.{arith}
use borrow.Author.Tests.{eq-eqb}
use Rattle.lists.proofs.Bools.{cond_both}
use lib.Dec.{eqb}
use Rattle.figures.specs.Rounding.{Magnitude, nearest, rounded, rounds_exactly}
use Rattle.figures.specs.Bounds.{Near}
use Rattle.figures.proofs.Tens.{ten-pos, ten-le}
use Rattle.figures.proofs.Rounding.{nearest-le, half-unit}
use Rattle.exponents.specs.Exponent.{Exponent, under, over, decimal, divided_by, mantissa_at, leaves, multiple, exponent_from, exponent_of, mantissa_of, mantissa_exactly}
use Rattle.exponents.proofs.Search.{multiple-most, mantissa-digits}

module _ (x : Magnitude) (n d : ℕ) where
  -- "Zero has exponent 0"
  pub exponent-nought : x.above ≡ 0 → exponent_of x n d ≡ record { size = 0; below = false }
  unfolding exponent_of multiple
  exponent-nought e =
      ap (λ (b : Bool). cond b (multiple n 15) (exponent_from x n d 0 30)) (eq-eqb x.above 0 e)
      ∙ ap (λ (k : ℕ). record { size = k; below = false }) (mul-zero n)

  divided-pos : 0 < x.below → (e : Exponent) → 0 < (divided_by x e).below
  unfolding divided_by
  divided-pos pos e = mul-pos pos (ten-pos (over e))

  pub mantissa-nought : x.above ≡ 0 → 0 < x.below → mantissa_of x n d ≡ 0
  unfolding mantissa_of mantissa_at rounded divided_by
  mantissa-nought e pos =
      let f : Exponent = exponent_of x n d in
      let none : x.above * 10 ^ under f * 10 ^ d ≡ 0 =
      ap (λ (a : ℕ). a * 10 ^ under f * 10 ^ d) e ∙ ap (λ (a : ℕ). a * 10 ^ d) (zero-mul (10 ^ under f)) ∙ zero-mul (10 ^ d) in
      let nought : nearest (x.above * 10 ^ under f * 10 ^ d) (x.below * 10 ^ over f) ≡ 0 =
      omega (arith, nearest-le (x.above * 10 ^ under f * 10 ^ d) (x.below * 10 ^ over f) (divided-pos pos f)) in
      ap (λ (q : ℕ). q * 10 ^ (15 - d)) nought ∙ zero-mul (10 ^ (15 - d))

  pub nought-exactly : x.above ≡ 0 → 0 < x.below → mantissa_exactly x n d ≡ true
  unfolding mantissa_exactly rounds_exactly mantissa_of mantissa_at divided_by
  nought-exactly e pos =
      let f : Exponent = exponent_of x n d in
      eq-eqb _ _
      (ap (λ (q : ℕ). q * (x.below * 10 ^ over f)) (mantissa-nought e pos)
      ∙ zero-mul (x.below * 10 ^ over f)
      ∙ sym
      (ap (λ (a : ℕ). a * 10 ^ under f * 10 ^ 15) e ∙ ap (λ (a : ℕ). a * 10 ^ 15) (zero-mul (10 ^ under f)) ∙ zero-mul (10 ^ 15)))

  -- the mantissa is within half a unit of its last place, halves away from zero
  pub mantissa-near : 0 < x.below → d ≤ 15 → Near (divided_by x (exponent_of x n d)) d (mantissa_of x n d)
  unfolding mantissa_of mantissa_at
  mantissa-near pos most = half-unit (divided_by x (exponent_of x n d)) d (divided-pos pos (exponent_of x n d)) most

  from-most : (more k : ℕ) → k + more ≡ 30 → (exponent_from x n d k more).size ≤ n * 15
  unfolding exponent_from
  from-most zero k h = multiple-most n k (omega arith)
  from-most (suc more) k h =
      cond_both (λ (e : Exponent). e.size ≤ n * 15) (leaves x n d (multiple n k)) (multiple-most n k (omega arith)) (from-most more (suc k) (omega arith))

  pub exponent-most : (exponent_of x n d).size ≤ n * 15
  unfolding exponent_of
  exponent-most =
      cond_both (λ (e : Exponent). e.size ≤ n * 15) (eqb x.above 0) (multiple-most n 15 (omega arith)) (from-most 30 0 refl)

-- of any number in range
pub mantissa-small : (m s n d : ℕ) → m < 10 ^ 15 → s ≤ 15 → 1 ≤ n → n ≤ 20 → d ≤ 15 → mantissa_of (decimal m s) n d < 10 ^ 35
mantissa-small zero s n d hm hs one most hd = rw (mantissa-nought (decimal 0 s) n d refl (ten-pos s)) (ten-pos 35)
mantissa-small (suc m) s n d hm hs one most hd =
    lt_of_lt_of_le (mantissa-digits (suc m) s n d (omega arith) hm hs one hd).1 (ten-le (15 + n) 35 (omega arith))
