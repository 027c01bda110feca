-- The exponent of a number in range has two digits at most.
-- Assumes nothing.
use mathlib.Core.Path.{◌≡◌, refl, ap}
use mathlib.Core.Logic.{⊎_elim}
use Prim.Native.Nat.{ℕ, zero, suc, ◌+◌, ◌-◌, ◌%◌, ◌^◌, ◌≤◌, ◌<◌}
use native.Mathlib.Omega.{arith}
use Rattle.figures.specs.Digits.{width}
use Rattle.figures.specs.Rounding.{rounded}
use Rattle.figures.specs.Powers.{powered}
use Rattle.figures.proofs.Filling.{lt-or-le}
use Rattle.exponents.specs.Exponent.{Exponent, decimal, exponent_of}
use Rattle.exponents.specs.Leading.{exponent_by, Leading, Next}
use Rattle.exponents.proofs.Mantissa.{exponent-nought}
use Rattle.exponents.proofs.Found.{found-least, carried-least}
use Rattle.exponents.proofs.Multiples.{next_under, next-over, leads-under, leads-over, rest-most, wide-least, wide-most}
use Rattle.exponents.proofs.Tells.{least-is}

abbrev size_of : Exponent → ℕ
size_of e = e.size

module _ (m s n d : ℕ) (small : m < 10 ^ 15) (scale : s ≤ 15) (one : 1 ≤ n) (few : n ≤ 20) (most : d ≤ 15) where
  module _ {u o : ℕ} (l : Leading m s n u o) (pos : 0 < m) where
    abbrev v : ℕ
    v = rounded (powered m u (s + o)) d

    found-size : v < 10 ^ (15 + n) → (exponent_of (decimal m s) n d).size ≡ u + o
    unfolding exponent_by
    found-size h = ap size_of (least-is l most pos small scale one (found-least d most l h))

    carried-size : {u' o' : ℕ} → Next n u o u' o' → 10 ^ (15 + n) ≤ v → (exponent_of (decimal m s) n d).size ≡ u' + o'
    unfolding exponent_by
    carried-size next h = ap size_of (least-is l most pos small scale one (carried-least d most l next h one))

    -- at the leading digit's multiple, or at the next
    leading-small : u + o ≤ 34 → (exponent_of (decimal m s) n d).size ≤ 34
    leading-small h =
        ⊎_elim
        (λ (less : v < 10 ^ (15 + n)). omega (arith, found-size less))
        (λ (carry : 10 ^ (15 + n) ≤ v).
        ⊎_elim
        (λ (g : 0 < u). omega (arith, carried-size (next_under l.multiple g) carry))
        (λ (g : u ≤ 0). omega (arith, l.over_small, carried-size (next-over l.multiple g) carry))
        (lt-or-le 0 u))
        (lt-or-le v (10 ^ (15 + n)))

  positive-small : 0 < m → (exponent_of (decimal m s) n d).size ≤ 34
  positive-small pos =
      let w : ℕ = width m in
      let narrow = wide-most {m = m} {w = w} refl pos small in
      let some = wide-least {m = m} {w = w} refl pos small in
      ⊎_elim
      (λ (h : s < w).
      let p : ℕ = w - 1 - s in
      let rest = rest-most p n in
      leading-small (leads-over refl pos small s n one h (p - p % n) (omega arith)) pos (omega arith))
      (λ (h : w ≤ s).
      let p : ℕ = s - w in
      let rest = rest-most p n in
      leading-small (leads-under refl pos small s n one h (p - p % n + n) (omega arith)) pos (omega arith))
      (lt-or-le s w)

pub exponent_small : (m s n d : ℕ) → m < 10 ^ 15 → s ≤ 15 → 1 ≤ n → n ≤ 20 → d ≤ 15 → (exponent_of (decimal m s) n d).size ≤ 34
exponent_small zero s n d small scale one few most = rw (exponent-nought (decimal 0 s) n d refl) (omega arith)
exponent_small (suc m) s n d small scale one few most = positive-small (suc m) s n d small scale one few most (omega arith)
