-- Laws of the rounded m times 10^u / 10^v: by its net power of ten, between powers of ten, and one step of n further.
-- Assumes nothing.
use mathlib.Core.Path.{◌≡◌, ap, ◌∙◌}
use Prim.Native.Nat.{ℕ, ◌+◌, ◌-◌, ◌*◌, ◌^◌, ◌≤◌, ◌<◌}
use native.Mathlib.Nat.{add_comm, mul-le-mul_left, mul-le-mul_right, le_of_mul-le-mul_right, le-div_iff_mul-le, mul_comm, mul_right_comm, mul-le-mul, one-mul}
use native.Mathlib.Omega.{arith}
use lib.Pow.{pow-add}
use Rattle.figures.specs.Rounding.{nearest, rounded}
use Rattle.figures.specs.Powers.{powered}
use Rattle.figures.proofs.Tens.{ten-pos, ten-le, ten-split}
use Rattle.figures.proofs.Rounding.{nearest-bound, nearest-monotone, powered-common, rounded-exact}

-- of two numbers the greater never rounds to less
pub rounded-monotone : (a c b d : ℕ) → 0 < b → a ≤ c
    → rounded (record { above = a; below = b }) d ≤ rounded (record { above = c; below = b }) d
unfolding rounded
rounded-monotone a c b d pos h =
    mul-le-mul_right (10 ^ (15 - d)) (nearest-monotone (a * 10 ^ d) (c * 10 ^ d) b pos (mul-le-mul_right (10 ^ d) h))

-- dividing by a larger power of ten never gives a larger rounded number
pub powered-monotone : (m u v w z d : ℕ) → u + z ≤ w + v → rounded (powered m u v) d ≤ rounded (powered m w z) d
unfolding powered
powered-monotone m u v w z d h =
    let less : m * 10 ^ (u + z) ≤ m * 10 ^ (w + v) = mul-le-mul_left m (ten-le (u + z) (w + v) h) in
    let both : rounded (powered m (u + z) (v + z)) d ≤ rounded (powered m (w + v) (v + z)) d =
    rounded-monotone (m * 10 ^ (u + z)) (m * 10 ^ (w + v)) (10 ^ (v + z)) d (ten-pos (v + z)) less in
    let left = powered-common m u v z d in
    let right : rounded (powered m (w + v) (v + z)) d ≡ rounded (powered m w z) d =
    ap (λ (x : ℕ). rounded (powered m (w + v) x) d) (add_comm v z) ∙ powered-common m w z v d in
    omega arith

-- a power of ten is not rounded
ten-exact : (v j d : ℕ) → d ≤ 15 → rounded (powered 1 (v + j) v) d ≡ 10 ^ (15 + j)
ten-exact v j d h = rounded-exact 1 (v + j) v d h (omega arith) ∙ one-mul _ ∙ ap (λ (x : ℕ). 10 ^ x) (omega arith)

module _ (m u v j d : ℕ) (most : d ≤ 15) where
  -- from 10^j on it is at least that, and up to 10^j at most that
  pub powered-least : 10 ^ (v + j) ≤ m * 10 ^ u → 10 ^ (15 + j) ≤ rounded (powered m u v) d
  unfolding powered
  powered-least h =
      rw (← ten-exact v j d most) (rounded-monotone (1 * 10 ^ (v + j)) (m * 10 ^ u) (10 ^ v) d (ten-pos v) (rw (one-mul (10 ^ (v + j))) h))

  pub powered-most : m * 10 ^ u ≤ 10 ^ (v + j) → rounded (powered m u v) d ≤ 10 ^ (15 + j)
  unfolding powered
  powered-most h =
      rw (← ten-exact v j d most) (rounded-monotone (m * 10 ^ u) (1 * 10 ^ (v + j)) (10 ^ v) d (ten-pos v) (rw (one-mul (10 ^ (v + j))) h))

-- a quotient that rounds to k * p at least rounds to k at least when it is divided by p
nearest-step : (a b p k : ℕ) → 0 < b → 0 < p → k * p ≤ nearest a b → k ≤ nearest a (b * p)
unfolding nearest
nearest-step a b p k pos one h =
    let product : 1 * 1 ≤ b * p = mul-le-mul pos one in
    let held : k * (2 * (b * p)) ≤ 2 * a + b * p =
    omega (arith, (nearest-bound a b pos).0, mul-le-mul_right b h, mul-le-mul_left b one) in
    (le-div_iff_mul-le {k = 2 * (b * p)} {x = k} {y = 2 * a + b * p} (omega arith)).1 held

-- what rounds to 10^n at least rounds to 1 at least when it is divided by 10^n
pub powered-step : (m u v n d : ℕ) → d ≤ 15 → 10 ^ (15 + n) ≤ rounded (powered m u v) d → 10 ^ 15 ≤ rounded (powered m u (v + n)) d
unfolding powered rounded
powered-step m u v n d most h =
    let a : ℕ = m * 10 ^ u * 10 ^ d in
    let p : ℕ = 10 ^ (15 - d) in
    let unit : 10 ^ 15 ≡ 10 ^ d * p = ten-split d 15 most ∙ mul_comm p (10 ^ d) in
    let whole : 10 ^ (15 + n) ≡ 10 ^ d * 10 ^ n * p =
    pow-add 10 15 n ∙ ap (λ (x : ℕ). x * 10 ^ n) unit ∙ mul_right_comm (10 ^ d) p (10 ^ n) in
    let quotient : 10 ^ d * 10 ^ n ≤ nearest a (10 ^ v) = le_of_mul-le-mul_right (rw whole at h) (ten-pos (15 - d)) in
    let next : 10 ^ d ≤ nearest a (10 ^ (v + n)) =
    rw (pow-add 10 v n) (nearest-step a (10 ^ v) (10 ^ n) (10 ^ d) (ten-pos v) (ten-pos n) quotient) in
    rw unit (mul-le-mul_right p next)
