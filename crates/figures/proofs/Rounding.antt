-- Laws of the nearest quotient and of the rounded number.
-- Assumes nothing.
use mathlib.Core.Path.{◌≡◌, sym, ap, ap₂, ◌∙◌}
use Prim.Native.Nat.{ℕ, suc, ◌+◌, ◌-◌, ◌*◌, ◌/◌, ◌%◌, ◌^◌, ◌≤◌, ◌<◌}
use native.Mathlib.Nat.{add-zero, add_comm, div-eq_of_lt-le, div-add-mod', mod-lt, mul-le-mul_left, mul-le-mul_right, mul-lt-mul_of_pos_right, mul_left_comm, mul_right_comm, suc-mul, lt_of_lt_of_le, lt_of_le_of_lt, le_of_suc-le-suc, div-lt_iff_lt-mul, le-div_iff_mul-le, div-mul-le_self, lt-div-mul-add, mul_assoc, mul_comm, one-mul, add-mul, mul-mod_left, mul-div-mul_right, div-eq_of_lt}
use native.Mathlib.Omega.{arith}
use lib.Dec.{leb}
use borrow.Author.Tests.{leb-true, leb-false}
use Rattle.lists.proofs.Bools.{by_cases}
use Rattle.std.specs.Int.{from_bool}
use lib.Pow.{pow-add}
use Rattle.figures.specs.Rounder.{Roundable}
use Rattle.figures.specs.Rounding.{Magnitude, scaled, nearest, rounded}
use Rattle.figures.specs.Bounds.{Near}
use Rattle.figures.specs.Powers.{powered}
use Rattle.figures.proofs.Tens.{ten-pos, ten-le, ten-split, ten-power}

-- the nearest multiple of b is above a by half of b at most, and below it by less than half of b
pub nearest-bound : (a b : ℕ) → 0 < b → (2 * (nearest a b * b) ≤ 2 * a + b) × (2 * a < 2 * (nearest a b * b) + b)
unfolding nearest
nearest-bound a b h =
    let p : 0 < 2 * b = omega arith in
    (omega (arith, div-mul-le_self (2 * a + b) (2 * b)), omega (arith, lt-div-mul-add {a = 2 * a + b} {b = 2 * b} p))

-- of two numbers the greater never rounds to less
pub nearest-monotone : (a c b : ℕ) → 0 < b → a ≤ c → nearest a b ≤ nearest c b
unfolding nearest
nearest-monotone a c b h le =
    let p : 0 < 2 * b = omega arith in
    (le-div_iff_mul-le {k = 2 * b} {x = (2 * a + b) / (2 * b)} {y = 2 * c + b} p).1
    (omega (arith, div-mul-le_self (2 * a + b) (2 * b)))

-- a common factor goes
pub nearest-scale : (a b m : ℕ) → 0 < m → nearest (a * m) (b * m) ≡ nearest a b
unfolding nearest
nearest-scale a b m h =
    ap₂ ◌/◌ (ap (λ (x : ℕ). x + b * m) (sym (mul_assoc 2 a m)) ∙ sym (add-mul (2 * a) b m)) (sym (mul_assoc 2 b m))
    ∙ mul-div-mul_right (2 * a + b) (2 * b) h

-- nothing is cut
pub nearest-exact : (m b : ℕ) → 0 < b → nearest (m * b) b ≡ m
unfolding nearest
nearest-exact m b h = ap (λ (x : ℕ). nearest (m * b) x) (sym (one-mul b)) ∙ nearest-scale m 1 b h ∙ omega arith

pub nearest-none : (a b : ℕ) → 2 * a < b → nearest a b ≡ 0
unfolding nearest
nearest-none a b h = div-eq_of_lt {n = 2 * a + b} {m = 2 * b} (omega arith)

pub nearest-le : (a b : ℕ) → 0 < b → nearest a b ≤ a
unfolding nearest
nearest-le a b h =
    let e : suc a * (2 * b) ≡ a * (2 * b) + 2 * b = suc-mul a (2 * b) in
    let f : a * (2 * b) ≡ 2 * (a * b) = mul_left_comm a 2 b in
    let g : a * 1 ≤ a * b = mul-le-mul_left a h in
    le_of_suc-le-suc ((div-lt_iff_lt-mul {k = 2 * b} {x = 2 * a + b} {y = suc a} (omega arith)).1 (omega arith))

-- bounds of a rounded quotient q, times a power p of the unit
grow-above : (q b a p : ℕ) → 2 * (q * b) ≤ 2 * a + b → 2 * (q * p * b) ≤ 2 * (a * p) + b * p
grow-above q b a p h = omega (arith, mul-le-mul_right p h)

grow-below : (q b a p : ℕ) → 0 < p → 2 * a < 2 * (q * b) + b → 2 * (a * p) < 2 * (q * p * b) + b * p
grow-below q b a p h g = omega (arith, mul-lt-mul_of_pos_right g h)

-- a power of ten split at the last decimal
unit-split : (a d : ℕ) → d ≤ 15 → a * 10 ^ d * 10 ^ (15 - d) ≡ a * 10 ^ 15
unit-split a d h =
    mul_assoc a (10 ^ d) (10 ^ (15 - d)) ∙ ap (λ (x : ℕ). a * x) (mul_comm (10 ^ d) (10 ^ (15 - d)) ∙ sym (ten-split d 15 h))

-- the rounded number is within half a unit of the last place, halves away from zero: for every magnitude and number of decimals
pub half-unit : (x : Magnitude) (d : ℕ) → 0 < x.below → d ≤ 15 → Near x d (rounded x d)
unfolding rounded
half-unit x d pos h =
    let a : ℕ = x.above * 10 ^ d in
    let b : ℕ = x.below in
    let q : ℕ = nearest a b in
    let p : ℕ = 10 ^ (15 - d) in
    let e : a * p ≡ x.above * 10 ^ 15 = unit-split x.above d h in
    let bound = nearest-bound a b pos in
    record {
      whole = mul-mod_left q p;
      not_above = rw (← e) (grow-above q b a p bound.0);
      not_below = rw (← e) (grow-below q b a p (ten-pos (15 - d)) bound.1);
    }

-- rounding depends on the ratio only
pub rounded-ratio : (a b k d : ℕ) → 0 < k
    → rounded (record { above = a * k; below = b * k }) d ≡ rounded (record { above = a; below = b }) d
unfolding rounded
rounded-ratio a b k d h =
    ap (λ (x : ℕ). x * 10 ^ (15 - d))
    (ap (λ (x : ℕ). nearest x (b * k)) (mul_right_comm a k (10 ^ d)) ∙ nearest-scale (a * 10 ^ d) b k h)

-- percents and dividing commas are powers of ten
pub scaled-powered : (m s p t : ℕ) → scaled m s p t ≡ powered m (2 * p) (s + 3 * t)
unfolding scaled powered
scaled-powered m s p t =
    ap₂ (λ (x y : ℕ). record { above = m * x; below = y })
    (ten-power 2 p)
    (ap (λ (x : ℕ). 10 ^ s * x) (ten-power 3 t) ∙ sym (pow-add 10 s (3 * t)))

-- a common power of ten goes
pub powered-common : (m u v k d : ℕ) → rounded (powered m (u + k) (v + k)) d ≡ rounded (powered m u v) d
unfolding powered
powered-common m u v k d =
    ap₂ (λ (x y : ℕ). rounded (record { above = x; below = y }) d)
    (ap (λ (x : ℕ). m * x) (pow-add 10 u k) ∙ sym (mul_assoc m (10 ^ u) (10 ^ k)))
    (pow-add 10 v k)
    ∙ rounded-ratio (m * 10 ^ u) (10 ^ v) (10 ^ k) d (ten-pos k)

-- only the net power of ten counts
pub powered-net : (m u v w z d : ℕ) → u + z ≡ w + v → rounded (powered m u v) d ≡ rounded (powered m w z) d
powered-net m u v w z d e =
    sym (powered-common m u v z d)
    ∙ ap₂ (λ (x y : ℕ). rounded (powered m x y) d) e (add_comm v z)
    ∙ powered-common m w z v d

-- forty places are enough
pub rounded-within : {m up d : ℕ} (down : ℕ) → Roundable m up d → rounded (powered m up down) d < 10 ^ 40
unfolding rounded powered
rounded-within {m} {up} {d} down r =
    let a : ℕ = m * 10 ^ up * 10 ^ d in
    lt_of_le_of_lt
    (mul-le-mul_right (10 ^ (15 - d)) (nearest-le a (10 ^ down) (ten-pos down)))
    (rw (unit-split (m * 10 ^ up) d r.decimals) (mul-lt-mul_of_pos_right r.whole (ten-pos 15)))

-- five percents are in the rounder's reach
pub roundable : {m up d : ℕ} → m < 10 ^ 15 → up ≤ 10 → d ≤ 15 → Roundable m up d
roundable {m} {up} hm hu hd = record {
  whole = lt_of_lt_of_le (mul-lt-mul_of_pos_right hm (ten-pos up)) (mul-le-mul_left (10 ^ 15) (ten-le up 10 hu));
  power = omega arith;
  decimals = hd;
}

pub rounded-small : (m up down d : ℕ) → m < 10 ^ 15 → up ≤ 10 → d ≤ 15 → rounded (powered m up down) d < 10 ^ 40
rounded-small m up down d hm hu hd = rounded-within down (roundable hm hu hd)

pub scaled_small : (m s p t d : ℕ) → m < 10 ^ 15 → p ≤ 5 → d ≤ 15 → rounded (scaled m s p t) d < 10 ^ 40
scaled_small m s p t d hm hp hd =
    rw (scaled-powered m s p t) (rounded-small m (2 * p) (s + 3 * t) d hm (omega arith) hd)

-- the nearest whole number by quotient q and remainder r
nearest-by-up : (m q p r : ℕ) → q * p + r ≡ m → r < p → p ≤ 2 * r → nearest m p ≡ q + 1
unfolding nearest
nearest-by-up m q p r e less h = div-eq_of_lt-le {k = q + 1} (2 * p) {m = 2 * m + p} (omega arith) (omega arith)

nearest-by-down : (m q p r : ℕ) → q * p + r ≡ m → 2 * r < p → nearest m p ≡ q
unfolding nearest
nearest-by-down m q p r e h = div-eq_of_lt-le {k = q} (2 * p) {m = 2 * m + p} (omega arith) (omega arith)

pub nearest-up : (m p : ℕ) → 0 < p → p ≤ 2 * (m % p) → nearest m p ≡ m / p + 1
nearest-up m p pos h = nearest-by-up m (m / p) p (m % p) (div-add-mod' m p) (mod-lt m pos) h

pub nearest-down : (m p : ℕ) → 2 * (m % p) < p → nearest m p ≡ m / p
nearest-down m p h = nearest-by-down m (m / p) p (m % p) (div-add-mod' m p) h

module _ (m up down d : ℕ) (most : d ≤ 15) where
  -- where digits go, a quotient by a power of ten
  pub rounded-divided : up + d ≤ down → rounded (powered m up down) d ≡ nearest m (10 ^ (down - (up + d))) * 10 ^ (15 - d)
  unfolding rounded powered
  rounded-divided h =
      let k : ℕ = up + d in
      ap (λ (x : ℕ). x * 10 ^ (15 - d))
      (ap₂ nearest (mul_assoc m (10 ^ up) (10 ^ d) ∙ ap (λ (x : ℕ). m * x) (sym (pow-add 10 up d))) (ten-split k down h)
      ∙ nearest-scale m (10 ^ (down - k)) (10 ^ k) (ten-pos k))

  -- where none goes, a product
  pub rounded-exact : down ≤ up + d → rounded (powered m up down) d ≡ m * 10 ^ (up + 15 - down)
  unfolding rounded powered
  rounded-exact h =
      let k : ℕ = up + d in
      let e : m * 10 ^ up * 10 ^ d ≡ m * 10 ^ (k - down) * 10 ^ down =
      mul_assoc m (10 ^ up) (10 ^ d)
      ∙ ap (λ (x : ℕ). m * x) (sym (pow-add 10 up d) ∙ ten-split down k h)
      ∙ sym (mul_assoc m (10 ^ (k - down)) (10 ^ down)) in
      let f : k - down + (15 - d) ≡ up + 15 - down = omega arith in
      ap (λ (x : ℕ). x * 10 ^ (15 - d)) (ap (λ (x : ℕ). nearest x (10 ^ down)) e ∙ nearest-exact (m * 10 ^ (k - down)) (10 ^ down) (ten-pos down))
      ∙ mul_assoc m (10 ^ (k - down)) (10 ^ (15 - d))
      ∙ ap (λ (x : ℕ). m * x) (sym (pow-add 10 (k - down) (15 - d)) ∙ ap (λ (x : ℕ). 10 ^ x) f)

-- 64 bits are less than half of 10^20
pub nearest-far : (m k : ℕ) → m < 2 ^ 64 → 19 < k → 0 ≡ nearest m (10 ^ k)
nearest-far m k hm hk = sym (nearest-none m (10 ^ k) (omega (arith, ten-le 20 k hk)))

-- the quotient as the code finds it, p being the power
module _ (m p k : ℕ) (e : p ≡ 10 ^ k) where
  pub power_pos : 0 < p
  power_pos = rw e (ten-pos k)

  pub divided-up : p ≤ 2 * (m % p) → m / p + 1 ≡ nearest m (10 ^ k)
  divided-up h = sym (nearest-up m p power_pos h) ∙ ap (nearest m) e

  pub divided-down : 2 * (m % p) < p → m / p ≡ nearest m (10 ^ k)
  divided-down h = sym (nearest-down m p h) ∙ ap (nearest m) e

  -- in one step
  pub divided_at : m / p + from_bool (leb (p - m % p) (m % p)) ≡ nearest m (10 ^ k)
  divided_at =
      by_cases (leb (p - m % p) (m % p))
      (λ t. let h = leb-true (p - m % p) (m % p) t in rw t (divided-up (omega arith)))
      (λ f. let h = leb-false (p - m % p) (m % p) f in rw (f, add-zero) (divided-down (omega arith)))

  pub divided_fits : m < 2 ^ 64 → m / p + from_bool (leb (p - m % p) (m % p)) < 2 ^ 64
  divided_fits fits = rw (divided_at, ← e) (lt_of_le_of_lt (nearest-le m p power_pos) fits)
