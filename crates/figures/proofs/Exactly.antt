-- Laws of whether the rounded number equals the exact one.
-- Assumes nothing.
use mathlib.Core.Path.{◌≡◌, sym, ap, ap₂, ◌∙◌}
use mathlib.Core.Bool.{true, false}
use Prim.Native.Nat.{ℕ, ◌+◌, ◌-◌, ◌*◌, ◌/◌, ◌%◌, ◌^◌, ◌≤◌, ◌<◌}
use native.Mathlib.Nat.{div-add-mod', mod-lt, eq_of_mul-eq-mul_right, mul_assoc, mul_right_comm, zero-mul}
use native.Mathlib.Omega.{arith}
use borrow.Author.Tests.{leb-true, leb-false, eqb-true, eqb-false, eq-eqb, ne_eqb}
use lib.Pow.{pow-add}
use lib.Dec.{leb, eqb}
use Rattle.lists.proofs.Bools.{by_cases}
use Rattle.figures.specs.Rounding.{Magnitude, nearest, rounded, rounds_exactly}
use Rattle.figures.specs.General.{general_decimals, general_rounded, general_exactly}
use Rattle.figures.specs.Powers.{powered}
use Rattle.figures.proofs.Tens.{ten-pos, ten-split}
use Rattle.figures.proofs.Rounding.{nearest-up, nearest-down, powered-net, rounded-divided, rounded-exact, nearest-far, power_pos}

-- two pairs of which both or neither are equal
pub eqb_same : {a b c d : ℕ} → (a ≡ b → c ≡ d) → (c ≡ d → a ≡ b) → eqb a b ≡ eqb c d
eqb_same {a} {b} {c} {d} f g =
    by_cases (eqb a b)
    (λ t. t ∙ sym (eq-eqb c d (f (eqb-true a b t))))
    (λ t. t ∙ sym (ne_eqb c d (λ e. eqb-false a b t (g e))))

-- a common factor goes
pub eqb-scale : (a b k : ℕ) → 0 < k → eqb (a * k) (b * k) ≡ eqb a b
eqb-scale a b k h = eqb_same (eq_of_mul-eq-mul_right k h a b) (ap (λ (x : ℕ). x * k))

-- only the rounded number and the number count: two magnitudes of one value that round to one number are both exact or neither
pub exactly-same : (x y : Magnitude) (d e : ℕ) → 0 < x.below → 0 < y.below → x.above * y.below ≡ y.above * x.below
    → rounded x d ≡ rounded y e → rounds_exactly x d ≡ rounds_exactly y e
unfolding rounds_exactly
exactly-same x y d e posx posy value same =
    let n : ℕ = rounded y e in
    let t : ℕ = 10 ^ 15 in
    ap (λ (r : ℕ). eqb (r * x.below) (x.above * t)) same
    ∙ sym (eqb-scale (n * x.below) (x.above * t) y.below posy)
    ∙ ap₂ eqb (mul_right_comm n x.below y.below)
    (mul_right_comm x.above t y.below ∙ ap (λ (z : ℕ). z * t) value ∙ mul_right_comm y.above x.below t)
    ∙ eqb-scale (n * y.below) (y.above * t) x.below posx

-- decimals that round alike are exact alike
pub decimals-same : (x : Magnitude) (d e : ℕ) → rounded x d ≡ rounded x e → rounds_exactly x d ≡ rounds_exactly x e
unfolding rounds_exactly
decimals-same x d e = ap (λ (r : ℕ). eqb (r * x.below) (x.above * 10 ^ 15))

pub general-same : (x : Magnitude) (d : ℕ) → rounded x d ≡ general_rounded x → rounds_exactly x d ≡ general_exactly x
unfolding general_rounded general_exactly
general-same x d = decimals-same x d (general_decimals x)

-- only the net power of ten counts
pub exactly-net : (m u v w z d : ℕ) → u + z ≡ w + v → rounds_exactly (powered m u v) d ≡ rounds_exactly (powered m w z) d
unfolding powered
exactly-net m u v w z d e =
    let times : (i j : ℕ) → m * 10 ^ i * 10 ^ j ≡ m * 10 ^ (i + j) =
    λ i j. mul_assoc m (10 ^ i) (10 ^ j) ∙ ap (λ (x : ℕ). m * x) (sym (pow-add 10 i j)) in
    exactly-same (powered m u v) (powered m w z) d d (ten-pos v) (ten-pos z)
    (times u z ∙ ap (λ (x : ℕ). m * 10 ^ x) e ∙ sym (times w v)) (powered-net m u v w z d e)

module _ (m up down d : ℕ) (most : d ≤ 15) where
  -- where digits go, as the quotient by a power of ten
  pub exactly-divided : up + d ≤ down
      → eqb (nearest m (10 ^ (down - (up + d))) * 10 ^ (down - (up + d))) m ≡ rounds_exactly (powered m up down) d
  unfolding rounds_exactly powered
  exactly-divided h =
      let k : ℕ = down - (up + d) in
      let q : ℕ = nearest m (10 ^ k) in
      let f : ℕ = 10 ^ (up + 15) in
      let left : q * 10 ^ k * f ≡ rounded (powered m up down) d * 10 ^ down =
      mul_assoc q (10 ^ k) f
      ∙ ap (λ (x : ℕ). q * x) (sym (pow-add 10 k (up + 15)) ∙ ap (λ (x : ℕ). 10 ^ x) (omega arith) ∙ pow-add 10 (15 - d) down)
      ∙ sym (mul_assoc q (10 ^ (15 - d)) (10 ^ down))
      ∙ ap (λ (x : ℕ). x * 10 ^ down) (sym (rounded-divided m up down d most h)) in
      let right : m * f ≡ m * 10 ^ up * 10 ^ 15 = ap (λ (x : ℕ). m * x) (pow-add 10 up 15) ∙ sym (mul_assoc m (10 ^ up) (10 ^ 15)) in
      sym (eqb-scale (q * 10 ^ k) m f (ten-pos (up + 15))) ∙ ap₂ eqb left right

  -- where none goes
  pub exactly-kept : down ≤ up + d → true ≡ rounds_exactly (powered m up down) d
  unfolding rounds_exactly powered
  exactly-kept h =
      sym
      (eq-eqb _ _
      (ap (λ (x : ℕ). x * 10 ^ down) (rounded-exact m up down d most h)
      ∙ mul_assoc m (10 ^ (up + 15 - down)) (10 ^ down)
      ∙ ap (λ (x : ℕ). m * x) (sym (ten-split down (up + 15) (omega arith)) ∙ pow-add 10 up 15)
      ∙ sym (mul_assoc m (10 ^ up) (10 ^ 15))))

-- the quotient as the code finds it: 64 bits are less than half of 10^20
pub far-exactly : (m k : ℕ) → m < 2 ^ 64 → 19 < k → eqb m 0 ≡ eqb (nearest m (10 ^ k) * 10 ^ k) m
far-exactly m k hm hk =
    let none : nearest m (10 ^ k) * 10 ^ k ≡ 0 = ap (λ (x : ℕ). x * 10 ^ k) (sym (nearest-far m k hm hk)) ∙ zero-mul (10 ^ k) in
    eqb_same (λ e. none ∙ sym e) (λ e. sym e ∙ none)

-- p being the power
module _ (m p k : ℕ) (e : p ≡ 10 ^ k) where
  exactly-by : (q : ℕ) → nearest m p ≡ q → eqb (q * p) m ≡ eqb (nearest m (10 ^ k) * 10 ^ k) m
  exactly-by q f = ap₂ (λ (x y : ℕ). eqb (x * y) m) (sym f ∙ ap (nearest m) e) e

  pub up-exactly : p ≤ 2 * (m % p) → false ≡ eqb (nearest m (10 ^ k) * 10 ^ k) m
  up-exactly h =
      sym (ne_eqb ((m / p + 1) * p) m (λ f. omega (arith, f, div-add-mod' m p, mod-lt m (power_pos m p k e))))
      ∙ exactly-by (m / p + 1) (nearest-up m p (power_pos m p k e) h)

  pub down-exactly : 2 * (m % p) < p → eqb (m % p) 0 ≡ eqb (nearest m (10 ^ k) * 10 ^ k) m
  down-exactly h =
      let whole = div-add-mod' m p in
      eqb_same {a = m % p} {b = 0} {c = m / p * p} {d = m} (λ f. omega (arith, whole)) (λ f. omega (arith, whole))
      ∙ exactly-by (m / p) (nearest-down m p h)

  pub exactly_at : eqb (m % p) 0 ≡ eqb (nearest m (10 ^ k) * 10 ^ k) m
  exactly_at =
      by_cases (leb (p - m % p) (m % p))
      (λ t.
      let h = leb-true (p - m % p) (m % p) t in
      let pos = power_pos m p k e in
      ne_eqb (m % p) 0 (λ z. omega arith) ∙ up-exactly (omega arith))
      (λ f. let h = leb-false (p - m % p) (m % p) f in down-exactly (omega arith))
