-- The order of rounded numbers, of the figures read as them, and how far apart numbers are that round to the same.
-- Assumes nothing.
use mathlib.Core.Path.{◌≡◌, sym, ap, ◌∙◌}
use Prim.Native.Nat.{ℕ, ◌+◌, ◌-◌, ◌*◌, ◌^◌, ◌≤◌, ◌<◌}
use native.Mathlib.Nat.{mul_comm, mul-le-mul_left, mul-le-mul_right, le_of_mul-le-mul_right}
use native.Mathlib.Omega.{arith}
use mathlib.Core.Bool.{Bool, true, false, cond, not, ◌&&◌, true≢false, and-true}
use borrow.Author.Tests.{ltb-true, ltb-false, lt-ltb, le-ltb, leb-true, leb-false, eqb-true, eqb-false}
use lib.Dec.{T, leb, ltb, eqb}
use Rattle.lists.proofs.Bools.{by_cases, cond_both, not_so}
use Rattle.figures.specs.Rounding.{Magnitude, scaled, nearest, rounded}
use Rattle.figures.proofs.Tens.{ten-pos}
use Rattle.figures.proofs.Rounding.{nearest-bound, nearest-monotone, nearest-scale}
use Rattle.formats.specs.Tokens.{at_most}
use Rattle.formats.specs.Choice.{Exact, smaller, less_than, compared}
use Rattle.formats.specs.Figures.{Counts}
use Rattle.monotone.specs.Seen.{signed, difference, differ_within}

-- of two fractions the greater never rounds to less
module _ (x y : Magnitude) (d : ℕ) (xpos : 0 < x.below) (ypos : 0 < y.below) where
  pub rounded-monotone : x.above * y.below ≤ y.above * x.below → rounded x d ≤ rounded y d
  unfolding rounded
  rounded-monotone le =
      let a : ℕ = x.above * 10 ^ d in
      let c : ℕ = y.above * 10 ^ d in
      let common : ℕ = x.below * y.below in
      let first : nearest (a * y.below) common ≡ nearest a x.below = nearest-scale a x.below y.below ypos in
      let second : nearest (c * x.below) common ≡ nearest c y.below =
      ap (nearest (c * x.below)) (mul_comm x.below y.below) ∙ nearest-scale c y.below x.below xpos in
      let pos : 0 < common = omega (arith, mul-le-mul_left x.below ypos) in
      let order : a * y.below ≤ c * x.below = omega (arith, mul-le-mul_right (10 ^ d) le) in
      mul-le-mul_right (10 ^ (15 - d)) (rw (← first, ← second) (nearest-monotone (a * y.below) (c * x.below) common pos order))

-- fractions that are counts of 10^-15 are in the order of these
counts-order : (m n : Magnitude) (j k : ℕ) → Counts m j → Counts n k → j ≤ k → m.above * n.below ≤ n.above * m.below
counts-order m n j k e f le =
    le_of_mul-le-mul_right {m = m.above * n.below} {n = n.above * m.below} {k = 10 ^ 15}
    (omega (arith, ap (λ (z : ℕ). z * n.below) e, ap (λ (z : ℕ). z * m.below) f, mul-le-mul_right (m.below * n.below) le)) (ten-pos 15)

-- products by the same factor
pub same-factor : (j k p : ℕ) → 0 < p → j * p ≡ k * p → j ≡ k
same-factor j k p pos e =
    let le : j ≤ k = le_of_mul-le-mul_right {m = j} {n = k} {k = p} (omega arith) pos in
    let ge : k ≤ j = le_of_mul-le-mul_right {m = k} {n = j} {k = p} (omega arith) pos in
    omega arith

-- one fraction is a count of one number
pub counts_same : (m : Magnitude) (j k : ℕ) → 0 < m.below → Counts m j → Counts m k → j ≡ k
counts_same m j k pos e f = same-factor j k m.below pos (sym e ∙ f)

-- a count that is not nought is of a fraction that is not
pub counts-above : (m : Magnitude) (j : ℕ) → 0 < m.below → Counts m j → (j ≡ 0 → ⊥) → 0 < m.above
counts-above m j pos e more =
    by_cases (ltb 0 m.above) (ltb-true 0 m.above)
    (λ h. absurd (more (same-factor j 0 m.below pos (omega (arith, ltb-false 0 m.above h)))))

-- figures that are equal and not nought have the same sign
pub signs-same : (p q : Bool) (m n : Magnitude) → 0 < m.above → signed p m ≡ signed q n → p ≡ q
unfolding signed
signs-same p q m n pos e =
    let sizes : m.above ≡ n.above = ap (λ (f : Exact). f.size.above) e in
    let signs : (p && ltb 0 m.above) ≡ (q && ltb 0 n.above) = ap (λ (f : Exact). f.negative) e in
    sym (and-true p) ∙ ap (λ (b : Bool). p && b) (sym (lt-ltb 0 m.above pos)) ∙ signs ∙ ap (λ (b : Bool). q && b) (lt-ltb 0 n.above (omega arith))
    ∙ and-true q

-- tests of an order
not-less : (a b : ℕ) → T (not (ltb a b)) → b ≤ a
not-less a b t = ltb-false a b (not_so (ltb a b) t)

at_least : (a b : ℕ) → b ≤ a → T (not (ltb a b))
at_least a b h = rw (le-ltb a b h) tt

-- The numbers p u and q v, sizes with their signs, and figures m and n that are counts of j and k: where the sizes' order is that of j and k, the
-- figures with the numbers' signs are in the order of the numbers.
module _ (u v m n : Magnitude) (j k : ℕ) (e : Counts m j) (f : Counts n k) (mpos : 0 < m.below) (npos : 0 < n.below)
    (up : u.above * v.below ≤ v.above * u.below → j ≤ k) (down : v.above * u.below ≤ u.above * v.below → k ≤ j) where
  -- a figure of nought is below no other
  nought-least : m.above ≤ 0 → T (not (ltb (n.above * m.below) (m.above * n.below)))
  nought-least h = at_least (n.above * m.below) (m.above * n.below) (omega (arith, mul-le-mul_right n.below h))

  both_below : k ≤ j
      → T (not (cond (ltb 0 n.above) (cond (ltb 0 m.above) (ltb (m.above * n.below) (n.above * m.below)) true)
      (cond (ltb 0 m.above) false (ltb (n.above * m.below) (m.above * n.below)))))
  both_below h =
      let le : n.above * m.below ≤ m.above * n.below = counts-order n m k j f e h in
      by_cases (ltb 0 m.above)
      (λ a. rw a (cond_both (λ (b : Bool). T (not b)) (ltb 0 n.above) (at_least (m.above * n.below) (n.above * m.below) le) tt))
      (λ a.
      let none : m.above ≤ 0 = ltb-false 0 m.above a in
      by_cases (ltb 0 n.above)
      (λ b. absurd (omega (arith, mul-le-mul_right n.below none, mul-le-mul_right m.below (ltb-true 0 n.above b))))
      (λ b. rw (a, b) (nought-least none)))

  pub figures-order : (p q : Bool) → T (compared at_most (record { negative = p; size = u }) (record { negative = q; size = v }))
      → T (compared at_most (signed p m) (signed q n))
  unfolding compared less_than smaller signed
  figures-order false false t =
      at_least (n.above * m.below) (m.above * n.below) (counts-order m n j k e f (up (not-less (v.above * u.below) (u.above * v.below) t)))
  figures-order true true t = both_below (down (not-less (u.above * v.below) (v.above * u.below) t))
  figures-order true false t =
      by_cases (ltb 0 m.above) (λ a. rw a tt) (λ a. rw a (nought-least (ltb-false 0 m.above a)))
  figures-order false true t = absurd t

-- how far apart two numbers are, in parts of 1 / D
gap-one : (m n D most : ℕ) → m ≤ n → n * D ≤ m * D + most → (n - m) * D ≤ most
gap-one m n D most le h =
    let e : n ≡ m + (n - m) = omega arith in
    omega (arith, ap (λ (z : ℕ). z * D) e)

gap-least : (m n D most : ℕ) → m * D ≤ n * D + most → n * D ≤ m * D + most → (m - n + (n - m)) * D ≤ most
gap-least m n D most h g =
    by_cases (leb m n)
    (λ e.
    let le : m ≤ n = leb-true m n e in
    let f : m - n + (n - m) ≡ n - m = omega arith in
    rw f (gap-one m n D most le g))
    (λ e.
    let le : n < m = leb-false m n e in
    let f : m - n + (n - m) ≡ m - n = omega arith in
    rw f (gap-one n m D most (omega arith) h))

-- a / S, divided by K, rounds to r parts of 1 / D
pub record RoundsTo (a S K D r : ℕ) : Type 0 where
  pub not_above : 2 * (r * (S * K)) ≤ 2 * (a * D) + S * K
  pub not_below : 2 * (a * D) < 2 * (r * (S * K)) + S * K

pub rounds-to : (a S K D : ℕ) → 0 < S * K → RoundsTo a S K D (nearest (a * D) (S * K))
rounds-to a S K D pos = let b = nearest-bound (a * D) (S * K) pos in record { not_above = b.0; not_below = b.1 }

-- how many parts a number without percents rounds to
pub scaled-parts : (m s t d : ℕ) → rounded (scaled m s 0 t) d ≡ nearest (m * 10 ^ d) (10 ^ s * 1000 ^ t) * 10 ^ (15 - d)
unfolding rounded scaled
scaled-parts m s t d =
    let e : m * 100 ^ 0 ≡ m = omega arith in
    ap (λ (k : ℕ). nearest (k * 10 ^ d) (10 ^ s * 1000 ^ t) * 10 ^ (15 - d)) e

-- of two that round to the same, the one is above the other by K / D at most
above-least : (a S c Z K D r : ℕ) → RoundsTo a S K D r → RoundsTo c Z K D r → c * S * D ≤ a * Z * D + K * (S * Z)
above-least a S c Z K D r x y =
    let p : 2 * (r * (S * K)) * Z ≤ (2 * (a * D) + S * K) * Z = mul-le-mul_right Z x.not_above in
    let q : 2 * (c * D) * S ≤ (2 * (r * (Z * K)) + Z * K) * S = mul-le-mul_right S (omega arith) in
    omega arith

-- and where they round to nought, both together are no more
both-least : (a S c Z K D r : ℕ) → r ≡ 0 → RoundsTo a S K D r → RoundsTo c Z K D r → (a * Z + c * S) * D ≤ K * (S * Z)
both-least a S c Z K D r none x y =
    let p : 2 * (a * D) * Z ≤ (2 * (r * (S * K)) + S * K) * Z = mul-le-mul_right Z (omega arith) in
    let q : 2 * (c * D) * S ≤ (2 * (r * (Z * K)) + Z * K) * S = mul-le-mul_right S (omega arith) in
    omega (arith, ap (λ (z : ℕ). z * (S * K) * Z) none)

-- numbers that round to the same, with the same sign unless that is nought, are one unit apart at most
module _ (a S c Z K D r : ℕ) (x : RoundsTo a S K D r) (y : RoundsTo c Z K D r) where
  same_sign : T (not (ltb (K * (S * Z)) ((a * Z - c * S + (c * S - a * Z)) * D)))
  same_sign =
      at_least (K * (S * Z)) ((a * Z - c * S + (c * S - a * Z)) * D)
      (gap-least (a * Z) (c * S) D (K * (S * Z)) (omega (arith, above-least c Z a S K D r y x)) (above-least a S c Z K D r x y))

  other_sign : ((r ≡ 0 → ⊥) → true ≡ false) → T (not (ltb (K * (S * Z)) ((a * Z + c * S) * D)))
  other_sign signs =
      by_cases (eqb r 0)
      (λ h. at_least (K * (S * Z)) ((a * Z + c * S) * D) (both-least a S c Z K D r (eqb-true r 0 h) x y))
      (λ h. absurd (true≢false (signs (eqb-false r 0 h))))

  pub unit-apart : (above below : ℕ) → above ≡ K → below ≡ D → (p q : Bool) → ((r ≡ 0 → ⊥) → p ≡ q)
      → T (differ_within (record { above = above; below = below }) (record { negative = p; size = record { above = a; below = S } })
      (record { negative = q; size = record { above = c; below = Z } }))
  unfolding differ_within difference smaller
  unit-apart above below e f false false signs = rw (e, f) same_sign
  unit-apart above below e f true true signs = rw (e, f) same_sign
  unit-apart above below e f true false signs = rw (e, f) (other_sign signs)
  unit-apart above below e f false true signs = rw (e, f) (other_sign (λ h. sym (signs h)))
