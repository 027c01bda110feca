-- Two neighbours on either side of a number: no fraction between them has a denominator below the sum of theirs.
-- Assumes nothing.
use mathlib.Core.Path.{◌≡◌, sym, ap, ◌∙◌}
use mathlib.Core.Logic.{◌⊎◌, inl, inr, ⊎_elim}
use Prim.Native.Nat.{ℕ, ◌+◌, ◌*◌, ◌≤◌, ◌<◌}
use native.Mathlib.Nat.{mul-le-mul_left, mul-le-mul_right, lt_of_mul-lt-mul_left, eq_of_mul-eq-mul_right}
use native.Mathlib.Omega.{arith}
use Rattle.figures.specs.Rounding.{Magnitude}
use Rattle.figures.proofs.Filling.{lt-or-le}
use Rattle.fractions.specs.declared.Fraction.{Fraction}
use Rattle.fractions.specs.declared.Side.{Side}
use Rattle.fractions.specs.Fractions.{apart}
use Rattle.fractions.specs.Nearest.{Preferred, NearestFraction}
use Rattle.fractions.specs.Moves.{at, Between, stepped}
use Rattle.fractions.proofs.Nearness.{apart-over, apart-under, preferred-self, preferred-by, nearest-of}

-- what is short of a multiple of n by another one is n at least
apart-multiples : (n q i j : ℕ) → 1 ≤ q → q + n * i ≡ n * j → n ≤ q
apart-multiples n q i j one e =
    let less : i < j = lt_of_mul-lt-mul_left n {m = i} {n = j} (omega arith) in
    omega (arith, mul-le-mul_left n less)

-- a fraction in lowest terms that is the number itself is the nearest
met : {x : Magnitude} {most : ℕ} {f : Fraction} → 0 < x.below → 1 ≤ f.below → f.below ≤ most → apart x f ≡ 0
    → ((g : Fraction) → 1 ≤ g.below → g.above * f.below ≡ f.above * g.below → f.below ≤ g.below) → NearestFraction x most f
met {x} {most} {f} pos from up_to e lowest = record {
  from = from;
  up_to = up_to;
  best = λ g one _.
      let none = ap (λ (z : ℕ). z * g.below) e in
      record {
        near = omega arith;
        small = λ i.
            let too : apart x g ≡ 0 = omega (arith, mul-le-mul_left (apart x g) from) in
            let at_f : f.above * x.below ≡ x.above * f.below = omega (arith, apart-over x f, apart-under x f) in
            let at_g : g.above * x.below ≡ x.above * g.below = omega (arith, apart-over x g, apart-under x g) in
            lowest g one (eq_of_mul-eq-mul_right x.below pos (g.above * f.below) (f.above * g.below)
            (omega (arith, ap (λ (z : ℕ). z * g.below) at_f, ap (λ (z : ℕ). z * f.below) at_g)));
      };
}

module _ {x : Magnitude} {most : ℕ} {low high : Side} (b : Between x most low high) where
  -- the rests make up the whole
  pub rests : low.rest * high.below + high.rest * low.below ≡ x.below
  rests =
      let one = ap (λ (z : ℕ). z * x.below) b.unit in
      let left = ap (λ (z : ℕ). z * high.below) b.low_rest in
      let right = ap (λ (z : ℕ). z * low.below) b.high_rest in
      omega arith

  low-apart : apart x (at low) ≡ low.rest
  unfolding apart
  low-apart = omega (arith, b.low_rest)

  high-apart : apart x (at high) ≡ high.rest
  unfolding apart
  high-apart = omega (arith, b.high_rest)

  -- both are in lowest terms
  low-lowest : (g : Fraction) → 1 ≤ g.below → g.above * low.below ≡ low.above * g.below → low.below ≤ g.below
  low-lowest g one e =
      let unit = ap (λ (z : ℕ). z * g.below) b.unit in
      apart-multiples low.below g.below (g.above * high.below) (high.above * g.below) one (omega (arith, ap (λ (z : ℕ). z * high.below) e))

  high-lowest : (g : Fraction) → 1 ≤ g.below → g.above * high.below ≡ high.above * g.below → high.below ≤ g.below
  high-lowest g one e =
      let unit = ap (λ (z : ℕ). z * g.below) b.unit in
      apart-multiples high.below g.below (low.above * g.below) (g.above * low.below) one (omega (arith, ap (λ (z : ℕ). z * low.below) e))

  -- what is not between them is further than one of them
  low-side : (g : Fraction) → 0 < x.below → 1 ≤ g.below → g.above * low.below ≤ low.above * g.below → Preferred x (at low) g
  low-side g pos one h =
      let rest = ap (λ (z : ℕ). z * g.below) b.low_rest in
      let far = mul-le-mul_right low.below (apart-under x g) in
      preferred-by (at low) g (low.above * g.below) (g.above * low.below) pos h
      (omega (arith, ap (λ (z : ℕ). z * g.below) low-apart)) (low-lowest g one)

  high-side : (g : Fraction) → 0 < x.below → 1 ≤ g.below → high.above * g.below ≤ g.above * high.below → Preferred x (at high) g
  high-side g pos one h =
      let rest = ap (λ (z : ℕ). z * g.below) b.high_rest in
      let far = mul-le-mul_right high.below (apart-over x g) in
      preferred-by (at high) g (g.above * high.below) (high.above * g.below) pos h
      (omega (arith, ap (λ (z : ℕ). z * g.below) high-apart)) (λ e. high-lowest g one (sym e))

  -- where the denominators' sum is beyond the bound, nothing is between them
  outside : most < low.below + high.below → (g : Fraction) → 0 < x.below → 1 ≤ g.below → g.below ≤ most → Preferred x (at low) g ⊎ Preferred x (at high) g
  outside far g pos one h =
      ⊎_elim
      (λ (above : low.above * g.below < g.above * low.below).
      ⊎_elim
      (λ (below : g.above * high.below < high.above * g.below).
      let unit = ap (λ (z : ℕ). z * g.below) b.unit in
      absurd (omega (arith, mul-le-mul_right high.below above, mul-le-mul_right low.below below)))
      (λ (l : high.above * g.below ≤ g.above * high.below). inr (high-side g pos one l))
      (lt-or-le (g.above * high.below) (high.above * g.below)))
      (λ (l : g.above * low.below ≤ low.above * g.below). inl (low-side g pos one l))
      (lt-or-le (low.above * g.below) (g.above * low.below))

  module _ (pos : 0 < x.below) (far : most < low.below + high.below) where
    pub low-wins : low.rest * high.below ≤ high.rest * low.below
        → (low.rest * high.below ≡ high.rest * low.below → low.below ≤ high.below) → NearestFraction x most (at low)
    low-wins near small =
        nearest-of b.low_from b.low_up_to b.low_from b.high_from (preferred-self (at low))
        (record { near = rw (low-apart, high-apart) near; small = rw (low-apart, high-apart) small })
        (λ g. outside far g pos)

    pub high-wins : high.rest * low.below ≤ low.rest * high.below
        → (high.rest * low.below ≡ low.rest * high.below → high.below ≤ low.below) → NearestFraction x most (at high)
    high-wins near small =
        nearest-of b.high_from b.high_up_to b.low_from b.high_from
        (record { near = rw (low-apart, high-apart) near; small = rw (low-apart, high-apart) small }) (preferred-self (at high))
        (λ g. outside far g pos)

  -- the number itself is met
  pub low-met : 0 < x.below → low.rest ≡ 0 → NearestFraction x most (at low)
  low-met pos e = met pos b.low_from b.low_up_to (low-apart ∙ e) low-lowest

  pub high-met : 0 < x.below → high.rest ≡ 0 → NearestFraction x most (at high)
  high-met pos e = met pos b.high_from b.high_up_to (high-apart ∙ e) high-lowest

  -- one side moves so many steps towards the other
  pub low-stepped : (k : ℕ) → k * high.rest ≤ low.rest → low.below + k * high.below ≤ most → Between x most (stepped low high k) high
  unfolding stepped
  low-stepped k h up_to = omega (arith, ap (λ (z : ℕ). k * z) b.high_rest)

  pub high-stepped : (k : ℕ) → k * low.rest ≤ high.rest → high.below + k * low.below ≤ most → Between x most low (stepped high low k)
  unfolding stepped
  high-stepped k h up_to = omega (arith, ap (λ (z : ℕ). k * z) b.low_rest)
