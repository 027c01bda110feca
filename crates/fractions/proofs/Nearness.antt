-- Laws of the order of fractions by how near they are.
-- Assumes nothing.
use mathlib.Core.Path.{◌≡◌, ap}
use mathlib.Core.Bool.{true, false}
use mathlib.Core.Logic.{◌⊎◌, ⊎_elim}
use Prim.Native.Nat.{ℕ, ◌+◌, ◌-◌, ◌*◌, ◌≤◌, ◌<◌}
use native.Mathlib.Nat.{le_refl, le_antisymm, mul-le-mul_right, le_of_mul-le-mul_right}
use native.Mathlib.Omega.{arith}
use borrow.Author.Tests.{ltb-true, ltb-false}
use Rattle.figures.specs.Rounding.{Magnitude}
use Rattle.figures.proofs.Filling.{lt-or-le}
use Rattle.fractions.specs.declared.Fraction.{Fraction}
use Rattle.fractions.specs.Fractions.{apart, nearer}
use Rattle.fractions.specs.Nearest.{Preferred, NearestFraction}

module _ {x : Magnitude} where
  pub preferred-self : (f : Fraction) → Preferred x f f
  preferred-self f = record { near = le_refl _; small = λ _. le_refl _ }

  preferred-trans : {f g h : Fraction} → 1 ≤ f.below → 1 ≤ g.below → 1 ≤ h.below → Preferred x f g → Preferred x g h → Preferred x f h
  preferred-trans {f} {g} {h} one two three p q =
      let left = mul-le-mul_right h.below p.near in
      let right = mul-le-mul_right f.below q.near in
      record {
        near = le_of_mul-le-mul_right {m = apart x f * h.below} {n = apart x h * f.below} {k = g.below} (omega arith) two;
        small = λ e.
            let around = ap (λ (z : ℕ). z * g.below) e in
            let back : apart x g * f.below ≤ apart x f * g.below = le_of_mul-le-mul_right {k = h.below} (omega arith) three in
            let on : apart x h * g.below ≤ apart x g * h.below = le_of_mul-le-mul_right {k = f.below} (omega arith) one in
            omega (arith, p.small (le_antisymm p.near back), q.small (le_antisymm q.near on));
      }

  -- f is preferred where what makes g further is not below 0, and is 0 only where the denominator of g is no smaller
  pub preferred-by : (f g : Fraction) (u v : ℕ) → 0 < x.below → v ≤ u → apart x f * g.below + u * x.below ≤ apart x g * f.below + v * x.below
      → (v ≡ u → f.below ≤ g.below) → Preferred x f g
  preferred-by f g u v pos less h small = record {
    near = omega (arith, mul-le-mul_right x.below less);
    small = λ e. small (le_antisymm less (le_of_mul-le-mul_right {m = u} {n = v} {k = x.below} (omega arith) pos));
  }

  -- the test
  pub nearer-preferred : (f g : Fraction) → nearer x f g ≡ true → Preferred x f g
  unfolding nearer
  nearer-preferred f g t =
      let less = ltb-true (apart x f * g.below) (apart x g * f.below) t in
      record { near = omega arith; small = λ e. omega arith }

  pub not-nearer-preferred : (f g : Fraction) → g.below ≤ f.below → nearer x f g ≡ false → Preferred x g f
  unfolding nearer
  not-nearer-preferred f g h t =
      record { near = ltb-false (apart x f * g.below) (apart x g * f.below) t; small = λ _. h }

  -- a fraction that is preferred to two, of which one or the other is preferred to each, is the nearest
  pub nearest-of : {most : ℕ} {w f g : Fraction} → 1 ≤ w.below → w.below ≤ most → 1 ≤ f.below → 1 ≤ g.below → Preferred x w f → Preferred x w g
      → ((h : Fraction) → 1 ≤ h.below → h.below ≤ most → Preferred x f h ⊎ Preferred x g h) → NearestFraction x most w
  nearest-of from up_to one two p q each = record {
    from = from;
    up_to = up_to;
    best = λ h three within.
        ⊎_elim (λ r. preferred-trans from one three p r) (λ r. preferred-trans from two three q r) (each h three within);
  }

module _ (x : Magnitude) (f : Fraction) where
  -- how far apart, both ways, and no further than is known
  pub apart-over : f.above * x.below ≤ x.above * f.below + apart x f
  unfolding apart
  apart-over = omega arith

  pub apart-under : x.above * f.below ≤ f.above * x.below + apart x f
  unfolding apart
  apart-under = omega arith

  pub apart-most : (k m : ℕ) → f.above * x.below * k ≤ x.above * f.below * k + m → x.above * f.below * k ≤ f.above * x.below * k + m
      → apart x f * k ≤ m
  unfolding apart
  apart-most k m h g =
      let a : ℕ = f.above * x.below in
      let b : ℕ = x.above * f.below in
      ⊎_elim
      (λ (less : a < b). let e : a - b + (b - a) + a ≡ b = omega arith in omega (arith, ap (λ (z : ℕ). z * k) e))
      (λ (less : b ≤ a). let e : a - b + (b - a) + b ≡ a = omega arith in omega (arith, ap (λ (z : ℕ). z * k) e))
      (lt-or-le a b)
