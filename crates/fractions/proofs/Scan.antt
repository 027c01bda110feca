-- The scan over all denominators finds the nearest fraction; a whole number more is a whole number more above.
-- Assumes nothing.
use mathlib.Core.Path.{◌≡◌, refl, ap, ap₂, ◌∙◌}
use mathlib.Core.Bool.{Bool, true, false, cond}
use mathlib.Core.Logic.{◌⊎◌, inl, inr, ⊎_elim}
use Prim.Native.Nat.{ℕ, zero, suc, ◌+◌, ◌*◌, ◌/◌, ◌≤◌, ◌<◌}
use native.Mathlib.Nat.{le_refl, mul-le-mul_right, add-mul-div_right}
use native.Mathlib.Omega.{arith}
use Rattle.lists.proofs.Bools.{cond_both, cond-case}
use Rattle.figures.specs.Rounding.{Magnitude, nearest}
use Rattle.figures.proofs.Rounding.{nearest-bound, nearest-monotone, nearest-exact}
use Rattle.figures.proofs.Filling.{lt-or-le}
use Rattle.fractions.specs.declared.Fraction.{Fraction}
use Rattle.fractions.specs.Fractions.{over, apart, nearer, nearest_up_to}
use Rattle.fractions.specs.Nearest.{Preferred, NearestFraction}
use Rattle.fractions.specs.Moves.{shifted}
use Rattle.fractions.proofs.Nearness.{preferred-self, nearer-preferred, not-nearer-preferred, nearest-of}

module _ (x : Magnitude) (pos : 0 < x.below) where
  -- no other numerator over d is nearer
  over-near : (d p : ℕ) → apart x (over d x) ≤ apart x (record { above = p; below = d })
  unfolding apart over
  over-near d p =
      let n : ℕ = nearest (x.above * d) x.below in
      let bound = nearest-bound (x.above * d) x.below pos in
      ⊎_elim
      (λ (h : p < n). omega (arith, mul-le-mul_right x.below h))
      (λ (h : n ≤ p).
      ⊎_elim (λ (g : n < p). omega (arith, mul-le-mul_right x.below g))
      (λ (g : p ≤ n). let e : p ≡ n = omega arith in rw e (le_refl _))
      (lt-or-le n p))
      (lt-or-le p n)

  over-preferred : (d : ℕ) (g : Fraction) → g.below ≡ d → Preferred x (over d x) g
  unfolding over
  over-preferred d g e = record {
    near = rw e (mul-le-mul_right d (over-near d g.above));
    small = λ _. omega arith;
  }

  step-nearest : (k : ℕ) (f : Fraction) → NearestFraction x k f
      → NearestFraction x (suc k) (cond (nearer x (over (suc k) x) f) (over (suc k) x) f)
  unfolding over
  step-nearest k f n =
      let c : Fraction = over (suc k) x in
      let each : (h : Fraction) → 1 ≤ h.below → h.below ≤ suc k → Preferred x f h ⊎ Preferred x c h =
      λ h one most. ⊎_elim (λ (l : h.below < suc k). inl (n.best h one (omega arith)))
      (λ (l : suc k ≤ h.below). inr (over-preferred (suc k) h (omega arith))) (lt-or-le h.below (suc k)) in
      cond-case (NearestFraction x (suc k)) (nearer x c f)
      (λ t. nearest-of (omega arith) (omega arith) n.from (omega arith) (nearer-preferred c f t) (preferred-self c) each)
      (λ t. nearest-of n.from (omega (arith, n.up_to)) n.from (omega arith) (preferred-self f)
      (not-nearer-preferred c f (omega (arith, n.up_to)) t) each)

  one-nearest : NearestFraction x 1 (over 1 x)
  unfolding over
  one-nearest = record { from = omega arith; up_to = omega arith; best = λ g one most. over-preferred 1 g (omega arith) }

  pub nearest-fraction : (most : ℕ) → 1 ≤ most → NearestFraction x most (nearest_up_to most x)
  unfolding nearest_up_to
  nearest-fraction zero h = absurd (omega arith)
  nearest-fraction (suc zero) h = cond_both (NearestFraction x 1) (nearer x (over 1 x) (over 1 x)) one-nearest one-nearest
  nearest-fraction (suc (suc k)) h = step-nearest (suc k) (nearest_up_to (suc k) x) (nearest-fraction (suc k) (omega arith))

  -- over a fixed number: within half a unit, halves up
  pub over-half : (d : ℕ) → (2 * ((over d x).above * x.below) ≤ 2 * (x.above * d) + x.below)
      × (2 * (x.above * d) < 2 * ((over d x).above * x.below) + x.below)
  unfolding over
  over-half d = nearest-bound (x.above * d) x.below pos

-- a whole number more
module _ (w : ℕ) (x : Magnitude) (pos : 0 < x.below) where
  abbrev more : Magnitude
  more = record { above = w * x.below + x.above; below = x.below }

  pub over-shift : (d : ℕ) → over d more ≡ shifted w (over d x)
  unfolding over shifted nearest
  over-shift d =
      let s : ℕ = x.below in
      let two : 0 < 2 * s = omega arith in
      let e : 2 * ((w * s + x.above) * d) + s ≡ 2 * (x.above * d) + s + w * d * (2 * s) = omega arith in
      ap (λ (n : ℕ). record { above = n; below = d })
      (ap (λ (n : ℕ). n / (2 * s)) e ∙ add-mul-div_right (2 * (x.above * d) + s) (w * d) two)

  apart-shift : (f : Fraction) → apart more (shifted w f) ≡ apart x f
  unfolding apart shifted
  apart-shift f = omega arith

  nearer-shift : (f g : Fraction) → nearer more (shifted w f) (shifted w g) ≡ nearer x f g
  unfolding nearer shifted
  nearer-shift f g = rw (apart-shift f, apart-shift g)

  shifted-cond : (b : Bool) (f g : Fraction) → cond b (shifted w f) (shifted w g) ≡ shifted w (cond b f g)
  shifted-cond true f g = refl
  shifted-cond false f g = refl

  -- the nearest fraction of a number is that of its part behind the point with the whole number more
  pub nearest-shift : (k : ℕ) → nearest_up_to k more ≡ shifted w (nearest_up_to k x)
  unfolding nearest_up_to
  nearest-shift zero = over-shift 1
  nearest-shift (suc k) =
      let f : Fraction = over (suc k) x in
      let g : Fraction = nearest_up_to k x in
      ap₂ (λ (h i : Fraction). cond (nearer more h i) h i) (over-shift (suc k)) (nearest-shift k)
      ∙ ap (λ (b : Bool). cond b (shifted w f) (shifted w g)) (nearer-shift f g)
      ∙ shifted-cond (nearer x f g) f g

module _ (x : Magnitude) (pos : 0 < x.below) (part : x.above ≤ x.below) where
  -- the fraction of a part is 1 at most
  pub over-within : (d : ℕ) → (over d x).above ≤ d
  unfolding over
  over-within d =
      let less : nearest (x.above * d) x.below ≤ nearest (d * x.below) x.below =
      nearest-monotone (x.above * d) (d * x.below) x.below pos (omega (arith, mul-le-mul_right d part)) in
      omega (arith, nearest-exact d x.below pos)

  pub nearest-within : (k : ℕ) → (nearest_up_to k x).above ≤ (nearest_up_to k x).below
  unfolding nearest_up_to over
  nearest-within zero = over-within 1
  nearest-within (suc k) =
      cond_both (λ (f : Fraction). f.above ≤ f.below) (nearer x (over (suc k) x) (nearest_up_to k x)) (over-within (suc k)) (nearest-within k)
