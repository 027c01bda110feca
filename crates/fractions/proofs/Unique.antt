-- There is one nearest fraction at most: what is shown is in lowest terms, and no choice is left.
-- Assumes nothing.
use mathlib.Core.Path.{◌≡◌, sym, ap, ap₂, ◌∙◌}
use mathlib.Core.Logic.{⊎_elim}
use Prim.Native.Nat.{ℕ, ◌+◌, ◌-◌, ◌*◌, ◌/◌, ◌%◌, ◌≤◌, ◌<◌}
use native.Mathlib.Nat.{le_antisymm, mul-le-mul_left, mul-le-mul_right, div-add-mod', mod-lt, eq_of_mul-eq-mul_right}
use native.Mathlib.Omega.{arith}
use Rattle.figures.specs.Rounding.{Magnitude}
use Rattle.figures.proofs.Filling.{lt-or-le}
use Rattle.fractions.specs.declared.Fraction.{Fraction}
use Rattle.fractions.specs.Fractions.{apart}
use Rattle.fractions.specs.Nearest.{NearestFraction}
use Rattle.fractions.proofs.Nearness.{apart-under, apart-most}

-- between p/d and q/d lies a fraction over e = d - 1: p' = p - w, w the whole part of p/d
shorter : (p q d e w rest p' : ℕ) → d ≡ e + 1 → w * d + rest ≡ p → rest ≤ e → p' + w ≡ p → p < q → (p * e ≤ p' * d) × (p' * d ≤ q * e)
shorter p q d e w rest p' hd hp hr hw less =
    let at = ap (λ (z : ℕ). z * w) hd in
    let on = ap (λ (z : ℕ). z * p') hd in
    let whole = ap (λ (z : ℕ). z * e) hw in
    (omega arith, omega (arith, mul-le-mul_right e less))

module _ (x : Magnitude) (f g : Fraction) where
  -- a number as near to one numerator as to a greater one is in the middle
  middle : 0 < x.below → f.below ≡ g.below → f.above < g.above → apart x f ≡ apart x g
      → f.above * x.below + g.above * x.below ≡ 2 * (x.above * f.below)
  unfolding apart
  middle pos same less e = omega (arith, mul-le-mul_right x.below less, ap (λ (z : ℕ). x.above * z) same)

  -- what lies between the two is as near
  inside-near : (h : Fraction) → f.above * x.below + g.above * x.below ≡ 2 * (x.above * f.below)
      → f.above * h.below ≤ h.above * f.below → h.above * f.below ≤ g.above * h.below → apart x h * f.below ≤ apart x f * h.below
  inside-near h e least most =
      let even = ap (λ (z : ℕ). z * h.below) e in
      let under = mul-le-mul_right h.below (apart-under x f) in
      apart-most x h f.below (apart x f * h.below)
      (omega (arith, mul-le-mul_right x.below most)) (omega (arith, mul-le-mul_right x.below least))

module _ {x : Magnitude} (pos : 0 < x.below) {most : ℕ} (two : 2 ≤ most) {f : Fraction} (n : NearestFraction x most f) where
  -- no greater numerator over the same denominator d is as near: a half is nearer where d is 1, else a fraction over d - 1 is as near
  no_second_lem : (g : Fraction) → f.below ≡ g.below → apart x f ≡ apart x g → f.above < g.above → ⊥
  no_second_lem g same e less =
      let p : ℕ = f.above in
      let d : ℕ = f.below in
      let even = middle x f g pos same less e in
      ⊎_elim
      (λ (many : 1 < d).
      let w : ℕ = p / d in
      let split = div-add-mod' p d in
      let rest = mod-lt p {m = d} n.from in
      let whole = mul-le-mul_left w n.from in
      let h : Fraction = record { above = p - w; below = d - 1 } in
      let inside = shorter p g.above d (d - 1) w (p % d) (p - w) (omega arith) split (omega arith) (omega arith) less in
      let better = n.best h (omega arith) (omega (arith, n.up_to)) in
      omega (arith, better.small (le_antisymm better.near (inside-near x f g h even inside.0 inside.1))))
      (λ (few : d ≤ 1).
      let h : Fraction = record { above = p + g.above; below = 2 } in
      let one : d ≡ 1 = omega (arith, n.from) in
      let at = ap (λ (z : ℕ). x.above * z) one in
      let none : apart x h * 1 ≤ 0 = apart-most x h 1 0 (omega arith) (omega arith) in
      let better = (n.best h (omega arith) two).near in
      omega (arith, apart-under x f, mul-le-mul_right x.below less, ap (λ (z : ℕ). apart x h * z) one))
      (lt-or-le 1 d)

  not-greater : (g : Fraction) → f.below ≡ g.below → apart x f ≡ apart x g → g.above ≤ f.above
  not-greater g same e = ⊎_elim (λ less. absurd (no_second_lem g same e less)) (λ (h : g.above ≤ f.above). h) (lt-or-le f.above g.above)

-- two nearest fractions have one denominator, and then one numerator
pub nearest-unique : {x : Magnitude} {most : ℕ} {f g : Fraction} → 0 < x.below → 2 ≤ most → NearestFraction x most f → NearestFraction x most g → f ≡ g
nearest-unique {x} {most} {f} {g} pos two n m =
    let there = n.best g m.from m.up_to in
    let back = m.best f n.from n.up_to in
    let e : apart x f * g.below ≡ apart x g * f.below = le_antisymm there.near back.near in
    let same : f.below ≡ g.below = le_antisymm (there.small e) (back.small (sym e)) in
    let far : apart x f ≡ apart x g = eq_of_mul-eq-mul_right g.below m.from (apart x f) (apart x g) (e ∙ ap (λ (z : ℕ). apart x g * z) same) in
    ap₂ (λ (a b : ℕ). record { above = a; below = b })
    (le_antisymm (not-greater pos two m f (sym same) (sym far)) (not-greater pos two n g same far)) same
