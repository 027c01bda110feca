-- Thirty decimals write every number that a section shows, after percents and dividing commas, and its mantissa.
-- Assumes nothing.
use mathlib.Core.Path.{◌≡◌, refl, sym, ap, ap₂, ◌∙◌}
use mathlib.Core.Logic.{⊎_elim}
use mathlib.Core.Bool.{Bool, true, false, cond}
use Prim.Native.Nat.{ℕ, ◌+◌, ◌-◌, ◌*◌, ◌/◌, ◌^◌, ◌≤◌, ◌<◌}
use native.Mathlib.Nat.{mul-le-mul_left, mul-le-mul_right, le_of_mul-le-mul_right, mul-one, zero-mul}
use native.Mathlib.Omega.{arith}
use lib.Dec.{eqb}
use Rattle.lists.proofs.Bools.{by_cases}
use Rattle.figures.specs.Rounding.{Magnitude, nearest, scaled, rounded}
use Rattle.figures.specs.Powers.{powered}
use Rattle.figures.specs.Digits.{width}
use Rattle.figures.specs.General.{general_decimals, general_rounded}
use Rattle.figures.proofs.Tens.{ten-pos, ten-le}
use Rattle.figures.proofs.Filling.{lt-or-le}
use Rattle.figures.proofs.Rounding.{half-unit, scaled-powered, rounded-divided, rounded-exact}
use Rattle.figures.proofs.Exactly.{eqb-scale}
use Rattle.exponents.specs.Exponent.{Exponent, under, over, decimal, divided_by, exponent_of, mantissa_of}
use Rattle.exponents.proofs.Least.{divided-powered, mantissa-powered}
use Rattle.exponents.proofs.Mantissa.{exponent-nought}
use Rattle.exponents.proofs.Search.{mantissa-digits}
use Rattle.cuts.specs.Cut.{whole_at, decimals_cut, general_cut, mantissa_cut}
use Rattle.cuts.proofs.Counting.{thirty-enough}

-- of fifteen digits what is divided by 10^16 or more rounds to less than 1
divided-most : (m v d : ℕ) → m < 10 ^ 15 → d ≤ 15 → 10 ^ 15 ≤ rounded (powered m 0 v) d → v ≤ 15
unfolding powered
divided-most m v d small most h =
    let t : ℕ = 10 ^ 15 in
    let b : ℕ = 10 ^ v in
    let n : ℕ = rounded (powered m 0 v) d in
    let near : 2 * (n * b) ≤ 2 * (m * 1 * t) + b * 10 ^ (15 - d) = (half-unit (powered m 0 v) d (ten-pos v) most).not_above in
    let unit : b * 10 ^ (15 - d) ≤ b * t = mul-le-mul_left b (ten-le (15 - d) 15 (omega arith)) in
    let grown : t * b ≤ n * b = mul-le-mul_right b h in
    let twice : b * t ≤ 2 * m * t = omega arith in
    let less : b ≤ 2 * m = le_of_mul-le-mul_right twice (ten-pos 15) in
    ⊎_elim
    (λ (far : 15 < v). absurd (omega (arith, ten-le 16 v (omega arith))))
    (λ (near : v ≤ 15). near)
    (lt-or-le 15 v)

module _ (m s n d : ℕ) (small : m < 10 ^ 15) (scale : s ≤ 15) (one : 1 ≤ n) (most : d ≤ 15) where
  abbrev e : Exponent
  e = exponent_of (decimal m s) n d

  positive-over : 0 < m → s + over e ≤ 15
  unfolding mantissa_of under over
  positive-over pos =
      let digits : 10 ^ 15 ≤ mantissa_of (decimal m s) n d = (mantissa-digits m s n d pos small scale one most).0 in
      let rounds : 10 ^ 15 ≤ rounded (powered m (under e) (s + over e)) d = rw (mantissa-powered m s d e) at digits in
      by_cases e.below
      (λ h. rw h (omega arith))
      (λ h.
      let same : rounded (powered m (under e) (s + over e)) d ≡ rounded (powered m 0 (s + over e)) d =
      ap (λ (b : Bool). rounded (powered m (cond b e.size 0) (s + over e)) d) h in
      divided-most m (s + over e) d small most (rw same at rounds))

  nought-over : m ≡ 0 → s + over e ≤ 15
  unfolding over
  nought-over h = rw (exponent-nought (decimal m s) n d h) (omega arith)

  -- by how many digits a number is divided in all
  pub exponent-over : s + over e ≤ 15
  exponent-over = ⊎_elim positive-over (λ (h : m ≤ 0). nought-over (omega arith)) (lt-or-le 0 m)

  pub mantissa-enough : whole_at (divided_by (decimal m s) e) 30 ≡ true
  mantissa-enough = rw (divided-powered m s e) (thirty-enough m (under e) (s + over e) (omega (arith, exponent-over)))

-- "fifteen of the scale, fifteen of five dividing commas"
pub scaled-enough : (m s p t : ℕ) → s ≤ 15 → t ≤ 5 → whole_at (scaled m s p t) 30 ≡ true
scaled-enough m s p t hs ht = rw (scaled-powered m s p t) (thirty-enough m (2 * p) (s + 3 * t) (omega arith))

pub scaled-pos : (m s p t : ℕ) → 0 < (scaled m s p t).below
unfolding powered
scaled-pos m s p t = rw (scaled-powered m s p t) (ten-pos (s + 3 * t))

pub divided-pos : (m s : ℕ) (e : Exponent) → 0 < (divided_by (decimal m s) e).below
unfolding powered
divided-pos m s e = rw (divided-powered m s e) (ten-pos (s + over e))

-- the decimals that General keeps, as the code finds them
pub general-kept : (m s : ℕ) {p w k : ℕ} → p ≡ 10 ^ s → w ≡ width (m / p) → k ≡ 10 - w → (k ≤ 15) × (k ≡ general_decimals (powered m 0 s))
unfolding general_decimals powered
general-kept m s {p} {w} {k} ep ew ek =
    let same : w ≡ width (m * 1 / 10 ^ s) = ew ∙ ap₂ (λ (a b : ℕ). width (a / b)) (sym (mul-one m)) ep in
    (omega arith, ek ∙ ap (λ (v : ℕ). 10 - v) same)

pub general-counted : (m s : ℕ) {k r : ℕ} → k ≡ general_decimals (powered m 0 s) → r ≡ decimals_cut (powered m 0 s) k → r ≡ general_cut (powered m 0 s)
unfolding general_cut
general-counted m s ek er = er ∙ ap (decimals_cut (powered m 0 s)) ek

-- ---- nothing is left
zero-times : (q p : ℕ) → 0 < p → eqb q 0 ≡ eqb (q * p) 0
zero-times q p pos = sym (eqb-scale q 0 p pos) ∙ ap (eqb (q * p)) (zero-mul p)

module _ (m up down d : ℕ) (most : d ≤ 15) where
  pub nought-divided : {q : ℕ} → up + d < down → q ≡ nearest m (10 ^ (down - (up + d))) → eqb q 0 ≡ eqb (rounded (powered m up down) d) 0
  nought-divided {q} h e =
      zero-times q (10 ^ (15 - d)) (ten-pos (15 - d)) ∙ ap (λ (x : ℕ). eqb x 0) (ap (λ (x : ℕ). x * 10 ^ (15 - d)) e ∙ sym (rounded-divided m up down d most (omega arith)))

  pub nought-kept : down ≤ up + d → eqb m 0 ≡ eqb (rounded (powered m up down) d) 0
  nought-kept h = zero-times m (10 ^ (up + 15 - down)) (ten-pos (up + 15 - down)) ∙ ap (λ (x : ℕ). eqb x 0) (sym (rounded-exact m up down d most h))

pub general-vanishes : (m s : ℕ) {k : ℕ} {b : Bool} → k ≡ general_decimals (powered m 0 s) → b ≡ eqb (rounded (powered m 0 s) k) 0
    → b ≡ eqb (general_rounded (powered m 0 s)) 0
unfolding general_rounded
general-vanishes m s ek eb = eb ∙ ap (λ (d : ℕ). eqb (rounded (powered m 0 s) d) 0) ek

-- what the code counts is the cut of a mantissa
module _ (m s n d : ℕ) {size : ℕ} {below : Bool} (es : size ≡ (exponent_of (decimal m s) n d).size) (eb : below ≡ (exponent_of (decimal m s) n d).below) where
  -- by no more digits than a power holds
  pub above_most : m < 10 ^ 15 → s ≤ 15 → 1 ≤ n → d ≤ 15 → below ≡ false → s + size ≤ 15
  unfolding over
  above_most small scale one most h =
      let b : (exponent_of (decimal m s) n d).below ≡ false = sym eb ∙ h in
      rw (b, ← es) at (exponent-over m s n d small scale one most)

  mantissa-counted : (up down : ℕ) {r : ℕ} → under (exponent_of (decimal m s) n d) ≡ up → s + over (exponent_of (decimal m s) n d) ≡ down
      → r ≡ decimals_cut (powered m up down) d → r ≡ mantissa_cut (decimal m s) n d
  unfolding mantissa_cut
  mantissa-counted up down eu ed er =
      er
      ∙ ap₂ (λ (u v : ℕ). decimals_cut (powered m u v) d) (sym eu) (sym ed)
      ∙ ap (λ (x : Magnitude). decimals_cut x d) (sym (divided-powered m s (exponent_of (decimal m s) n d)))

  pub below-counted : {r : ℕ} → below ≡ true → r ≡ decimals_cut (powered m size s) d → r ≡ mantissa_cut (decimal m s) n d
  unfolding under over
  below-counted h =
      let b : (exponent_of (decimal m s) n d).below ≡ true = sym eb ∙ h in
      mantissa-counted size s (rw b (sym es)) (rw b (omega arith))

  pub above-counted : {r : ℕ} → below ≡ false → r ≡ decimals_cut (powered m 0 (s + size)) d → r ≡ mantissa_cut (decimal m s) n d
  unfolding under over
  above-counted h =
      let b : (exponent_of (decimal m s) n d).below ≡ false = sym eb ∙ h in
      mantissa-counted 0 (s + size) (rw b refl) (rw b (ap (λ (v : ℕ). s + v) (sym es)))
