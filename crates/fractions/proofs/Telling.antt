-- The carry, and what the code tells of a whole number and the fraction behind the point.
-- Assumes nothing.
use mathlib.Core.Path.{◌≡◌, refl, sym, ap, ap₂, ◌∙◌}
use mathlib.Core.Bool.{Bool, true, false, cond}
use Prim.Native.Nat.{ℕ, ◌+◌, ◌-◌, ◌*◌, ◌/◌, ◌%◌, ◌^◌, ◌≤◌, ◌<◌}
use native.Mathlib.Nat.{div-add-mod', div-le_self, mod-lt, mul-le-mul}
use native.Mathlib.Omega.{arith}
use borrow.Author.Tests.{eqb-true, eqb-false}
use lib.Dec.{eqb}
use Rattle.lists.proofs.Bools.{cond_both, cond-case}
use Rattle.figures.specs.Rounding.{Magnitude, nearest}
use Rattle.figures.proofs.Tens.{ten-pos, ten-le}
use Rattle.figures.proofs.Exactly.{eqb_same}
use Rattle.exponents.specs.Exponent.{decimal}
use Rattle.fractions.specs.declared.Fraction.{Fraction}
use Rattle.fractions.specs.declared.Mixed.{Mixed}
use Rattle.fractions.specs.Fractions.{over, nearest_up_to, nearest_fraction, behind_point, carried, unparted, fraction_of, mixed_exactly}
use Rattle.fractions.specs.Nearest.{Carried}
use Rattle.fractions.specs.Moves.{shifted, told_of}
use Rattle.fractions.proofs.Scan.{over-shift, nearest-shift, nearest-fraction, over-within, nearest-within}

-- the carry keeps the amount, and leaves less than 1 behind
pub carry-keeps : (w : ℕ) (f : Fraction) → 1 ≤ f.below → f.above ≤ f.below → Carried w f (carried w f)
unfolding carried
carry-keeps w f one h =
    cond-case (Carried w f) (eqb f.above f.below)
    (λ t. let e = eqb-true f.above f.below t in record { kept = omega arith; same = refl; proper = omega arith })
    (λ t. let e = eqb-false f.above f.below t in record { kept = refl; same = refl; proper = omega arith })

-- what is told is the amount of the whole number and the fraction, over the same denominator
told-keeps : (parted : Bool) (w : ℕ) (f : Fraction)
    → ((told_of parted w f).whole * (told_of parted w f).below + (told_of parted w f).above ≡ w * f.below + f.above) × ((told_of parted w f).below ≡ f.below)
unfolding told_of carried unparted shifted
told-keeps true w f =
    cond-case (λ (r : Mixed). (r.whole * r.below + r.above ≡ w * f.below + f.above) × (r.below ≡ f.below)) (eqb f.above f.below)
    (λ t. let e = eqb-true f.above f.below t in (omega arith, refl))
    (λ t. (refl, refl))
told-keeps false w f = (omega arith, refl)

-- what the code tells of the fraction picked for the part, where a whole number more is a whole number more above
told-picked : {r : Mixed} (parted : Bool) (part : Fraction) (pick : Magnitude → Fraction) (x : Magnitude)
    → pick (record { above = x.above / x.below * x.below + x.above % x.below; below = x.below })
    ≡ shifted (x.above / x.below) (pick (behind_point x))
    → part ≡ pick (behind_point x) → r ≡ told_of parted (x.above / x.below) part → r ≡ fraction_of parted pick x
unfolding fraction_of told_of
told-picked parted part pick x e f told =
    rw f at told
    ∙ ap (λ (g : Fraction). cond parted (carried (x.above / x.below) (pick (behind_point x))) (unparted g))
    (sym e ∙ ap (λ (a : ℕ). pick (record { above = a; below = x.below })) (div-add-mod' x.above x.below))

-- by the power of ten that the code has
module _ (m s : ℕ) {unit : ℕ} (u : unit ≡ 10 ^ s) where
  pub unit-pos : 0 < unit
  unit-pos = rw u (ten-pos s)

  -- the part is below 1, and its fraction small
  pub part-less : m % unit < unit
  part-less = mod-lt m unit-pos

  pub nearest-small : {most : ℕ} {f : Fraction} → 1 ≤ most → most ≤ 999 → f ≡ nearest_up_to most (record { above = m % unit; below = unit })
      → (f.above ≤ 999) × (1 ≤ f.below) × (f.below ≤ 999)
  nearest-small {most} one few e =
      let x : Magnitude = record { above = m % unit; below = unit } in
      let n = nearest-fraction x unit-pos most one in
      rw e (omega (arith, nearest-within x unit-pos (omega (arith, part-less)) most, n.up_to), n.from, omega (arith, n.up_to))

  pub fixed-small : {d a : ℕ} → d ≤ 999 → a ≡ nearest (m % unit * d) (10 ^ s) → a ≤ 999
  unfolding over
  fixed-small {d} few e =
      let within = over-within (record { above = m % unit; below = unit }) unit-pos (omega (arith, part-less)) d in
      omega (arith, ap (nearest (m % unit * d)) u)

  -- the quotient that finds the numerator is exact where the fraction is the part
  pub fixed-met : (d : ℕ) {a : ℕ} → a ≡ nearest (m % unit * d) (10 ^ s)
      → eqb (nearest (m % unit * d) (10 ^ s) * 10 ^ s) (m % unit * d) ≡ eqb (a * unit) (m % unit * d)
  fixed-met d e = ap₂ (λ (x y : ℕ). eqb (x * y) (m % unit * d)) (sym e) (sym u)

  module _ (parted : Bool) (part : Fraction) {r : Mixed} (told : r ≡ told_of parted (m / unit) part) where
    pub told-nearest : (k : ℕ) {p : ℕ} → p ≡ 10 ^ k → part ≡ nearest_up_to (p - 1) (record { above = m % unit; below = unit })
        → r ≡ fraction_of parted (nearest_fraction k) (decimal m s)
    unfolding nearest_fraction behind_point
    told-nearest k e f =
        let x : Magnitude = decimal m s in
        told-picked parted part (nearest_fraction k) x (nearest-shift (m / 10 ^ s) (behind_point x) (ten-pos s) (10 ^ k - 1)) (rw (e, u) at f) (rw u at told)

    pub told_over : part.above ≡ nearest (m % unit * part.below) (10 ^ s) → r ≡ fraction_of parted (over part.below) (decimal m s)
    unfolding behind_point over
    told_over f =
        let x : Magnitude = decimal m s in
        let e : part ≡ over part.below (behind_point x) = ap (λ (a : ℕ). record { above = a; below = part.below }) (rw u at f) in
        told-picked parted part (over part.below) x (over-shift (m / 10 ^ s) (behind_point x) (ten-pos s) part.below) e (rw u at told)

    -- it is the number where the fraction is the part behind the point
    pub told-exactly : eqb (part.above * unit) (m % unit * part.below) ≡ mixed_exactly (decimal m s) r
    unfolding mixed_exactly
    told-exactly =
        let kept = told-keeps parted (m / unit) part in
        let whole = ap (λ (x : ℕ). x * part.below) (div-add-mod' m unit) in
        rw (told, ← u, kept.0, kept.1)
        (eqb_same {a = part.above * unit} {b = m % unit * part.below} {c = (m / unit * part.below + part.above) * unit} {d = m * part.below}
        (λ e. omega arith) (λ e. omega arith))

-- how large what is told is
pub record TellsSmall (r : Mixed) : Type 0 where
  pub whole : r.whole ≤ 10 ^ 15
  pub above : r.above < 10 ^ 18
  pub from : 1 ≤ r.below
  pub up_to : r.below ≤ 999

told-small : (parted : Bool) (w : ℕ) (f : Fraction) → w < 10 ^ 15 → f.above ≤ 999 → 1 ≤ f.below → f.below ≤ 999 → TellsSmall (told_of parted w f)
unfolding told_of carried unparted shifted
told-small true w f h a one b = cond_both TellsSmall (eqb f.above f.below) (omega arith) (omega arith)
told-small false w f h a one b = omega (arith, mul-le-mul h b)

module _ (parted : Bool) (m s : ℕ) (h : m < 10 ^ 15) where
  whole-small : m / 10 ^ s < 10 ^ 15
  whole-small = omega (arith, div-le_self m (10 ^ s))

  pub nearest-tells-small : (k : ℕ) → 1 ≤ k → k ≤ 3 → TellsSmall (fraction_of parted (nearest_fraction k) (decimal m s))
  nearest-tells-small k one few =
      let f : Fraction = nearest_up_to (10 ^ k - 1) (record { above = m % 10 ^ s; below = 10 ^ s }) in
      let least = ten-le 1 k one in
      let most = ten-le k 3 few in
      let small = nearest-small m s {unit = 10 ^ s} refl {f = f} (omega arith) (omega arith) refl in
      rw (← told-nearest m s {unit = 10 ^ s} refl parted f refl k refl refl) (told-small parted (m / 10 ^ s) f whole-small small.0 small.1 small.2)

  pub over-tells-small : (d : ℕ) → 1 ≤ d → d ≤ 999 → TellsSmall (fraction_of parted (over d) (decimal m s))
  over-tells-small d one few =
      let f : Fraction = record { above = nearest (m % 10 ^ s * d) (10 ^ s); below = d } in
      rw (← told_over m s {unit = 10 ^ s} refl parted f refl refl)
      (told-small parted (m / 10 ^ s) f whole-small (fixed-small m s {unit = 10 ^ s} refl few refl) one few)
