-- What is easily got wrong, computed: a single statement over the rows.
-- Assumes nothing.
use mathlib.Core.Path.{◌≡◌, refl}
use mathlib.Core.Bool.{Bool, true, false}
use mathlib.Core.List.{List, [], ◌∷◌, map}
use Prim.Native.Nat.{ℕ}
use Rattle.figures.specs.Rounding.{Magnitude, nearest}
use Rattle.exponents.specs.Exponent.{decimal}
use Rattle.fractions.specs.declared.Fraction.{Fraction}
use Rattle.fractions.specs.declared.Nearest.{Nearest}
use Rattle.fractions.specs.Fractions.{over, apart, nearer, nearest_up_to, nearest_fraction, behind_point, carried, unparted, fraction_of, mixed_exactly}

-- m / 10^scale, with integer places or without, by a denominator's places or a fixed number, its form, and whether that is exact
pub record Case : Type 0 where
  pub number : ℕ
  pub scale : ℕ
  pub parted : Bool
  pub pick : Magnitude → Fraction
  pub form : Nearest

abbrev pub row : ℕ → ℕ → Bool → (Magnitude → Fraction) → ℕ → ℕ → ℕ → Bool → Case
row m s parted pick w a b exact =
    record {
      number = m;
      scale = s;
      parted = parted;
      pick = pick;
      form = record { mixed = record { whole = w; above = a; below = b }; exact = exact };
    }

unfoldable pub form_of : Case → Nearest
unfolding nearest over apart nearer nearest_up_to nearest_fraction behind_point carried unparted fraction_of mixed_exactly
form_of c =
    let x = decimal c.number c.scale in
    let f = fraction_of c.parted c.pick x in
    record { mixed = f; exact = mixed_exactly x f }

unfoldable pub cases : List Case
cases =
    -- the last convergent whose denominator is allowed is 1/3
    row 3 1 false (nearest_fraction 1) 0 2 7 false
    -- 3/8 is as near
    ∷ row 3875 4 true (nearest_fraction 1) 0 2 5 false
    -- the carry, only where there are integer places
    ∷ row 99 2 true (nearest_fraction 1) 1 0 1 false
    ∷ row 99 2 false (nearest_fraction 1) 0 1 1 false
    ∷ row 123 1 false (nearest_fraction 1) 0 86 7 false
    ∷ row 125 1 true (nearest_fraction 1) 12 1 2 true
    ∷ row 2832015625 10 true (nearest_fraction 3) 0 145 512 false
    -- a fixed number is not reduced, and halves go up
    ∷ row 125 2 true (over 8) 1 2 8 true
    ∷ row 25 2 true (over 2) 0 1 2 false
    ∷ row 99 2 true (over 8) 1 0 8 false
    ∷ row 995 1 false (over 8) 0 796 8 true
    -- exact where it and the integer part make up the number, with a whole number or without
    ∷ row 3 0 true (nearest_fraction 1) 3 0 1 true
    ∷ row 3001 3 true (nearest_fraction 1) 3 0 1 false
    ∷ row 125 2 false (nearest_fraction 1) 0 5 4 true
    -- nought
    ∷ row 0 3 true (nearest_fraction 2) 0 0 1 true
    ∷ []

pub cases-right : map form_of cases ≡ map (λ (c : Case). c.form) cases
unfolding cases form_of
cases-right = refl
