-- What is easily got wrong, computed: a single statement over the rows.
-- Assumes nothing.
use mathlib.Core.Path.{◌≡◌, refl}
use mathlib.Core.Bool.{Bool, true, false}
use mathlib.Core.List.{List, [], ◌∷◌, map}
use Prim.Native.Nat.{ℕ, ◌*◌, ◌^◌}
use Rattle.figures.specs.Rounding.{nearest, rounded, rounds_exactly}
use Rattle.exponents.specs.Exponent.{Exponent, under, over, decimal, divided_by, mantissa_at, leaves, multiple, exponent_from, exponent_of, mantissa_of, mantissa_exactly}

-- the exponent, the mantissa as a count of 10^-15, and whether it is exact
pub record Form : Type 0 where
  pub exponent : Exponent
  pub mantissa : ℕ
  pub exact : Bool

-- m / 10^scale under so many integer places and decimals, and its form
pub record Case : Type 0 where
  pub number : ℕ
  pub scale : ℕ
  pub integers : ℕ
  pub decimals : ℕ
  pub form : Form

-- with the mantissa in tenths
abbrev pub up : ℕ → ℕ → Bool → Form
up tenths e exact = record { exponent = record { size = e; below = false }; mantissa = tenths * 10 ^ 14; exact = exact }

abbrev pub down : ℕ → ℕ → Bool → Form
down tenths e exact = record { exponent = record { size = e; below = true }; mantissa = tenths * 10 ^ 14; exact = exact }

abbrev pub row : ℕ → ℕ → ℕ → ℕ → Form → Case
row m s n d form = record { number = m; scale = s; integers = n; decimals = d; form = form }

unfoldable pub form_of : Case → Form
unfolding nearest rounded rounds_exactly under over divided_by mantissa_at leaves multiple exponent_from exponent_of mantissa_of mantissa_exactly
form_of c =
    let x = decimal c.number c.scale in
    record {
      exponent = exponent_of x c.integers c.decimals;
      mantissa = mantissa_of x c.integers c.decimals;
      exact = mantissa_exactly x c.integers c.decimals;
    }

unfoldable pub cases : List Case
cases =
    row 12200000 0 2 1 (up 122 6 true)
    -- "after rounding": to the other side of 1, and to one digit more
    ∷ row 94 2 1 0 (down 90 1 false)
    ∷ row 95 2 1 0 (up 10 0 false)
    ∷ row 994 2 1 1 (up 99 0 false)
    ∷ row 995 2 1 1 (up 10 1 false)
    ∷ row 99995 2 3 1 (up 10 3 false)
    ∷ row 99995 5 3 1 (up 10 0 false)
    -- the least multiple, below 0 too
    ∷ row 3 0 3 1 (up 30 0 true)
    ∷ row 3 1 3 1 (down 3000 3 true)
    ∷ row 1230 0 2 0 (up 120 2 false)
    ∷ row 5 3 2 0 (down 500 4 true)
    -- nought, and both ends of the range
    ∷ row 0 3 2 1 (up 0 0 true)
    ∷ row 1 15 1 0 (down 10 15 true)
    ∷ row 1 15 20 0 (down 1000000 20 true)
    ∷ row 999999999999999 0 1 0 (up 10 15 false)
    ∷ row 999999999999999 0 20 0 (up 9999999999999990 0 true)
    ∷ []

pub cases-right : map form_of cases ≡ map (λ (c : Case). c.form) cases
unfolding cases form_of
cases-right = refl
