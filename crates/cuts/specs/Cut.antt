-- How many decimals a rounding cuts (R139): "the figures that the exact scaled number, written without trailing zeros, has beyond those the rounding keeps".
-- Assumes nothing.
use Rattle.std.specs.Prelude.{ℕ, zero, suc, ◌-◌, ◌*◌, ◌%◌, ◌^◌, Bool, cond, eqb}
use Rattle.figures.specs.Rounding.{Magnitude}
use Rattle.figures.specs.General.{general_decimals}
use Rattle.exponents.specs.Exponent.{divided_by, exponent_of}

-- j decimals are enough to write x: times 10^j it is whole
unfoldable pub whole_at : Magnitude → ℕ → Bool
whole_at x j = eqb (x.above * 10 ^ j % x.below) 0

-- the least number of decimals from j on that is enough; so many more are looked at
unfoldable pub decimals_from : Magnitude → ℕ → ℕ → ℕ
decimals_from x j zero = j
decimals_from x j (suc more) = let r = decimals_from x (suc j) more in cond (whole_at x j) j r

-- how many decimals x has, "written without trailing zeros"; none has more than 30: fifteen of the scale, fifteen of five dividing commas
unfoldable pub decimals_of : Magnitude → ℕ
decimals_of x = decimals_from x 0 30

-- those "beyond those the rounding keeps"
unfoldable pub decimals_cut : Magnitude → ℕ → ℕ
decimals_cut x kept = decimals_of x - kept

-- as General rounds it: trailing zeros that it drops later are kept by the rounding
unfoldable pub general_cut : Magnitude → ℕ
general_cut x = decimals_cut x (general_decimals x)

-- of x / 10^e with the exponent shown, under n integer places and d decimals
unfoldable pub mantissa_cut : Magnitude → ℕ → ℕ → ℕ
mantissa_cut x n d = decimals_cut (divided_by x (exponent_of x n d)) d
