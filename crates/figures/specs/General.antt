-- "General" (R76, R77, R79, R137): "n integer digits (at least 1); round to 10 - n decimals, or none from n = 10 on; drop trailing zeros [..]."
-- Assumes nothing.
use Rattle.std.specs.Prelude.{ℕ, ◌-◌, ◌/◌, ◌^◌, Bool, cond, ◌&&◌, List, [], ◌∷◌, ◌++◌, leb, eqb}
use Rattle.lists.specs.Lists.{is_empty}
use Rattle.figures.specs.Digits.{digit_units, width, numeral}
use Rattle.figures.specs.Rounding.{Magnitude, nearest, rounded, rounds_exactly}

-- "round to 10 - n decimals, or none from n = 10 on" (R76)
unfoldable pub general_decimals : Magnitude → ℕ
general_decimals x = 10 - width (x.above / x.below)

unfoldable pub general_rounded : Magnitude → ℕ
general_rounded x = rounded x (general_decimals x)

-- "whether the rounded number equals the exact one" (R137), as General rounds it
unfoldable pub general_exactly : Magnitude → Bool
general_exactly x = rounds_exactly x (general_decimals x)

-- "General, rounded to a whole number, reaches 10^11" (R79)
unfoldable pub general_too_wide : Magnitude → Bool
general_too_wide x = leb (10 ^ 11) (nearest x.above x.below)

-- "drop trailing zeros": the units without the zeros at their end
unfoldable pub without_end_zeros : List ℕ → List ℕ
without_end_zeros [] = []
without_end_zeros (u ∷ us) = let r = without_end_zeros us in cond (is_empty r && eqb u 48) [] (u ∷ r)

-- a point and the decimals, or nothing where there are none
unfoldable pub pointed : List ℕ → List ℕ
pointed [] = []
pointed (u ∷ us) = 46 ∷ u ∷ us

-- a count of 10^-15, as General shows it (R77)
unfoldable pub general_units : ℕ → List ℕ
general_units n = numeral 1 (n / 10 ^ 15) ++ pointed (without_end_zeros (digit_units 15 n))
