-- "Figures" (R67, R68, R137): the exact scaled number, the rounded number, and whether they are equal.
-- Assumes nothing.
use Rattle.std.specs.Prelude.{ℕ, ◌+◌, ◌-◌, ◌*◌, ◌/◌, ◌^◌, Bool, eqb}

-- a number without its sign, exactly: above / below
pub record Magnitude : Type 0 where
  pub above : ℕ
  pub below : ℕ

-- the exact scaled number: m / 10^scale, "Each `%` multiplies by 100", commas "each divide by 1,000"
unfoldable pub scaled : ℕ → ℕ → ℕ → ℕ → Magnitude
scaled m scale percents thousands = record { above = m * 100 ^ percents; below = 10 ^ scale * 1000 ^ thousands }

-- a / b to the nearest whole number, halves up: away from zero, since the sign stands apart
unfoldable pub nearest : ℕ → ℕ → ℕ
nearest a b = (2 * a + b) / (2 * b)

-- the rounded number: x to d decimals (at most 15), as a count of 10^-15
unfoldable pub rounded : Magnitude → ℕ → ℕ
rounded x d = nearest (x.above * 10 ^ d) x.below * 10 ^ (15 - d)

-- "whether the rounded number equals the exact one" (R137): x to d decimals against above / below
unfoldable pub rounds_exactly : Magnitude → ℕ → Bool
rounds_exactly x d = eqb (rounded x d * x.below) (x.above * 10 ^ 15)
