-- A magnitude by its net power of ten: percents, dividing commas and the scale are powers of ten.
-- Assumes nothing.
use Rattle.std.specs.Prelude.{ℕ, ◌*◌, ◌^◌}
use Rattle.figures.specs.Rounding.{Magnitude}

-- m times 10^up, divided by 10^down
unfoldable pub powered : ℕ → ℕ → ℕ → Magnitude
powered m up down = record { above = m * 10 ^ up; below = 10 ^ down }
