-- What rounding to the nearest means (R68, R75), apart from the formula that does it.
-- Assumes nothing.
use Rattle.std.specs.Prelude.{◌≡◌, ℕ, ◌+◌, ◌-◌, ◌*◌, ◌%◌, ◌^◌, ◌≤◌, ◌<◌}
use Rattle.figures.specs.Rounding.{Magnitude}

-- n, a count of 10^-15, is x rounded to d decimals:
-- n is a whole number of units of the last decimal (it has no digit below that place);
-- n is above x by half such a unit at most; and x is above n by less than half a unit, so that a half goes up, away from zero.
-- The bounds are times 2 * below * 10^15, so that they are said of naturals: n / 10^15 against above / below, the unit 10^(15 - d).
pub record Near (x : Magnitude) (d n : ℕ) : Type 0 where
  pub whole : n % 10 ^ (15 - d) ≡ 0
  pub not_above : 2 * (n * x.below) ≤ 2 * (x.above * 10 ^ 15) + x.below * 10 ^ (15 - d)
  pub not_below : 2 * (x.above * 10 ^ 15) < 2 * (n * x.below) + x.below * 10 ^ (15 - d)
