-- What the table of first day numbers holds.
-- Assumes nothing.
use Rattle.std.specs.Prelude.{ℕ, List}
use Rattle.lists.specs.Tables.{values}
use Rattle.calendar.specs.Year.{first_day}

-- "The first day number of each year 1900 to 2300 stands in a fixed table of 401 numbers"
unfoldable pub first_days : List ℕ
first_days = values first_day 0 401
