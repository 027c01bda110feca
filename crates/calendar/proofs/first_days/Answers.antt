-- `calendar::first_days` meets its contract: antt computes the list of the rule's values and compares it with the table.
-- Assumes nothing.
use mathlib.Core.Path.{refl}
use Rattle.calendar.specs.Year.{gregorian_leap, leap, year_days, first_day}
use Rattle.calendar.specs.Tables.{first_days}
use Rattle.calendar.proofs.first_days.Goals as goal

pub returns : goal.returns
unfolding gregorian_leap leap year_days first_day first_days
returns c = refl
