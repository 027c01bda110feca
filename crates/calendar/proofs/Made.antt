-- A date made of the values that the code has found.
-- Assumes nothing.
use mathlib.Core.Path.{◌≡◌}
use Prim.Native.Nat.{ℕ, ◌+◌, ◌*◌, ◌%◌, ◌≤◌}
use Rattle.calendar.specs.declared.YearDay.{YearDay}
use Rattle.calendar.specs.declared.MonthDay.{MonthDay}
use Rattle.calendar.specs.Year.{year_day_of}
use Rattle.calendar.specs.Date.{month_days, month_day_from, date_of}
use Rattle.calendar.specs.Made.{made_year_day, made_month_day, made_date}
use Rattle.calendar.proofs.Years.{years-few}

pub made-years-few : (day : ℕ) (y : YearDay) → y ≡ made_year_day (year_day_of day) → 365 * y.years ≤ day
made-years-few day y e = rw e (years-few day)

pub date-made : (day : ℕ) (y : YearDay) (m : MonthDay) → y ≡ made_year_day (year_day_of day) → m ≡ made_month_day (month_day_from 1 (month_days y.years) y.day) →
    record { year = 1900 + y.years; month = m.month; day = m.day; weekday = day % 7 } ≡ made_date (date_of day)
unfolding date_of
date-made day y m e f = rw (f, e)
