-- "Days" (R82, R83): the date of a day number, and its weekday.
-- Assumes nothing.
use Rattle.std.specs.Prelude.{ℕ, suc, ◌+◌, ◌-◌, ◌%◌, cond, List, [], ◌∷◌, leb}
use Rattle.calendar.specs.Year.{leap, YearDay, year_day_of}

-- the days of each month of the year 1900 + k
unfoldable pub month_days : ℕ → List ℕ
month_days k = 31 ∷ cond (leap k) 29 28 ∷ 31 ∷ 30 ∷ 31 ∷ 30 ∷ 31 ∷ 31 ∷ 30 ∷ 31 ∷ 30 ∷ 31 ∷ []

-- a month, January being 1, and a day of it
pub record MonthDay : Type 0 where
  pub month : ℕ
  pub day_of_month : ℕ

-- the n-th day from the first of month m on, the months' lengths given
unfoldable pub month_day_from : ℕ → List ℕ → ℕ → MonthDay
month_day_from m [] n = record { month = m; day_of_month = n }
month_day_from m (l ∷ ls) n =
    let later = month_day_from (suc m) ls (n - l) in
    cond (leb n l) (record { month = m; day_of_month = n }) later

pub record Date : Type 0 where
  pub year : ℕ
  pub month : ℕ
  pub day_of_month : ℕ
  pub weekday : ℕ

abbrev pub date_in : YearDay → MonthDay → ℕ → Date
date_in y m w = record { year = 1900 + y.years; month = m.month; day_of_month = m.day_of_month; weekday = w }

-- "Weekday is day mod 7, 1 for Sunday, 0 for Saturday." (R83)
unfoldable pub date_of : ℕ → Date
date_of day = let y = year_day_of day in date_in y (month_day_from 1 (month_days y.years) y.day_of_year) (day % 7)
