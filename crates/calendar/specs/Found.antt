-- What a day's year and month are (R82), said by bounds and sums, whatever way they are found.
-- Assumes nothing.
use Rattle.std.specs.Prelude.{◌≡◌, List, [], ◌∷◌, ℕ, suc, pred, ◌+◌, ◌≤◌, ◌<◌, get_or, take}
use Rattle.calendar.specs.Year.{first_day, YearDay}
use Rattle.calendar.specs.Date.{month_days, MonthDay}

-- y is the year of a day and the day's place in it: the year begins not after the day, the next year begins after it,
-- the place counts the days from the year's first day on, and no other year has these bounds.
-- Day 0 stands before every year's first day, as day 0 of 1900.
pub record YearFound (day : ℕ) (y : YearDay) : Type 0 where
  pub begun : 1 ≤ day → first_day y.years ≤ day
  pub ends : day < first_day (suc y.years)
  pub placed : first_day y.years + y.day_of_year ≡ suc day
  pub only : (k : ℕ) → (0 < k → first_day k ≤ day) → day < first_day (suc k) → k ≡ y.years

unfoldable pub sum : List ℕ → ℕ
sum [] = 0
sum (x ∷ xs) = x + sum xs

-- d is the month and the day of it of the n-th day of the year 1900 + k: the month is 1 to 12, the day is at most the month's length
-- and, unless n is 0, at least 1, and the earlier months' lengths and the day of the month make up n
pub record MonthFound (k n : ℕ) (d : MonthDay) : Type 0 where
  pub least : 1 ≤ d.month
  pub greatest : d.month ≤ 12
  pub first : 1 ≤ n → 1 ≤ d.day_of_month
  pub last : d.day_of_month ≤ get_or (month_days k) (pred d.month) 0
  pub counted : sum (take (pred d.month) (month_days k)) + d.day_of_month ≡ n
