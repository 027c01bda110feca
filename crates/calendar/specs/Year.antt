-- "Days" (R80 to R82): the years of the day numbers.
-- Assumes nothing.
use Rattle.std.specs.Prelude.{ℕ, zero, suc, ◌+◌, ◌-◌, ◌%◌, Bool, cond, not, ◌&&◌, ◌||◌, leb, eqb}

-- a leap year by the Gregorian rule (R80)
unfoldable pub gregorian_leap : ℕ → Bool
gregorian_leap y = eqb (y % 400) 0 || (eqb (y % 4) 0 && not (eqb (y % 100) 0))

-- the year 1900 + k has a 29 February: "day 60 as 29 February" gives 1900 one, which the Gregorian rule does not
unfoldable pub leap : ℕ → Bool
leap k = eqb k 0 || gregorian_leap (1900 + k)

-- the days of the year 1900 + k
unfoldable pub year_days : ℕ → ℕ
year_days k = cond (leap k) 366 365

-- "The first day number of each year": 1 for 1900, 367 for 1901, "then 365 or 366 more by the Gregorian rule"
unfoldable pub first_day : ℕ → ℕ
first_day zero = 1
first_day (suc k) = first_day k + year_days k

-- a year, as 1900 + years, and a day of it, the first being 1
pub record YearDay : Type 0 where
  pub years : ℕ
  pub day_of_year : ℕ

-- the n-th day from the first of 1900 + k on, found by taking off whole years, at most `most` of them
unfoldable pub year_day_from : ℕ → ℕ → ℕ → YearDay
year_day_from zero k n = record { years = k; day_of_year = n }
year_day_from (suc most) k n =
    let later = year_day_from most (suc k) (n - year_days k) in
    cond (leb n (year_days k)) (record { years = k; day_of_year = n }) later

-- the year of a day number; day 0 too stands in 1900, as its day 0 (R82)
unfoldable pub year_day_of : ℕ → YearDay
year_day_of day = year_day_from day 0 day
