-- Dates of day numbers, computed from the definitions.
-- Assumes nothing.
use mathlib.Core.Path.{◌≡◌, refl}
use mathlib.Core.List.{List, [], ◌∷◌}
use Prim.Native.Nat.{ℕ}
use Rattle.lists.specs.Lists.{All}
use Rattle.calendar.specs.Year.{gregorian_leap, leap, year_days, year_day_from, year_day_of}
use Rattle.calendar.specs.Date.{month_days, month_day_from, Date, date_of}

pub record Row : Type 0 where
  pub day : ℕ
  pub date : Date

abbrev pub row : ℕ → ℕ → ℕ → ℕ → ℕ → Row
row n y m d w = record { day = n; date = record { year = y; month = m; day_of_month = d; weekday = w } }

-- day, year, month, day of the month, weekday
abbrev pub rows : List Row
rows =
    row 0 1900 1 0 0
    ∷ row 1 1900 1 1 1
    ∷ row 59 1900 2 28 3
    ∷ row 60 1900 2 29 4
    ∷ row 61 1900 3 1 5
    ∷ row 366 1900 12 31 2
    ∷ row 367 1901 1 1 3
    ∷ row 28086 1976 11 22 2
    ∷ row 2958465 9999 12 31 6
    ∷ []

pub rows_right : All (λ (r : Row). date_of r.day ≡ r.date) rows
unfolding gregorian_leap leap year_days year_day_from year_day_of month_days month_day_from date_of
rows_right = (refl, (refl, (refl, (refl, (refl, (refl, (refl, (refl, (refl, tt)))))))))
