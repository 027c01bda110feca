-- The numbers that the code finds once of an instant, and that they are what a context shows.
-- Assumes nothing.
use Rattle.std.specs.Prelude.{ℕ, ◌%◌, ◌≡◌, Bool, cond, ◌&&◌, ◌||◌, eqb, ltb}
use Rattle.values.specs.declared.Day.{Day}
use Rattle.values.specs.declared.Millisecond.{Millisecond}
use Rattle.values.specs.Ranges.{between}
use Rattle.calendar.specs.Date.{Date, date_of}
use Rattle.calendar.specs.Clock.{clock_of, since_day_zero}
use Rattle.formats.specs.Text.{Context}
use Rattle.tables.specs.Words.{Entry}
use Rattle.date_text.specs.declared.Moment.{Moment}

-- the entry is that of a year, a month or a day
abbrev pub dated_entry : Entry → Bool
dated_entry e = between 11 13 e.tag

-- the date of a day where it is shown, else noughts
abbrev pub date_shown : Bool → ℕ → Date
date_shown dated day = cond dated (date_of day) (record { year = 0; month = 0; day_of_month = 0; weekday = 0 })

-- what items show of a day and a millisecond of it, or find what they show by
abbrev pub moment_of : Bool → Bool → Day → Millisecond → Moment
moment_of twelve dated d m =
    let date = date_shown dated d.0 in
    record {
      year = date.year;
      month = date.month;
      day = date.day_of_month;
      day_number = d.0;
      millisecond = m.0;
      elapsed = since_day_zero d.0 m.0;
      twelve = twelve;
    }

-- a moment's date is the one that a context shows
pub record DateIs (m : Moment) (c : Context) : Type 0 where
  pub year : m.year ≡ c.date.year
  pub month : m.month ≡ c.date.month
  pub day_of_month : m.day ≡ c.date.day_of_month
  pub weekday : m.day_number % 7 ≡ c.date.weekday

-- its clock and its count since day 0 are
pub record ClockIs (m : Moment) (c : Context) : Type 0 where
  pub clock : clock_of m.millisecond ≡ c.clock
  pub elapsed : m.elapsed ≡ c.elapsed
  pub twelve : m.twelve ≡ c.twelve

-- a month or a day is shown by its name
abbrev pub is_named : ℕ → ℕ → Bool
is_named tag n = (eqb tag 12 || eqb tag 13) && ltb 2 n
