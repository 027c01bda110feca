-- The values that the code hands over, made from the defined ones.
-- Assumes nothing.
use Rattle.calendar.specs.Year.{YearDay}
use Rattle.calendar.specs.Date.{MonthDay, Date}
use Rattle.calendar.specs.declared.YearDay.{YearDay as YearDayValue}
use Rattle.calendar.specs.declared.MonthDay.{MonthDay as MonthDayValue}
use Rattle.calendar.specs.declared.Date.{Date as DateValue}

abbrev pub made_year_day : YearDay → YearDayValue
made_year_day y = record { years = y.years; day = y.day_of_year }

abbrev pub made_month_day : MonthDay → MonthDayValue
made_month_day d = record { month = d.month; day = d.day_of_month }

abbrev pub made_date : Date → DateValue
made_date d = record { year = d.year; month = d.month; day = d.day_of_month; weekday = d.weekday }
