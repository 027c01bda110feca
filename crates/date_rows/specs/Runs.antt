-- The rule for m in one pass: what an item leaves for the next one.
-- Assumes nothing.
use Rattle.std.specs.Prelude.{Bool, true, false, cond, not, ◌&&◌, leb}
use Rattle.formats.specs.Items.{Item, item_row, is_month, is_minute, Run, hour_run, second_run, other_run, no_run, run_of}
use Rattle.formats.specs.Where.{implies}
use Rattle.date_rows.specs.declared.earlier_runs.Earlier.{Earlier}
use Rattle.date_rows.specs.declared.earlier_runs.Earlier.TheVariants.{Nothing, Hours, Seconds, Other, MonthWaits, MinutesWait}

-- the tests that are made of the nearest earlier run
abbrev pub is_nothing : Earlier → Bool
is_nothing Nothing = true
is_nothing _ = false

abbrev pub is_hours : Earlier → Bool
is_hours Hours = true
is_hours _ = false

abbrev pub is_seconds_run : Earlier → Bool
is_seconds_run Seconds = true
is_seconds_run _ = false

-- an m of 1 or 2 said to be a month, and one said to be minutes with no hours before it: whether that is right the next run tells
abbrev pub month_waits : Earlier → Bool
month_waits MonthWaits = true
month_waits _ = false

abbrev pub minutes_wait : Earlier → Bool
minutes_wait MinutesWait = true
minutes_wait _ = false

-- the run that it is
unfoldable pub run_at : Earlier → Run
run_at Nothing = no_run
run_at Hours = hour_run
run_at Seconds = second_run
run_at Other = other_run
run_at MonthWaits = other_run
run_at MinutesWait = other_run

unfoldable pub run_after : Run → Earlier → Earlier
run_after no_run n = n
run_after hour_run n = Hours
run_after second_run n = Seconds
run_after other_run n = Other

abbrev pub is_short : Item → Bool
is_short i = leb (item_row i).argument 2

unfoldable pub earlier_after : Earlier → Item → Earlier
earlier_after n i =
    cond (is_month i && is_short i) MonthWaits (cond (is_minute i && not (is_hours n)) MinutesWait (run_after (run_of i) n))

-- what an m is said to be as far as the run before it tells: a short month is not behind hours, minutes are short
unfoldable pub may_stand : Earlier → Item → Bool
may_stand n i = implies (is_month i && is_short i) (not (is_hours n)) && implies (is_minute i) (is_short i)

-- a run tells that the m before it is what it is said to be: no month before seconds, no minutes before another run
abbrev pub answered : Earlier → Earlier → Bool
answered n run = cond (is_seconds_run run) (not (month_waits n)) (not (minutes_wait n))

unfoldable pub answers : Earlier → Run → Bool
answers n no_run = true
answers n hour_run = answered n Hours
answers n second_run = answered n Seconds
answers n other_run = answered n Other
