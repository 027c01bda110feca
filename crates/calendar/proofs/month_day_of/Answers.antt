-- `calendar::month_day_of` meets its contract.
-- Assumes nothing.
use Prim.Native.Nat.{◌≤◌}
use Rattle.std.proofs.Common.{rules, tests}
use mathlib.Core.Path.{sym, ap}
use Rattle.calendar.specs.Made.{made_month_day}
use Rattle.calendar.proofs.Months.{month-of-moved}
use Rattle.calendar.proofs.month_day_of.Goals as goal

pub returns : goal.returns
returns c =
    let a = c.args in
    let l = c.is_leap-long in
    let day : (1 ≤ a.n) × (a.n ≤ 366) = search (rules, tests) in
    ap made_month_day
    (sym (month-of-moved a.years a.n c.moved-day.result l.result l.ensures day.0 day.1 c.moved-day.ensures.0))
