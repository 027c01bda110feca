-- `calendar::year_day_of` meets its contract.
-- Assumes nothing.
use mathlib.Core.Path.{sym, ap}
use Prim.Native.Nat.{ℕ}
use native.Mathlib.Omega.{arith}
use Rattle.calendar.specs.Made.{made_year_day}
use Rattle.calendar.proofs.Years.{year-1900, year-later}
use Rattle.calendar.proofs.year_day_of.Goals as goal

pub returns-then-day-lt367 : goal.returns-then-day-lt367
returns-then-day-lt367 c = ap made_year_day (sym (year-1900 c.args.d.0 c.if-day-lt367.true))

pub returns : goal.returns
returns c =
    let y = c.year_within-start in
    let t = c.in_table-c in
    let day : ℕ = c.args.d.0 in
    ap made_year_day
    (sym
    (year-later day y.result.years y.result.first t.result.years t.result.day (omega arith) t.ensures.0 t.ensures.1
    y.ensures.1
    (omega arith)
    (omega arith)))
