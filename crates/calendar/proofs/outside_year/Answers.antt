-- `calendar::outside_year` meets its contract.
-- Assumes nothing.
use mathlib.Core.Path.{sym, ap, ◌∙◌}
use mathlib.Core.Bool.{true, false}
use native.Mathlib.Omega.{arith}
use Rattle.calendar.specs.Made.{made_month_day}
use Rattle.calendar.proofs.Months.{month-nought, month-behind}
use Rattle.calendar.proofs.outside_year.Goals as goal
use Rattle.calendar.proofs.outside_year.Goals.{then-long, else-long}

pub returns-then-n-le366 : goal.returns-then-n-le366
returns-then-n-le366 c k e = ap made_month_day (sym (month-nought k c.args.n (c.requires c.if-n-le366.true)))

pub returns : goal.returns
returns c k e =
    elim c.if-long.branch [
      | then-long w ↦ rw w.result-is (ap made_month_day (sym (month-behind k c.args.n true (sym w.if-long.true ∙ e) (omega arith))))
      | else-long w ↦ rw w.result-is (ap made_month_day (sym (month-behind k c.args.n false (sym w.if-long.false ∙ e) (omega arith))))
    ]
