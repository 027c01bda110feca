-- `calendar::date_of` meets its contract.
-- Assumes nothing.
use native.Mathlib.Omega.{arith}
use Rattle.calendar.proofs.Made.{made-years-few, date-made}
use Rattle.calendar.proofs.date_of.Goals as goal

pub month_day_of-m-requires : goal.month_day_of-m-requires
month_day_of-m-requires c =
    omega (arith, made-years-few c.args.d.0 c.year_day_of-y.result c.year_day_of-y.ensures)

pub overflow_add-result : goal.overflow_add-result
overflow_add-result c =
    let y = c.year_day_of-y in
    omega (arith, made-years-few c.args.d.0 y.result y.ensures)

pub returns : goal.returns
returns c =
    let y = c.year_day_of-y in
    let m = c.month_day_of-m in
    date-made c.args.d.0 y.result m.result y.ensures m.ensures
