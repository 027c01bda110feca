-- `calendar::year_within` meets its contract.
-- Assumes nothing.
use mathlib.Core.Path.{◌∙◌}
use native.Mathlib.Omega.{arith}
use Rattle.calendar.proofs.Driving.{found-year}
use Rattle.calendar.proofs.year_within.Goals as goal

pub returns : goal.returns
returns c =
    let y = c.driven_year in
    let r = found-year c.args.day y.result.years (omega arith) y.ensures.0 in
    (r.known, y.ensures.1 ∙ r.first, omega (arith, y.ensures.1), r.ends)
