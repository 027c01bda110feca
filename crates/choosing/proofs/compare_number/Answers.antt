-- `choosing::compare_number` meets its contract.
-- Assumes nothing.
use native.Mathlib.Omega.{arith}
use Rattle.choosing.proofs.Comparing.{few-decimals, many-decimals, rest-small, power-positive}
use Rattle.choosing.proofs.compare_number.Goals as goal

pub nonzero_rem-rest : goal.nonzero_rem-rest
nonzero_rem-rest c = power-positive _ _ c.power-p.ensures

pub nonzero_div-above : goal.nonzero_div-above
nonzero_div-above c = power-positive _ _ c.power-p.ensures

pub overflow_mul-rest : goal.overflow_mul-rest
overflow_mul-rest c =
    omega (arith, rest-small c.args.above _ _ _ c.if-scale-le6.true c.power-p.ensures c.power.ensures)

pub returns-then-scale-le6 : goal.returns-then-scale-le6
returns-then-scale-le6 c = search few-decimals

pub nonzero_div-above-2 : goal.nonzero_div-above-2
nonzero_div-above-2 c = power-positive _ _ c.power-p.ensures

pub returns : goal.returns
returns c = search many-decimals
