-- `figures::whole` meets its contract.
-- Assumes nothing.
use mathlib.Core.Path.{sym}
use native.Mathlib.Omega.{arith}
use native.Mathlib.Nat.{div-eq_of_lt}
use Rattle.figures.proofs.Tens.{ten-pos, ten-le}
use Rattle.figures.proofs.whole.Goals as goal

-- `figures::whole` meets its contract.
-- Assumes nothing.
pub returns-then-k-gt19 : goal.returns-then-k-gt19
returns-then-k-gt19 c = sym (div-eq_of_lt (omega (arith, ten-le 20 c.args.k c.if-k-gt19.true)))

pub nonzero_div-result : goal.nonzero_div-result
nonzero_div-result c = omega (arith, ten-pos c.args.k)
