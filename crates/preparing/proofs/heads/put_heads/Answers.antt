-- `preparing::heads::put_heads` meets its contract.
-- Assumes nothing.
use native.Mathlib.Omega.{arith}
use Rattle.preparing.proofs.Tabling.{heading-step, heading-end}
use Rattle.preparing.proofs.heads.put_heads.Goals as goal

pub loop-i-preserved : goal.loop-i-preserved
loop-i-preserved c = heading-step c.loop-i.invariant _ c.loop-i-test.true _ _ c.put_head-o.ensures

pub returns : goal.returns
returns c = heading-end c.loop-i.invariant (omega arith)
