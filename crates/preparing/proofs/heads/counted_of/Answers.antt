-- `preparing::heads::counted_of` meets its contract.
-- Assumes nothing.
use native.Mathlib.Omega.{arith}
use Rattle.preparing.proofs.Counting.{counting-hit, counting-miss, counting-end}
use Rattle.preparing.proofs.heads.counted_of.Goals as goal
use Rattle.preparing.proofs.heads.counted_of.Goals.{then-d-i, else-d-i}

pub loop-i-preserved : goal.loop-i-preserved
loop-i-preserved c =
    elim c.if-d-i.branch [
      | then-d-i w ↦ counting-hit c.loop-i.invariant _ c.loop-i-test.true w.if-d-i.true _ w.counted-is
      | else-d-i w ↦ counting-miss c.loop-i.invariant _ c.loop-i-test.true w.if-d-i.false _ w.counted-is
    ]

pub returns : goal.returns
returns c = counting-end c.loop-i.invariant (omega arith)
