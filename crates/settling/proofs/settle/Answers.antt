-- `settling::settle` meets its contract.
-- Assumes nothing.
use Rattle.std.proofs.Common.{arith}
use Rattle.settling.proofs.Settling.{going_start, going_step, going_end}
use Rattle.settling.proofs.settle.Goals as goal

pub loop-k-init : goal.loop-k-init
loop-k-init c = λ is m e. going_start is _ m e

pub loop-k-preserved : goal.loop-k-preserved
loop-k-preserved c = λ is m e.
    let s = c.settle_item-hours.ensures in
    going_step _ _ (omega arith) (c.loop-k.invariant is m e) (omega arith) s.after s.word

pub returns : goal.returns
returns c = λ is m e. going_end (c.loop-k.invariant is m e) (omega arith)
