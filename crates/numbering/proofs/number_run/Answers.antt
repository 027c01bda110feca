-- `numbering::number_run` meets its contract.
-- Assumes nothing.
use native.Mathlib.Omega.{arith}
use Rattle.numbering.proofs.Scanning.{going_step, going_end}
use Rattle.numbering.proofs.number_run.Goals as goal

pub loop-k-preserved : goal.loop-k-preserved
loop-k-preserved c =
    let n = c.number_item-digit.ensures in
    (going_step _ _ (omega arith) c.loop-k.invariant.0 (omega arith) n.after.0 n.word, n.after.1)

pub returns : goal.returns
returns c = going_end c.loop-k.invariant.0 (omega arith)
