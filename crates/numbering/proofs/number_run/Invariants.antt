-- `numbering::number_run` meets its contract.
-- Assumes nothing.
use Prim.Native.Nat.{◌*◌, ◌≤◌}
use Rattle.numbering.proofs.Scanning.{Going}
use Rattle.numbering.proofs.number_run.Given as goal

abbrev pub invariant-loop-k : goal.invariant-loop-k
invariant-loop-k l = Going l.first l.initial.words l.words l.digit (2 * l.k) × (l.digit ≤ 268)
