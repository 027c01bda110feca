-- `checking::items_said` meets its contract. The invariant, `Summing`: what was added and what the heads that are left say.
-- Assumes nothing.
use Rattle.checking.proofs.Loops.{Summing}
use Rattle.checking.proofs.items_said.Given as goal

abbrev pub invariant-loop-i : goal.invariant-loop-i
invariant-loop-i l = Summing l.table l.n l.i l.sum
