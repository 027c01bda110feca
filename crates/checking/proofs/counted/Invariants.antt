-- `checking::counted` meets its contract. The invariant, `Counting`: what was counted and what the heads that are left count.
-- Assumes nothing.
use Rattle.checking.proofs.Loops.{Counting}
use Rattle.checking.proofs.counted.Given as goal

abbrev pub invariant-loop-i : goal.invariant-loop-i
invariant-loop-i l = Counting l.table l.n l.i l.count
