-- `scans::count_between` meets its contract. The invariant, `Counting`: those so far and those that are left are all.
-- Assumes nothing.
use Rattle.scans.proofs.Cutting.{Counting}
use Rattle.scans.proofs.count_between.Given as goal

abbrev pub invariant-loop-k : goal.invariant-loop-k
invariant-loop-k l = Counting l.low l.high l.items l.n l.k l.met
