-- `preparing::heads::counted_of` meets its contract.
-- Assumes nothing.
use Rattle.preparing.proofs.Counting.{Counting}
use Rattle.preparing.proofs.heads.counted_of.Given as goal

abbrev pub invariant-loop-i : goal.invariant-loop-i
invariant-loop-i l = Counting l.drafts l.i l.counted
