-- `preparing::heads::put_heads` meets its contract.
-- Assumes nothing.
use Rattle.preparing.proofs.Tabling.{Heading}
use Rattle.preparing.proofs.heads.put_heads.Given as goal

abbrev pub invariant-loop-i : goal.invariant-loop-i
invariant-loop-i l = Heading l.counted l.first l.initial.room l.at l.drafts l.room l.o l.i
