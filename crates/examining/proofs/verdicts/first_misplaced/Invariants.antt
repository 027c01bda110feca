-- `examining::verdicts::first_misplaced` meets its contract.
-- Assumes nothing.
use lib.ListN.{length}
use Rattle.examining.specs.Examine.{stands_by}
use Rattle.examining.proofs.Testing.{Seeking}
use Rattle.examining.proofs.verdicts.first_misplaced.Given as goal

abbrev pub invariant-loop-i : goal.invariant-loop-i
invariant-loop-i l = Seeking (stands_by (length l.drafts)) l.drafts l.i
