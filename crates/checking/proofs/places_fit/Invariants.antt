-- `checking::places_fit` meets its contract. The invariant, `Placing`: the heads that are left decide.
-- Assumes nothing.
use Rattle.checking.proofs.Loops.{Placing}
use Rattle.checking.proofs.places_fit.Given as goal

abbrev pub invariant-loop-i : goal.invariant-loop-i
invariant-loop-i l = Placing l.table l.n l.counted l.first_has l.i
