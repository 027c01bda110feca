-- `checking::rows_fit` meets its contract. The invariant, `Rowing`: the rows that are left decide.
-- Assumes nothing.
use Rattle.checking.proofs.Loops.{Rowing}
use Rattle.checking.proofs.rows_fit.Given as goal

abbrev pub invariant-loop-i : goal.invariant-loop-i
invariant-loop-i l = Rowing l.table l.n l.i l.at
