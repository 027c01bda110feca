-- `fraction_rows::literal_follows` meets its contract. The invariant, `Bare`: behind stands neither place nor literal.
-- Assumes nothing.
use Rattle.fraction_rows.proofs.FractionLoops.{Bare}
use Rattle.fraction_rows.proofs.literal_follows.Given as goal

abbrev pub invariant-loop-k : goal.invariant-loop-k
invariant-loop-k l = Bare l.words l.k
