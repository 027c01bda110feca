-- `cuts::decimals_cut` meets its contract.
-- Assumes nothing.
use Rattle.figures.specs.Powers.{powered}
use Rattle.cuts.proofs.Counting.{Counts}
use Rattle.cuts.proofs.decimals_cut.Given as goal

abbrev pub invariant-loop-k : goal.invariant-loop-k
invariant-loop-k l = Counts (powered l.m l.up l.down) l.kept l.rest l.k
