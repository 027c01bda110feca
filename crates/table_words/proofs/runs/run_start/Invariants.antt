-- `table_words::runs::run_start` meets its contract. The invariant, `Backing`: all items behind are places.
-- Assumes nothing.
use Rattle.table_words.proofs.PlaceRuns.{Backing}
use Rattle.table_words.proofs.runs.run_start.Given as goal

abbrev pub invariant-loop-k : goal.invariant-loop-k
invariant-loop-k l = Backing l.items l.k
