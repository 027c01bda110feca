-- `table_words::runs::run_end` meets its contract. The invariant, `Seeking`: every entry so far is a place.
-- Assumes nothing.
use Rattle.tables.proofs.Words.{Seeking}
use Rattle.table_words.proofs.Cuts.{part_of}
use Rattle.table_words.proofs.PlaceRuns.{finds-run}
use Rattle.table_words.proofs.runs.run_end.Given as goal

abbrev pub invariant-loop-k : goal.invariant-loop-k
invariant-loop-k l = Seeking (part_of finds-run) l.items l.n l.k
