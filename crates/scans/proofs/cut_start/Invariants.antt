-- `scans::cut_start` meets its contract. The invariant, `Seeking`: no entry so far is an E or a solidus.
-- Assumes nothing.
use Rattle.tables.proofs.Words.{Seeking}
use Rattle.table_words.proofs.Cuts.{part_of}
use Rattle.scans.proofs.Cutting.{finds-cut}
use Rattle.scans.proofs.cut_start.Given as goal

abbrev pub invariant-loop-k : goal.invariant-loop-k
invariant-loop-k l = Seeking (part_of finds-cut) l.items l.n l.k
