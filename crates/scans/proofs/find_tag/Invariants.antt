-- `scans::find_tag` meets its contract.
-- Assumes nothing.
use Rattle.tables.proofs.Words.{Seeking}
use Rattle.scans.specs.Scans.{has_tag}
use Rattle.scans.proofs.find_tag.Given as goal

abbrev pub invariant-loop-k : goal.invariant-loop-k
invariant-loop-k l = Seeking (λ es. has_tag es l.tag) l.words l.n l.k
