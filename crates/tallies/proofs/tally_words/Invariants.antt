-- `tallies::tally_words` meets its contract. The invariant, `Walking`: the whole pass is the pass over the entries that are left.
-- Assumes nothing.
use Rattle.tallies.proofs.Pairs.{pairs_left}
use Rattle.tallies.proofs.Fold.{Walking}
use Rattle.tallies.proofs.tally_words.Given as goal

abbrev pub invariant-loop-tag : goal.invariant-loop-tag
invariant-loop-tag l = Walking l.words l.tag-index (pairs_left l.tag-items l.tag-index) l.w
