-- `tallies::tally_words` meets its contract. The invariant, `Walking`: the whole pass is the pass over the entries that are left.
-- Assumes nothing.
use native.Mathlib.Omega.{arith}
use Rattle.tallies.proofs.Pairs.{pairs-start, pairs-front, pairs-end}
use Rattle.tallies.proofs.Fold.{walking_start, walking-few, walking-step, walking-end}
use Rattle.tallies.proofs.tally_words.Goals as goal

pub loop-tag-init : goal.loop-tag-init
loop-tag-init c = rw (pairs-start c.args.words.now _ c.as_chunks.ensures.front) (walking_start _)

pub step-w-requires : goal.step-w-requires
step-w-requires c = walking-few c.loop-tag.invariant (omega arith)

pub loop-tag-preserved : goal.loop-tag-preserved
loop-tag-preserved c = rw c.step-w.ensures (walking-step c.loop-tag.invariant _ _ (pairs-front _ _ c.loop-tag-test.true))

pub returns : goal.returns
returns c = rw c.tally_of.ensures (walking-end c.loop-tag.invariant c.requires (pairs-end _ _ c.loop-tag-test.false))
