-- `checking::items_said` meets its contract. The invariant, `Summing`: what was added and what the heads that are left say.
-- Assumes nothing.
use Rattle.checking.proofs.Loops.{summing_start, summing-step, summing-end}
use borrow.Author.Rules.{rules}
use Rattle.checking.proofs.items_said.Goals as goal

pub loop-i-init : goal.loop-i-init
loop-i-init c = summing_start _ _ c.requires.0 c.requires.1 c.requires.2

pub loop-i-preserved : goal.loop-i-preserved
loop-i-preserved c = summing-step _ _ _ _ c.loop-i.invariant _ (search rules) c.head_at-h.ensures (search rules)

pub returns : goal.returns
returns c = summing-end _ _ _ _ c.loop-i.invariant (search rules)
