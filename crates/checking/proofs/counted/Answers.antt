-- `checking::counted` meets its contract. The invariant, `Counting`: what was counted and what the heads that are left count.
-- Assumes nothing.
use native.Mathlib.Omega.{arith}
use Rattle.checking.proofs.Loops.{counting-start, counting-step, counting-end, one-most}
use borrow.Author.Rules.{rules}
use Rattle.checking.proofs.counted.Goals as goal

pub loop-i-init : goal.loop-i-init
loop-i-init c = counting-start _ _ c.requires.0 c.requires.1

pub overflow_add-count : goal.overflow_add-count
overflow_add-count c = omega (arith, one-most c.loop-i.i c.head_at-h.result.kind)

pub loop-i-preserved : goal.loop-i-preserved
loop-i-preserved c = counting-step _ _ _ _ c.loop-i.invariant _ _ (search rules) c.head_at-h.ensures c.counted_one-count.ensures

pub returns : goal.returns
returns c = counting-end _ _ _ _ c.loop-i.invariant (search rules)
