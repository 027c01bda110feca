-- `figures::bottom_of` meets its contract.
-- Assumes nothing.
use mathlib.Core.Path.{refl, ◌∙◌}
use Prim.Native.Nat.{◌-◌}
use native.Mathlib.Omega.{arith}
use Rattle.figures.specs.Places.{lowest_place}
use Rattle.figures.proofs.Passed.{lowest-word}
use Rattle.figures.proofs.bottom_of.Goals as goal

pub loop-word-init : goal.loop-word-init
unfolding lowest_place
loop-word-init c = refl

pub loop-word-preserved : goal.loop-word-preserved
loop-word-preserved c =
    lowest-word c.args.digits c.loop-word.word (omega arith) (c.word_at.ensures c.if-word_at-ne0.false) ∙ c.loop-word.invariant
