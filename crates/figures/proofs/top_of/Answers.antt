-- `figures::top_of` meets its contract.
-- Assumes nothing.
use mathlib.Core.Path.{◌≡◌, ◌∙◌}
use Prim.Native.Nat.{◌+◌, ◌-◌}
use native.Mathlib.Omega.{arith}
use Rattle.figures.proofs.Passed.{used-word}
use Rattle.figures.proofs.top_of.Goals as goal

pub loop-word-preserved : goal.loop-word-preserved
loop-word-preserved c =
    let w = c.loop-word.word in
    let on : w - 1 + 1 ≡ w = omega arith in
    (omega arith, rw on at (used-word c.args.digits (w - 1) (c.word_at.ensures c.if-word_at-ne0.false)) ∙ c.loop-word.invariant.1)

pub returns : goal.returns
returns c = let e : c.loop-word.word ≡ 1 = omega arith in (omega arith, rw e at c.loop-word.invariant.1)
