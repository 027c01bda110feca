-- `lexing::buffer::semicolon_place` meets its contract. The invariant, `Ahead`: the semicolon is `left` semicolons ahead.
-- Assumes nothing.
use mathlib.Core.Path.{refl, ◌∙◌}
use native.Mathlib.Omega.{arith}
use Rattle.lexing.proofs.Semicolons.{ahead-found, ahead-hit, ahead-miss, ahead-end}
use Rattle.lexing.proofs.buffer.semicolon_place.Goals as goal
use Rattle.lexing.proofs.buffer.semicolon_place.Goals.{then-m-eq-SEMICOLON+else-left-eq0, else-m-eq-SEMICOLON}

pub loop-m-init : goal.loop-m-init
loop-m-init c = refl

pub returns-then-left-eq0 : goal.returns-then-left-eq0
returns-then-left-eq0 c =
    c.from.ensures ∙ ahead-found _ _ _ _ c.loop-m.invariant _ c.loop-m-test.true c.if-m-eq-SEMICOLON.true c.if-left-eq0.true

pub loop-m-preserved : goal.loop-m-preserved
loop-m-preserved c =
    elim c.if-m-eq-SEMICOLON.branch [
      | then-m-eq-SEMICOLON+else-left-eq0 w ↦ ahead-hit _ _ _ _ c.loop-m.invariant _ c.loop-m-test.true w.if-m-eq-SEMICOLON.true w.if-left-eq0.false _ w.left-is
      | else-m-eq-SEMICOLON w ↦ ahead-miss _ _ _ _ c.loop-m.invariant _ c.loop-m-test.true w.if-m-eq-SEMICOLON.false _ w.left-is
    ]

pub returns : goal.returns
returns c = ahead-end c.args.tokens.now _ _ _ c.loop-m.invariant (omega arith)
