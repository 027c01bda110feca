-- `lexing::buffer::fill` meets its contract. The invariant, `Filling`: the lexing of the whole is the tokens that are put, their semicolons counted, and then that of what is left.
-- Assumes nothing.
use mathlib.Core.Path.{refl, ◌∙◌}
use native.Mathlib.Omega.{arith}
use borrow.Author.Rules.{rules}
use Rattle.lexing.specs.Buffer.{count_of, semicolons_of, semicolons_in}
use Rattle.lexing.proofs.Filling.{filling-start, filling-inside, filling-hit, filling-miss, filling-broken, filling-end}
use Rattle.lexing.proofs.buffer.fill.Goals as goal

pub loop-at-init : goal.loop-at-init
loop-at-init c = filling-start _ _ c.requires.0 c.requires.1

pub overflow_add-at : goal.overflow_add-at
overflow_add-at c = omega (arith, filling-inside _ _ _ _ _ _ c.loop-at.invariant c.loop-at-test.true _ c.in-Some.ensures)

pub overflow_add-at-in-loop-at : goal.overflow_add-at-in-loop-at
overflow_add-at-in-loop-at c = omega (arith, filling-inside _ _ _ _ _ _ c.loop-at.invariant c.loop-at-test.true _ c.in-Some.ensures)

pub loop-at-preserved-then-step-eq-SEMICOLON : goal.loop-at-preserved-then-step-eq-SEMICOLON
loop-at-preserved-then-step-eq-SEMICOLON c =
    filling-hit _ _ _ _ _ _ c.loop-at.invariant c.loop-at-test.true _ c.in-Some.ensures c.if-step-eq-SEMICOLON.true

pub loop-at-preserved : goal.loop-at-preserved
loop-at-preserved c =
    filling-miss _ _ _ _ _ _ c.loop-at.invariant c.loop-at-test.true _ c.in-Some.ensures c.if-step-eq-SEMICOLON.false

pub returns-in_default : goal.returns-in_default
unfolding count_of semicolons_of semicolons_in
returns-in_default c =
    let inv = c.loop-at.invariant in
    record {
      same = filling-broken _ _ _ _ _ _ inv c.loop-at-test.true c.in_default.ensures;
      few = search rules;
      counted = refl;
      size = inv.size;
    }

pub returns : goal.returns
unfolding count_of semicolons_of
returns c =
    let inv = c.loop-at.invariant in
    record {
      same = rw c.from.ensures (filling-end _ _ _ _ _ _ inv c.loop-at-test.false);
      few = omega arith;
      counted = c.from.ensures ∙ inv.counted;
      size = inv.size;
    }
