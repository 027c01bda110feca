-- `fraction_rows::literal_follows` meets its contract. The invariant, `Bare`: behind stands neither place nor literal.
-- Assumes nothing.
use native.Mathlib.Omega.{arith}
use mathlib.Core.Path.{sym, ◌∙◌}
use borrow.Author.Tests.{ne_eqb}
use Rattle.fraction_rows.proofs.FractionLoops.{bare-start, bare-literal, bare-place, bare_step, bare-end}
use Rattle.fraction_rows.proofs.literal_follows.Goals as goal

pub loop-k-init : goal.loop-k-init
loop-k-init c = bare-start _

pub returns-then-tag-eq-LITERAL : goal.returns-then-tag-eq-LITERAL
returns-then-tag-eq-LITERAL c =
    let e = c.if-tag-eq-LITERAL.true in
    bare-literal c.loop-k.invariant c.loop-k-test.true (omega arith)

pub returns-then-is_place : goal.returns-then-is_place
returns-then-is_place c = bare-place c.loop-k.invariant c.loop-k-test.true (sym c.is_place.ensures ∙ c.if-is_place.true)

pub loop-k-preserved : goal.loop-k-preserved
loop-k-preserved c =
    bare_step c.loop-k.invariant c.loop-k-test.true (ne_eqb _ _ c.if-tag-eq-LITERAL.false) (sym c.is_place.ensures ∙ c.if-is_place.false)

pub returns : goal.returns
returns c = bare-end c.loop-k.invariant c.loop-k-test.false
