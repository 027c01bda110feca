-- `examining::verdicts::first_misplaced` meets its contract.
-- Assumes nothing.
use mathlib.Core.Path.{refl, sym, ◌∙◌}
use native.Mathlib.Omega.{arith}
use lib.ListN.{length}
use Rattle.examining.specs.Examine.{stands_by}
use Rattle.examining.proofs.Testing.{seeking-fail, seeking-step, seeking-end}
use Rattle.examining.proofs.verdicts.first_misplaced.Goals as goal

pub loop-i-init : goal.loop-i-init
loop-i-init c = refl

pub returns-then-not-stands : goal.returns-then-not-stands
returns-then-not-stands c =
    seeking-fail (stands_by (length c.args.drafts.now)) c.args.drafts.now _ c.loop-i.invariant _ c.loop-i-test.true (sym c.stands.ensures ∙ c.if-not-stands.true)

pub loop-i-preserved : goal.loop-i-preserved
loop-i-preserved c =
    seeking-step (stands_by (length c.args.drafts.now)) c.args.drafts.now _ c.loop-i.invariant _ c.loop-i-test.true (sym c.stands.ensures ∙ c.if-not-stands.false)

pub returns : goal.returns
returns c = seeking-end (stands_by (length c.args.drafts.now)) c.args.drafts.now _ c.loop-i.invariant (omega arith)
