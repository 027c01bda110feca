-- `figures::lowest_place` meets its contract.
-- Assumes nothing.
use mathlib.Core.Path.{◌∙◌}
use native.Mathlib.Omega.{arith}
use Rattle.figures.proofs.Places.{lowest-here, lowest-further, lowest-end, lowest-number}
use Rattle.figures.proofs.lowest_place.Goals as goal

pub returns-then-digits-k-ne0-clause-list : goal.returns-then-digits-k-ne0-clause-list
returns-then-digits-k-ne0-clause-list c = lowest-here _ c.args.digits (omega arith) c.if-digits-k-ne0.true ∙ c.loop-k.invariant.1

pub returns-then-digits-k-ne0-clause-number : goal.returns-then-digits-k-ne0-clause-number
returns-then-digits-k-ne0-clause-number c = lowest-number (returns-then-digits-k-ne0-clause-list c)

pub loop-k-preserved : goal.loop-k-preserved
loop-k-preserved c =
    (omega arith, lowest-further _ c.args.digits (omega arith) c.if-digits-k-ne0.false ∙ c.loop-k.invariant.1)

pub returns-clause-list : goal.returns-clause-list
returns-clause-list c = lowest-end _ c.args.digits c.loop-k.invariant.0 (omega arith) ∙ c.loop-k.invariant.1

pub returns-clause-number : goal.returns-clause-number
returns-clause-number c = lowest-number (returns-clause-list c)
