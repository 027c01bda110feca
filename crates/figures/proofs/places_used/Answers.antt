-- `figures::places_used` meets its contract.
-- Assumes nothing.
use mathlib.Core.Path.{◌≡◌, ◌∙◌}
use Prim.Native.Nat.{◌+◌, ◌-◌}
use native.Mathlib.Omega.{arith}
use Rattle.figures.proofs.Places.{used-here, used-below, used-end, used-number}
use Rattle.figures.proofs.places_used.Goals as goal

pub returns-then-digits-k-ne0-clause-list : goal.returns-then-digits-k-ne0-clause-list
returns-then-digits-k-ne0-clause-list c =
    let on : c.loop-k.k - 1 + 1 ≡ c.loop-k.k = omega arith in
    on ∙ used-here _ c.args.digits (omega arith) c.if-digits-k-ne0.true ∙ c.loop-k.invariant.1

pub returns-then-digits-k-ne0-clause-number : goal.returns-then-digits-k-ne0-clause-number
returns-then-digits-k-ne0-clause-number c = used-number (returns-then-digits-k-ne0-clause-list c)

pub loop-k-preserved : goal.loop-k-preserved
loop-k-preserved c =
    (omega arith, used-below c.loop-k.k c.args.digits (omega arith) c.if-digits-k-ne0.false ∙ c.loop-k.invariant.1)

pub returns-clause-list : goal.returns-clause-list
returns-clause-list c = used-end c.loop-k.k c.args.digits (omega arith) ∙ c.loop-k.invariant.1

pub returns-clause-number : goal.returns-clause-number
returns-clause-number c = used-number (returns-clause-list c)
