-- `planning::instant_in` meets its contract.
-- Assumes nothing.
use native.Mathlib.Omega.{arith}
use mathlib.Core.Path.{refl, sym}
use Rattle.planning.proofs.Sorts.{other-sort}
use Rattle.planning.proofs.Instants.{date-takes, instant-reads, instant-literal, instant-refused}
use Rattle.planning.proofs.instant_in.Goals as goal

pub returns-in-DateTime : goal.returns-in-DateTime
returns-in-DateTime c =
    let e = sym c.in-DateTime.ensures in
    λ text why eo digits. (refl, e, instant-reads c.args.section _ _ why eo (date-takes _ e))

pub returns-in-Literal : goal.returns-in-Literal
returns-in-Literal c =
    λ text why eo digits. rw c.bare.ensures (instant-literal c.args.section _ _ why eo (omega arith) (sym c.in-Literal.ensures))

pub returns-in_default : goal.returns-in_default
returns-in_default c =
    λ text why eo. instant-refused c.args.section _ _ why eo (other-sort c.kind.result c.kind.ensures c.in_default.not-DateTime c.in_default.not-Literal)
