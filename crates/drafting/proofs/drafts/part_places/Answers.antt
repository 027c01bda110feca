-- `drafting::drafts::part_places` meets its contract.
-- Assumes nothing.
use native.Mathlib.Omega.{arith}
use mathlib.Core.Path.{sym, subst}
use Rattle.drafting.specs.Draft.{Parted}
use Rattle.drafting.proofs.Solidus.{items}
use Rattle.drafting.proofs.Drafting.{bare-parted, solidus-there}
use Rattle.drafting.proofs.drafts.part_places.Goals as goal

pub returns-then-t-eq0 : goal.returns-then-t-eq0
returns-then-t-eq0 c ts e w = subst (Parted ts _) (sym w) (bare-parted ts e (omega (arith, c.if-t-eq0.true)))

pub returns : goal.returns
returns c ts e w =
    let r = c.number_fraction.ensures (items ts) (solidus-there ts e c.if-t-eq0.false) w in
    record { wholes = r.1; numerators = r.2; words = r.0 }
