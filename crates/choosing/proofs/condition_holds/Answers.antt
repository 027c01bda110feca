-- `choosing::condition_holds` meets its contract.
-- Assumes nothing.
use Rattle.tables.specs.Decode.{whole_at, millionths_at}
use Rattle.tables.proofs.Ranges.{head-ranges}
use Rattle.choosing.proofs.Conditions.{condition-read}
use Rattle.choosing.proofs.condition_holds.Goals as goal

pub compare-order-requires : goal.compare-order-requires
unfolding millionths_at
compare-order-requires c =
    rw c.number-millionths.ensures (head-ranges _ c.head-h.ensures.range).millionths

pub returns : goal.returns
unfolding whole_at millionths_at
returns c =
    condition-read _ _ _ _ _ _ c.head-h.ensures.words c.requires
    (rw (c.number-whole.ensures, c.number-millionths.ensures) at c.compare-order.ensures) c.signed.ensures c.holds.ensures
