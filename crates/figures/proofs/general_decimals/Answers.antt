-- `figures::general_decimals` meets its contract.
-- Assumes nothing.
use Rattle.figures.proofs.General.{decimals-own, decimals-some}
use Rattle.figures.proofs.general_decimals.Goals as goal

pub returns-then-m-scale : goal.returns-then-m-scale
returns-then-m-scale c = decimals-own _ _ c.if-m-scale.true

pub returns : goal.returns
returns c = rw c.saturating_sub.ensures (decimals-some _ _ c.whole.ensures c.width_of.ensures)
