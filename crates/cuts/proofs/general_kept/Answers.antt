-- `cuts::general_kept` meets its contract.
-- Assumes nothing.
use Rattle.figures.proofs.Tens.{ten-pos}
use Rattle.cuts.proofs.Reach.{general-kept}
use Rattle.cuts.proofs.general_kept.Goals as goal

pub nonzero_div-m : goal.nonzero_div-m
nonzero_div-m c = rw c.power.ensures (ten-pos _)

pub returns : goal.returns
returns c = general-kept _ _ c.power.ensures c.width_of.ensures c.saturating_sub.ensures
