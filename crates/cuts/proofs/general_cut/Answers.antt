-- `cuts::general_cut` meets its contract.
-- Assumes nothing.
use Rattle.cuts.proofs.Reach.{general-counted}
use Rattle.cuts.proofs.general_cut.Goals as goal

pub returns : goal.returns
returns c = general-counted _ _ c.general_kept.ensures.1 c.decimals_cut.ensures
