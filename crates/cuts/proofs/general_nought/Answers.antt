-- `cuts::general_nought` meets its contract.
-- Assumes nothing.
use Rattle.cuts.proofs.Reach.{general-vanishes}
use Rattle.cuts.proofs.general_nought.Goals as goal

pub returns : goal.returns
returns c = general-vanishes _ _ c.general_kept.ensures.1 c.rounds_to_nought.ensures
