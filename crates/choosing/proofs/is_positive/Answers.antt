-- `choosing::is_positive` meets its contract.
-- Assumes nothing.
use Rattle.choosing.proofs.Choosing.{above_zero_lem}
use Rattle.choosing.proofs.is_positive.Goals as goal

pub returns : goal.returns
returns c = above_zero_lem c.args.v
