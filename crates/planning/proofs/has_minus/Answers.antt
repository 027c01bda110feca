-- `planning::has_minus` meets its contract.
-- Assumes nothing.
use Rattle.planning.proofs.Minus.{minus-said}
use Rattle.planning.proofs.has_minus.Goals as goal

pub returns : goal.returns
returns c = minus-said _ _ _ _
