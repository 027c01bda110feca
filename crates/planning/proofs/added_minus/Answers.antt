-- `planning::added_minus` meets its contract.
-- Assumes nothing.
use Rattle.planning.proofs.Numbers.{minus-words}
use Rattle.planning.proofs.added_minus.Goals as goal

pub returns : goal.returns
returns c = minus-words c.args.section _ _ c.head-h.ensures.words c.no_minus.ensures c.has_minus.ensures
