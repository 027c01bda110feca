-- `searching::between` meets its contract.
-- Assumes nothing.
use Rattle.searching.specs.Machine.{between}
use Rattle.searching.proofs.between.Goals as goal

pub returns : goal.returns
unfolding between
returns c = c.reading.ensures
