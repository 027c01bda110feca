-- `examining::verdicts::stands` meets its contract.
-- Assumes nothing.
use Rattle.tables.specs.Standing.{head_stands}
use Rattle.examining.proofs.verdicts.stands.Goals as goal

pub returns : goal.returns
unfolding head_stands
returns c = rw c.has_condition-has.ensures
