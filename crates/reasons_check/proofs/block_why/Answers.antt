-- `reasons_check::block_why` meets its contract.
-- Assumes nothing.
use Rattle.calendar.specs.Names.{units}
use Rattle.reasons_check.specs.Asked.{block_why}
use Rattle.reasons_check.proofs.block_why.Goals as goal

pub returns-in-Some : goal.returns-in-Some
unfolding units block_why
returns-in-Some c = rw c.in-Some.ensures.found (rw c.part_of.ensures.units at c.room_why.ensures)

pub returns-in-None : goal.returns-in-None
unfolding units block_why
returns-in-None c = rw c.in-None.ensures
