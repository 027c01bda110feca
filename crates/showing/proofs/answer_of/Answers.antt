-- `showing::answer_of` meets its contract.
-- Assumes nothing.
use Rattle.showing.proofs.Rooms.{answer-shows}
use Rattle.showing.proofs.answer_of.Goals as goal

pub returns : goal.returns
returns c = answer-shows _ _ _ _ c.show_in.ensures
