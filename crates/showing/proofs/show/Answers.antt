-- `showing::show` meets its contract.
-- Assumes nothing.
use Rattle.showing.proofs.Rooms.{lent-shows}
use Rattle.showing.proofs.show.Goals as goal

pub returns-clause-result : goal.returns-clause-result
returns-clause-result c = (lent-shows _ _ _ c.show_in.ensures).0

pub returns-clause-room : goal.returns-clause-room
returns-clause-room c = (lent-shows _ _ _ c.show_in.ensures).1
