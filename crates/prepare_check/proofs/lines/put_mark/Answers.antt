-- `prepare_check::put_mark` meets its contract.
-- Assumes nothing.
use Rattle.prepare_check.proofs.Laws.{mark-none, mark-put}
use Rattle.prepare_check.proofs.lines.put_mark.Goals as goal

pub returns-then-sound-clause-put : goal.returns-then-sound-clause-put
returns-then-sound-clause-put c = mark-none _ _ _ c.if-sound.true

pub returns-else-sound-clause-put : goal.returns-else-sound-clause-put
returns-else-sound-clause-put c = mark-put _ c.if-sound.false c.put_unit.ensures
