-- `reasons_check::lines::put_choice` meets its contract.
-- Assumes nothing.
use Rattle.calendar.specs.Names.{units}
use Rattle.writing.proofs.Laws.{put-put}
use Rattle.reasons_check.specs.Lines.{choice_units}
use Rattle.reasons_check.proofs.lines.put_choice.Goals as goal

pub returns-clause-put : goal.returns-clause-put
unfolding choice_units units
returns-clause-put c =
    put-put (put-put (put-put c.put_named-a.ensures.put c.put_named-b.ensures.put) c.put_named-c.ensures.put) c.put_named.ensures.put
