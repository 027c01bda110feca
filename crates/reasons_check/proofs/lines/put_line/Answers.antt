-- `reasons_check::lines::put_line` meets its contract.
-- Assumes nothing.
use Rattle.calendar.specs.Names.{units}
use Rattle.writing.proofs.Laws.{put-put}
use Rattle.reasons_check.specs.Lines.{line_of}
use Rattle.reasons_check.proofs.lines.put_line.Goals as goal

pub returns-clause-put : goal.returns-clause-put
unfolding line_of units
returns-clause-put c =
    put-put (put-put (put-put (put-put c.put_named-a.ensures.put c.put_choice-b.ensures.put) c.put_named-c.ensures.put) c.put_named-d.ensures.put) c.put_unit.ensures
