-- `prepare_check::put_spaced` meets its contract.
-- Assumes nothing.
use Rattle.writing.proofs.Laws.{put-put}
use Rattle.prepare_check.specs.Lines.{spaced}
use Rattle.prepare_check.proofs.lines.put_spaced.Goals as goal

pub returns-clause-put : goal.returns-clause-put
unfolding spaced
returns-clause-put c =
    put-put c.put_unit-a.ensures c.put_number.ensures.put
