-- `responding::lines::put_text` meets its contract.
-- Assumes nothing.
use Rattle.writing.proofs.Laws.{put-put}
use Rattle.responding.specs.Respond.{line_of}
use Rattle.responding.proofs.lines.put_text.Goals as goal

pub returns-clause-put : goal.returns-clause-put
unfolding line_of
returns-clause-put c =
    put-put (put-put c.put_bytes-a.ensures c.put_units-b.ensures) c.put_unit.ensures
