-- `prepare_check::put_line` meets its contract.
-- Assumes nothing.
use Rattle.writing.proofs.Laws.{put-put}
use Rattle.prepare_check.specs.Lines.{line_of}
use Rattle.prepare_check.proofs.lines.put_line.Goals as goal

pub returns-clause-put : goal.returns-clause-put
unfolding line_of
returns-clause-put c =
    let b = rw c.from.ensures at c.put_number-b.ensures.put in
    let d = rw c.from-2.ensures at c.put_spaced-c.ensures.put in
    put-put (put-put (put-put (put-put (put-put c.put_mark-a.ensures.put b) d) c.put_spaced-d.ensures.put) c.put_words-e.ensures.put) c.put_unit.ensures
