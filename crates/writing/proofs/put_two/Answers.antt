-- `writing::put_two` meets its contract.
-- Assumes nothing.
use Rattle.writing.proofs.Laws.{put-put}
use Rattle.writing.proofs.Numerals.{digits-two}
use Rattle.writing.proofs.put_two.Goals as goal

pub returns : goal.returns
returns c =
    rw (digits-two _ c.requires.1, ← c.digit_unit.ensures, ← c.digit_unit-2.ensures)
    (put-put c.put_unit-a.ensures c.put_unit.ensures)
