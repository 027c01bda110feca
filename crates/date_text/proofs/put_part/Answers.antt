-- `date_text::put_part` meets its contract.
-- Assumes nothing.
use Rattle.formats.specs.Text.{part_units}
use Rattle.writing.proofs.Laws.{put-put}
use Rattle.date_text.proofs.put_part.Goals as goal

pub returns : goal.returns
unfolding part_units
returns c =
    rw (← c.cut_part.ensures) (put-put c.put_unit-a.ensures c.put_digits.ensures)
