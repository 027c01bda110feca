-- `date_text::put_half` meets its contract.
-- Assumes nothing.
use Rattle.writing.proofs.Laws.{put-put}
use Rattle.date_text.proofs.Items.{half-short, half-long}
use Rattle.date_text.proofs.put_half.Goals as goal

pub returns-then-mark-eq-SHORT_MARK : goal.returns-then-mark-eq-SHORT_MARK
returns-then-mark-eq-SHORT_MARK c =
    rw (half-short _ _ c.if-mark-eq-SHORT_MARK.true, ← c.half_letter.ensures) c.put_unit-a.ensures

pub returns : goal.returns
returns c =
    rw (half-long _ _ c.if-mark-eq-SHORT_MARK.false, ← c.half_letter.ensures) (put-put c.put_unit-a.ensures c.put_unit.ensures)
