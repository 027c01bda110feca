-- `scientific_sections::put_mark` meets its contract.
-- Assumes nothing.
use Rattle.writing.proofs.Laws.{put-put}
use Rattle.scientific_sections.proofs.Exponents.{mark-minus, mark-plus, mark-bare}
use Rattle.scientific_sections.proofs.put_mark.Goals as goal

pub returns-then-below : goal.returns-then-below
returns-then-below c =
    rw (mark-minus _ _ c.if-below.true) (put-put c.put_unit-a.ensures c.put_unit.ensures)

pub returns-then-mark-eq-EXPONENT_PLUS : goal.returns-then-mark-eq-EXPONENT_PLUS
returns-then-mark-eq-EXPONENT_PLUS c =
    rw (mark-plus _ _ c.if-below.false c.if-mark-eq-EXPONENT_PLUS.true) (put-put c.put_unit-a.ensures c.put_unit-then-mark-eq-EXPONENT_PLUS.ensures)

pub returns : goal.returns
returns c =
    rw (mark-bare _ _ c.if-below.false c.if-mark-eq-EXPONENT_PLUS.false) c.put_unit-a.ensures
