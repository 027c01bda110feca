-- `scientific_sections::put_lowest` meets its contract.
-- Assumes nothing.
use Rattle.writing.proofs.Laws.{put-none}
use Rattle.scientific_sections.proofs.Exponents.{lowest-digit, lowest-none, lowest-space}
use Rattle.scientific_sections.proofs.put_lowest.Goals as goal

pub returns-then-left-place : goal.returns-then-left-place
returns-then-left-place c =
    rw (lowest-digit _ _ c.if-left-place.true, ← c.digit_unit.ensures) c.put_unit.ensures

pub returns-then-place-eq-HASH_PLACE : goal.returns-then-place-eq-HASH_PLACE
returns-then-place-eq-HASH_PLACE c = rw (lowest-none _ _ c.if-left-place.false c.if-place-eq-HASH_PLACE.true) (put-none _ _)

pub returns : goal.returns
returns c =
    rw (lowest-space _ _ c.if-left-place.false c.if-place-eq-HASH_PLACE.false) c.put_unit-2.ensures
