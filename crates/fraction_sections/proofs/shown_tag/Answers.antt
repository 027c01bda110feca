-- `fraction_sections::shown_tag` meets its contract.
-- Assumes nothing.
use borrow.Author.Tests.{ne_eqb}
use Rattle.fraction_sections.specs.Fraction.{shown_tag}
use Rattle.fraction_sections.proofs.shown_tag.Goals as goal

pub returns-then-tag-eq-SPACE_PLACE : goal.returns-then-tag-eq-SPACE_PLACE
unfolding shown_tag
returns-then-tag-eq-SPACE_PLACE c = rw c.if-tag-eq-SPACE_PLACE.true

pub returns-else-tag-eq-SPACE_PLACE : goal.returns-else-tag-eq-SPACE_PLACE
unfolding shown_tag
returns-else-tag-eq-SPACE_PLACE c = rw (ne_eqb _ 6 c.if-tag-eq-SPACE_PLACE.false)
