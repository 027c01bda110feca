-- `fraction_sections::put_denominator` meets its contract.
-- Assumes nothing.
use native.Mathlib.Omega.{arith}
use Rattle.formats.specs.Reading.{denominator_units}
use Rattle.writing.proofs.Laws.{put-put}
use Rattle.fraction_sections.proofs.Denominators.{shown-segment, shown-spaceless}
use Rattle.fraction_sections.proofs.put_denominator.Goals as goal

pub put_whole-a-requires : goal.put_whole-a-requires
put_whole-a-requires c =
    (omega (arith, c.requires.0), rw c.shown_words-shown.ensures (shown-segment c.requires.2 c.requires.1))

pub returns-clause-put : goal.returns-clause-put
unfolding denominator_units
returns-clause-put c =
    let items = shown-spaceless c.requires.2 c.requires.1 in put-put (rw (c.shown_words-shown.ensures, items) at c.put_whole-a.ensures.put) (rw c.spare_spaces.ensures.0 at c.put_spaces.ensures)
