-- `checking::condition_fits` meets its contract.
-- Assumes nothing.
use mathlib.Core.Path.{◌∙◌}
use Rattle.table_words.specs.Sections.{head_from}
use Rattle.checking.specs.Checking.{condition_told}
use Rattle.tables.specs.Decode.{whole_at, millionths_at}
use Rattle.checking.proofs.Heads.{no-condition}
use Rattle.checking.proofs.condition_fits.Goals as goal

pub returns-then-h-eq0 : goal.returns-then-h-eq0
returns-then-h-eq0 c = no-condition (head_from c.args.h) c.if-h-eq0.true

pub returns : goal.returns
unfolding condition_told whole_at millionths_at
returns c = c.compared_fits.ensures ∙ rw (c.number.ensures, c.number-2.ensures)
