-- `fraction_rows::parts_row` meets its contract.
-- Assumes nothing.
use mathlib.Core.Path.{◌∙◌}
use Rattle.fraction_rows.proofs.FractionRows.{parts-told}
use Rattle.fraction_rows.proofs.parts_row.Goals as goal

pub returns : goal.returns
returns c = c.parts_fit.ensures ∙ parts-told _ _ _ _ c.run_start-start.ensures
