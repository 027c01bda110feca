-- `fraction_rows::fraction_row` meets its contract.
-- Assumes nothing.
use mathlib.Core.Path.{◌∙◌}
use borrow.Author.Tests.{le-ltb}
use Rattle.fraction_rows.proofs.FractionRows.{none_told}
use Rattle.fraction_rows.proofs.fraction_row.Goals as goal

pub returns : goal.returns
returns c = none_told _ (c.find_tag-at.ensures.told ∙ le-ltb _ _ c.if-at-n.false)
