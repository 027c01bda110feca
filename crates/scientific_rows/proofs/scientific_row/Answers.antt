-- `scientific_rows::scientific_row` meets its contract.
-- Assumes nothing.
use mathlib.Core.Path.{◌∙◌}
use borrow.Author.Tests.{le-ltb}
use Rattle.scientific_rows.proofs.ScientificRows.{none_told}
use Rattle.scientific_rows.proofs.scientific_row.Goals as goal

pub returns : goal.returns
returns c =
    none_told _ (c.find_tag-plus.ensures.told ∙ le-ltb _ _ c.if-plus-n.false) (c.find_tag-minus.ensures.told ∙ le-ltb _ _ c.if-minus-n.false)
