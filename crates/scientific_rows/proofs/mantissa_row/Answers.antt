-- `scientific_rows::mantissa_row` meets its contract.
-- Assumes nothing.
use Rattle.scientific_rows.proofs.ScientificRows.{no-mantissa, mantissa-refused, mantissa-told}
use Rattle.scientific_rows.proofs.mantissa_row.Goals as goal

pub returns-in_err-row : goal.returns-in_err-row
returns-in_err-row c = rw c.from_residual.ensures (no-mantissa _ c.in_err-row.ensures)

pub returns-then-row : goal.returns-then-row
returns-then-row c = mantissa-refused _ _ c.in_ok-row.ensures c.if-row.true

pub returns : goal.returns
returns c = mantissa-told _ _ c.in_ok-row.ensures c.if-row.false
