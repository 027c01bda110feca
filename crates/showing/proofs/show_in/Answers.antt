-- `showing::show_in` meets its contract.
-- Assumes nothing.
use Rattle.showing.proofs.Checked.{table-shows, table-refused}
use Rattle.showing.proofs.show_in.Goals as goal

pub returns-in_default : goal.returns-in_default
returns-in_default c = table-refused _ _ _ _ _ c.in_default.ensures

pub returns : goal.returns
returns c = table-shows _ _ _ c.in-Some.table c.in-Some.ensures c.show_value.ensures
