-- `Board::clear` meets its contract.
-- Assumes nothing.
use native.Mathlib.Omega.{arith}
use Rattle.boards.proofs.Putting.{clear-refused, clear-done}
use Rattle.boards.proofs.Board.clear.Goals as goal

pub returns-then-row-ge-ROWS : goal.returns-then-row-ge-ROWS
returns-then-row-ge-ROWS c = clear-refused _ _ (omega arith)

pub returns : goal.returns
returns c = clear-done _ _ (omega arith) c.store.ensures
