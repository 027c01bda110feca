-- `Board::put` meets its contract.
-- Assumes nothing.
use native.Mathlib.Omega.{arith}
use mathlib.Core.Path.{refl}
use Rattle.boards.specs.Boards.{shown_in}
use Rattle.boards.proofs.Putting.{row-refused, row-put}
use Rattle.boards.proofs.Board.put.Goals as goal

pub returns-then-row-ge-ROWS : goal.returns-then-row-ge-ROWS
returns-then-row-ge-ROWS c =
    let r = row-refused c.args.self c.args.row _ _ _ c.args.room.now (omega arith) in
    record { result = r.0; room = r.1 }

pub returns-in-Ok : goal.returns-in-Ok
unfolding shown_in
returns-in-Ok c =
    let a = c.args in
    let r = row-put a.self a.row _ _ _ a.room.now (omega arith) _ c.in-Ok.ensures.result c.show-shown.ensures.room c.store.ensures in
    record { result = r.0; room = r.1 }

pub returns-in_default : goal.returns-in_default
unfolding shown_in
returns-in_default c =
    let a = c.args in
    let r = row-put a.self a.row _ _ _ a.room.now (omega arith) _ c.show-shown.ensures.result c.show-shown.ensures.room (rw c.in_default.is refl) in
    record { result = r.0; room = r.1 }
