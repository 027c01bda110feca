-- What is handed back: a row stored and the width counted; of a clear, by its row; of a put, by its row and by what its show answers.
-- Assumes nothing.
use Prim.Native.Nat.{ℕ, ◌≤◌, ◌<◌}
use mathlib.Core.Path.{◌≡◌}
use mathlib.Core.List.{List}
use lib.ListN.{length, set}
use borrow.Author.Tests.{lt-ltb, le-ltb}
use Rattle.std.specs.Prelude.{Result, Ok, Err}
use Rattle.answers.specs.declared.Refusal.{Refusal}
use Rattle.answers.specs.declared.Refusal.TheVariants as answer
use Rattle.answers.specs.declared.Shown.{Shown}
use Rattle.values.specs.declared.Ask.{Ask}
use Rattle.tables.specs.Calls.{showing, room_after}
use Rattle.boards.specs.declared.Board.{Board}
use Rattle.boards.specs.declared.Row.{Row}
use Rattle.boards.specs.declared.PutRow.{PutRow}
use Rattle.boards.specs.declared.ClearedRow.{ClearedRow}
use Rattle.boards.specs.Boards.{row_count, empty_row, widest_of, righted, with_row, shown_in, put_row, room_put, clear_row}

-- a board with its row stored and its width counted
pub with-width : (b : Board) (k : ℕ) (row : Row) {w : ℕ} → w ≡ widest_of (set b.filled k row.filled) (set b.length k row.length)
    → ◌≡◌ {A = Board}
    (record { filled = set b.filled k row.filled; length = set b.length k row.length; colour = set b.colour k row.colour; widest = w })
    (with_row b k row)
unfolding with_row righted
with-width b k row e = rw e

module _ (b : Board) (k : ℕ) where
  pub clear-refused : row_count ≤ k → ◌≡◌ {A = ClearedRow} (record { board = b; cleared = Err answer.Row }) (clear_row b k)
  unfolding clear_row
  clear-refused h = rw (le-ltb k row_count h)

  pub clear-done : k < row_count → {r : Board} → r ≡ with_row b k empty_row → ◌≡◌ {A = ClearedRow} (record { board = r; cleared = Ok tt }) (clear_row b k)
  unfolding clear_row
  clear-done inside h = rw (lt-ltb k row_count inside, h)

module _ (b : Board) (k : ℕ) (table : List ℕ) (ask : Ask) (text old : List ℕ) where
  -- the row is none of the sixty-four: the room is as it was
  pub row-refused : row_count ≤ k
      → (◌≡◌ {A = PutRow} (record { board = b; shown = Err answer.Row }) (put_row b k table ask text (length old)))
      × (old ≡ room_put k table ask text old)
  unfolding put_row room_put
  row-refused h = (rw (le-ltb k row_count h), rw (le-ltb k row_count h))

  -- else it is as showing leaves it, and so is the row
  pub row-put : k < row_count → (s : Result Shown Refusal) → s ≡ showing table ask text (length old) → {out : List ℕ} → out ≡ room_after table ask text old
      → {r : Board} → r ≡ shown_in b k s
      → (◌≡◌ {A = PutRow} (record { board = r; shown = s }) (put_row b k table ask text (length old))) × (out ≡ room_put k table ask text old)
  unfolding put_row room_put
  row-put inside s e h f = (rw (lt-ltb k row_count inside, ← e, f), rw (lt-ltb k row_count inside) h)
