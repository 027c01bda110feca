-- "One board, sixty-four rows" (R148 to R151): a board, and what putting and clearing a row hand back.
-- Assumes nothing.
use Rattle.std.specs.Prelude.{ℕ, max, cond, List, [], ◌∷◌, eqb, ltb, length, get_or, set, replicate, Result, Ok, Err}
use Rattle.answers.specs.declared.Refusal.{Refusal}
use Rattle.answers.specs.declared.Refusal.TheVariants as answer
use Rattle.answers.specs.declared.Shown.{Shown}
use Rattle.values.specs.declared.Ask.{Ask}
use Rattle.tables.specs.Calls.{showing, room_after}
use Rattle.boards.specs.declared.Board.{Board}
use Rattle.boards.specs.declared.Row.{Row}
use Rattle.boards.specs.declared.PutRow.{PutRow}
use Rattle.boards.specs.declared.ClearedRow.{ClearedRow}

-- "up to 64 rows"
abbrev pub row_count : ℕ
row_count = 64

-- "each empty or with the last text length and colour shown there" (R148): 0 is empty, another number filled
abbrev pub empty_row : Row
empty_row = record { filled = 0; length = 0; colour = 0 }

-- a row with what a show returned; an empty text fills it too
abbrev pub shown_row : Shown → Row
shown_row s = record { filled = 1; length = s.length; colour = s.colour }

abbrev pub row_at : Board → ℕ → Row
row_at b k = record { filled = get_or b.filled k 0; length = get_or b.length k 0; colour = get_or b.colour k 0 }

abbrev pub empty_board : Board
empty_board =
    record { filled = replicate row_count 0; length = replicate row_count 0; colour = replicate row_count 0; widest = 0 }

-- the length of what is shown in a row; an empty row shows nothing
unfoldable pub length_in : ℕ → ℕ → ℕ
length_in filled length = cond (eqb filled 0) 0 length

-- the widest of a width and of the rows
unfoldable pub widest_from : ℕ → List ℕ → List ℕ → ℕ
widest_from w [] lengths = w
widest_from w (f ∷ fs) [] = w
widest_from w (f ∷ fs) (n ∷ ns) = widest_from (max w (length_in f n)) fs ns

-- "the greatest of the row lengths, or 0 when all are empty" (R149)
unfoldable pub widest_of : List ℕ → List ℕ → ℕ
widest_of filled lengths = widest_from 0 filled lengths

-- "the width put right", whatever it was
unfoldable pub righted : Board → Board
righted b =
    record { filled = b.filled; length = b.length; colour = b.colour; widest = widest_of b.filled b.length }

-- a board with this in row k, and the width put right (R150)
unfoldable pub with_row : Board → ℕ → Row → Board
with_row b k row =
    righted
    (record {
      filled = set b.filled k row.filled;
      length = set b.length k row.length;
      colour = set b.colour k row.colour;
      widest = b.widest;
    })

-- "A refused show leaves the board as it stood." (R150)
unfoldable pub shown_in : Board → ℕ → Result Shown Refusal → Board
shown_in b k (Ok s) = with_row b k (shown_row s)
shown_in b k (Err a) = b

-- "Putting a row hands back the whole board, with that show's length and colour in the row"; "row 64 or above, clearing too, is 16, before
-- 8" (R150)
unfoldable pub put_row : Board → ℕ → List ℕ → Ask → List ℕ → ℕ → PutRow
put_row b k table ask text size =
    cond (ltb k row_count)
    (record { board = shown_in b k (showing table ask text size); shown = showing table ask text size })
    (record { board = b; shown = Err answer.Row })

-- what putting a row leaves in the text room: what its show does; of a refused row, what stood there
unfoldable pub room_put : ℕ → List ℕ → Ask → List ℕ → List ℕ → List ℕ
room_put k table ask text old = cond (ltb k row_count) (room_after table ask text old) old

-- "clearing a row hands it back with that row empty, likewise" (R151)
unfoldable pub clear_row : Board → ℕ → ClearedRow
clear_row b k =
    cond (ltb k row_count)
    (record { board = with_row b k empty_row; cleared = Ok tt })
    (record { board = b; cleared = Err answer.Row })
