-- "After any run of such calls from an empty board the kept width is the greatest of the row lengths, or 0 when all are empty, and other
-- rows are as they were." (R152)
-- Assumes nothing.
use Rattle.std.specs.Prelude.{ℕ, ◌≤◌, ◌<◌, ◌≡◌, Bool, true, false, not, cond, List, [], ◌∷◌, eqb, ltb, length, Option, Some, None, is_some, unwrap_or, Result, Ok, Err}
use Rattle.answers.specs.declared.Refusal.{Refusal}
use Rattle.answers.specs.declared.Shown.{Shown}
use Rattle.answers.specs.Number.{answer_number}
use Rattle.values.specs.declared.Ask.{Ask}
use Rattle.lists.specs.Lists.{every}
use Rattle.tables.specs.Calls.{showing}
use Rattle.boards.specs.declared.Board.{Board}
use Rattle.boards.specs.declared.Row.{Row}
use Rattle.boards.specs.Boards.{row_count, empty_row, shown_row, row_at, empty_board, put_row, clear_row}

-- a call: putting a row, with the table, what is asked for, the text and the length of the room; or clearing one
pub data Call : Type 0 where
  put : ℕ → List ℕ → Ask → List ℕ → ℕ → Call
  clear : ℕ → Call

unfoldable pub row_named : Call → ℕ
row_named (put k table ask text size) = k
row_named (clear k) = k

-- the board that a call hands back
unfoldable pub handed_back : Board → Call → Board
handed_back b (put k table ask text size) = (put_row b k table ask text size).board
handed_back b (clear k) = (clear_row b k).board

-- the number of the answer that a call hands back
unfoldable pub answered : Board → Call → ℕ
answered b (put k table ask text size) = answer_number (put_row b k table ask text size).shown
answered b (clear k) = answer_number (clear_row b k).cleared

-- the board after a run of calls
unfoldable pub after : Board → List Call → Board
after b [] = b
after b (c ∷ cs) = after (handed_back b c) cs

-- what a show leaves in the row that it is put in; refused, nothing
unfoldable pub shown_left : Result Shown Refusal → Option Row
shown_left (Ok s) = Some (shown_row s)
shown_left (Err a) = None

-- what a call leaves in the row that it names, where it is accepted
unfoldable pub leaves : Call → Option Row
leaves (put k table ask text size) = cond (ltb k row_count) (shown_left (showing table ask text size)) None
leaves (clear k) = cond (ltb k row_count) (Some empty_row) None

-- what is in row k after a call: what the call left there, else what was there
unfoldable pub left_in : ℕ → Row → Call → Row
left_in k row c = cond (eqb (row_named c) k) (unwrap_or (leaves c) row) row

-- what the last accepted call on row k left there
unfoldable pub last_left : ℕ → Row → List Call → Row
last_left k row [] = row
last_left k row (c ∷ cs) = last_left k (left_in k row c) cs

unfoldable pub is_filled : Row → Bool
is_filled row = not (eqb row.filled 0)

-- row k is filled, and is as long as this
pub record Reached (b : Board) (w : ℕ) : Type 0 where
  pub row : ℕ
  pub there : row < row_count
  pub filled : is_filled (row_at b row) ≡ true
  pub is : (row_at b row).length ≡ w

-- the kept width of a board is the greatest of the lengths of its filled rows: none is longer, and where it is not 0 one has it; it is 0
-- where all are empty
pub record Greatest (b : Board) : Type 0 where
  pub none_longer : (k : ℕ) → is_filled (row_at b k) ≡ true → (row_at b k).length ≤ b.widest
  pub reached : 0 < b.widest → Reached b b.widest
  pub all_empty : ((k : ℕ) → k < row_count → is_filled (row_at b k) ≡ false) → b.widest ≡ 0

-- a board as the code has it: 64 of each
pub record Whole (b : Board) : Type 0 where
  pub filled : length b.filled ≡ row_count
  pub lengths : length b.length ≡ row_count
  pub colours : length b.colour ≡ row_count

-- what holds after a run of calls, from the empty board, and of other rows from any board. Of a row that is not filled there: it has an
-- empty row's one spelling (R148), and clearing it changes nothing (R151).
pub record Run (cs : List Call) : Type 0 where
  pub width : Greatest (after empty_board cs)
  pub rows : (k : ℕ) → k < row_count → row_at (after empty_board cs) k ≡ last_left k empty_row cs
  pub others : (b : Board) (k : ℕ) → every (λ c. not (eqb (row_named c) k)) cs ≡ true → row_at (after b cs) k ≡ row_at b k
  pub spelled : (k : ℕ) → k < row_count → is_filled (row_at (after empty_board cs) k) ≡ false → row_at (after empty_board cs) k ≡ empty_row
  pub cleared : (k : ℕ) → k < row_count → is_filled (row_at (after empty_board cs) k) ≡ false
      → clear_row (after empty_board cs) k ≡ record { board = after empty_board cs; cleared = Ok tt }

-- one call on any board, made by hand too: what it leaves, it leaves exactly where it is answered 0; then the width is right, whatever it
-- was; else nothing is changed; and a row has what the call left there, or what it had
pub record OneCall (b : Board) (c : Call) : Type 0 where
  pub accepted : is_some (leaves c) ≡ eqb (answered b c) 0
  pub righted : answered b c ≡ 0 → Greatest (handed_back b c)
  pub refused : (answered b c ≡ 0 → ⊥) → handed_back b c ≡ b
  pub rows : (k : ℕ) → row_at (handed_back b c) k ≡ left_in k (row_at b k) c
