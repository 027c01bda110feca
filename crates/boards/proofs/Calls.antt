-- Runs of puts and clears: the kept width, the rows named and the others.
-- Assumes nothing.
use Prim.Native.Nat.{ℕ, ◌≤◌, ◌<◌}
use native.Mathlib.Omega.{arith}
use mathlib.Core.Path.{◌≡◌, refl, sym, ap, ◌∙◌}
use mathlib.Core.Bool.{Bool, true, false, not, cond}
use mathlib.Core.List.{List, [], ◌∷◌}
use lib.Dec.{T, eqb, ltb}
use lib.ListN.{get_or, set, length-set, get_or-replicate}
use lib.Seq.{get_or-set_same, get_or-set_other, set-get_or}
use borrow.Author.Tests.{lt-ltb, ltb-true, ltb-false, eq-eqb, ne_eqb, eqb-true, eqb-false, not-true}
use Rattle.std.specs.Prelude.{Option, Some, None, is_some, unwrap_or, Result, Ok, Err}
use Rattle.answers.specs.declared.Refusal.{Refusal}
use Rattle.answers.specs.declared.Refusal.TheVariants as answer
use Rattle.answers.specs.declared.Shown.{Shown}
use Rattle.answers.specs.Number.{answer_number}
use Rattle.answers.proofs.Above.{refusal-above}
use Rattle.lists.specs.Lists.{every}
use Rattle.lists.proofs.Bools.{no, true-T, not_so, by_cases, cond_both, cond-case, every-head, every-tail}
use Rattle.tables.specs.Calls.{showing}
use Rattle.boards.specs.declared.Board.{Board}
use Rattle.boards.specs.declared.Row.{Row}
use Rattle.boards.specs.declared.PutRow.{PutRow}
use Rattle.boards.specs.declared.ClearedRow.{ClearedRow}
use Rattle.boards.specs.Boards.{row_count, empty_row, row_at, empty_board, length_in, widest_from, widest_of, righted, with_row, shown_in, put_row, clear_row}
use Rattle.boards.specs.Runs.{Call, put, clear, row_named, handed_back, answered, after, shown_left, leaves, left_in, last_left, is_filled, Reached, Greatest, Whole, Run, OneCall}
use Rattle.boards.proofs.Widths.{none-longer, found_from}

-- a width that is not 0 is that of a row that is filled, so with none of them it is 0
greatest-of : (b : Board) → ((k : ℕ) → is_filled (row_at b k) ≡ true → (row_at b k).length ≤ b.widest) → (0 < b.widest → Reached b b.widest)
    → Greatest b
greatest-of b longer reached =
    record {
      none_longer = longer;
      reached = reached;
      all_empty = λ e.
          by_cases (ltb 0 b.widest)
          (λ t. let r = reached (ltb-true 0 b.widest t) in no (sym (e r.row r.there) ∙ r.filled))
          (λ f. omega (arith, ltb-false 0 b.widest f));
    }

module _ (b : Board) (w : Whole b) (k : ℕ) (row : Row) where
  pub whole_with : Whole (with_row b k row)
  unfolding with_row righted
  whole_with =
      record {
        filled = length-set b.filled k row.filled ∙ w.filled;
        lengths = length-set b.length k row.length ∙ w.lengths;
        colours = length-set b.colour k row.colour ∙ w.colours;
      }

  pub greatest-with : Greatest (with_row b k row)
  unfolding with_row righted widest_of is_filled
  greatest-with =
      greatest-of _ (λ i e. none-longer _ _ _ i (not-true _ e))
      (λ h.
      let f = found_from _ _ refl (omega arith) h in
      record { row = f.row; there = omega (arith, f.there, length-set b.filled k row.filled, w.filled); filled = rw f.filled; is = f.is })

  -- the row named has what is put there
  pub row-with : k < row_count → row_at (with_row b k row) k ≡ row
  unfolding with_row righted
  row-with h =
      rw (
        get_or-set_same b.filled k row.filled 0 (omega (arith, w.filled)),
        get_or-set_same b.length k row.length 0 (omega (arith, w.lengths)),
        get_or-set_same b.colour k row.colour 0 (omega (arith, w.colours)),
      )

-- and the others what they had
other-with : (b : Board) (k : ℕ) (row : Row) (i : ℕ) → (i ≡ k → ⊥) → row_at (with_row b k row) i ≡ row_at b i
unfolding with_row righted
other-with b k row i d =
    let filled : get_or (with_row b k row).filled i 0 ≡ get_or b.filled i 0 = get_or-set_other b.filled _ i row.filled 0 (omega arith) in
    let lengths : get_or (with_row b k row).length i 0 ≡ get_or b.length i 0 = get_or-set_other b.length _ i row.length 0 (omega arith) in
    let colours : get_or (with_row b k row).colour i 0 ≡ get_or b.colour i 0 = get_or-set_other b.colour _ i row.colour 0 (omega arith) in
    λ j. record { filled = filled j; length = lengths j; colour = colours j }

-- a call puts what it leaves into the row that it names
abbrev landed : Board → ℕ → Option Row → Board
landed b k None = b
landed b k (Some row) = with_row b k row

shown-landed : (b : Board) (k : ℕ) (s : Result Shown Refusal) → shown_in b k s ≡ landed b k (shown_left s)
unfolding shown_in shown_left
shown-landed b k (Ok s) = refl
shown-landed b k (Err a) = refl

put-landed : (t : Bool) (b : Board) (k : ℕ) (s r : Result Shown Refusal)
    → (cond {A = PutRow} t (record { board = shown_in b k s; shown = s }) (record { board = b; shown = r })).board ≡ landed b k (cond t (shown_left s) None)
put-landed true b k s r = shown-landed b k s
put-landed false b k s r = refl

clear-landed : (t : Bool) (b : Board) (k : ℕ)
    → (cond {A = ClearedRow} t (record { board = with_row b k empty_row; cleared = Ok tt }) (record { board = b; cleared = Err answer.Row })).board
    ≡ landed b k (cond t (Some empty_row) None)
clear-landed true b k = refl
clear-landed false b k = refl

handed-landed : (b : Board) (c : Call) → handed_back b c ≡ landed b (row_named c) (leaves c)
unfolding handed_back row_named leaves put_row clear_row
handed-landed b (put k table ask text size) = put-landed (ltb k row_count) b k (showing table ask text size) _
handed-landed b (clear k) = clear-landed (ltb k row_count) b k

-- what a call leaves, it leaves in one of the sixty-four rows
there : (t : Bool) (o : Option Row) (row : Row) → cond t o None ≡ Some row → t ≡ true
there true o row e = refl
there false o row e = let z : ◌≡◌ {A = ℕ} 0 1 = cc in absurd (omega arith)

left_there : (c : Call) (row : Row) → leaves c ≡ Some row → row_named c < row_count
unfolding leaves row_named
left_there (put k table ask text size) row e = ltb-true k row_count (there (ltb k row_count) _ row e)
left_there (clear k) row e = ltb-true k row_count (there (ltb k row_count) _ row e)

-- ---- one call on a board
whole-landed : (b : Board) → Whole b → (k : ℕ) (o : Option Row) → Whole (landed b k o)
whole-landed b w k None = w
whole-landed b w k (Some row) = whole_with b w k row

greatest-landed : (b : Board) → Whole b → Greatest b → (k : ℕ) (o : Option Row) → Greatest (landed b k o)
greatest-landed b w g k None = g
greatest-landed b w g k (Some row) = greatest-with b w k row

other-landed : (b : Board) (k : ℕ) (o : Option Row) (i : ℕ) → (i ≡ k → ⊥) → row_at (landed b k o) i ≡ row_at b i
other-landed b k None i d = refl
other-landed b k (Some row) i d = other-with b k row i d

named-landed : (b : Board) → Whole b → (k : ℕ) (o : Option Row) → ((row : Row) → o ≡ Some row → k < row_count)
    → row_at (landed b k o) k ≡ unwrap_or o (row_at b k)
named-landed b w k None f = refl
named-landed b w k (Some row) f = row-with b w k row (f row refl)

row-handed : (b : Board) → Whole b → (c : Call) (i : ℕ) → row_at (handed_back b c) i ≡ left_in i (row_at b i) c
unfolding left_in
row-handed b w c i =
    rw (handed-landed b c)
    (cond-case (λ (r : Row). row_at (landed b (row_named c) (leaves c)) i ≡ r) (eqb (row_named c) i)
    (λ e. rw (sym (eqb-true (row_named c) i e)) (named-landed b w (row_named c) (leaves c) (left_there c)))
    (λ e. other-landed b (row_named c) (leaves c) i (λ q. eqb-false (row_named c) i e (sym q))))

-- ---- the answer
-- a call that leaves something is answered 0, and one that leaves nothing is not
shown-answered : (s : Result Shown Refusal) → is_some (shown_left s) ≡ eqb (answer_number s) 0
unfolding shown_left
shown-answered (Ok s) = refl
shown-answered (Err a) = sym (refusal-above a)

put-answered : (t : Bool) (b : Board) (k : ℕ) (s : Result Shown Refusal)
    → is_some (cond t (shown_left s) None)
    ≡ eqb (answer_number (cond {A = PutRow} t (record { board = shown_in b k s; shown = s }) (record { board = b; shown = Err answer.Row })).shown) 0
put-answered true b k s = shown-answered s
put-answered false b k s = refl

clear-answered : (t : Bool) (b : Board) (k : ℕ)
    → is_some (cond t (Some empty_row) None)
    ≡ eqb (answer_number (cond {A = ClearedRow} t (record { board = with_row b k empty_row; cleared = Ok tt }) (record { board = b; cleared = Err answer.Row })).cleared) 0
clear-answered true b k = refl
clear-answered false b k = refl

left-answered : (b : Board) (c : Call) → is_some (leaves c) ≡ eqb (answered b c) 0
unfolding leaves answered put_row clear_row
left-answered b (put k table ask text size) = put-answered (ltb k row_count) b k (showing table ask text size)
left-answered b (clear k) = clear-answered (ltb k row_count) b k

one-landed : (b : Board) → Whole b → (k : ℕ) (o : Option Row)
    → (is_some o ≡ true → Greatest (landed b k o)) × (is_some o ≡ false → landed b k o ≡ b)
one-landed b w k None = ((λ e. no e), (λ e. refl))
one-landed b w k (Some row) = ((λ e. greatest-with b w k row), (λ e. no (sym e)))

pub one-call : (b : Board) → Whole b → (c : Call) → OneCall b c
one-call b w c =
    let o = one-landed b w (row_named c) (leaves c) in
    let a = left-answered b c in
    record {
      accepted = a;
      righted = λ e. rw (handed-landed b c) (o.0 (a ∙ eq-eqb (answered b c) 0 e));
      refused = λ d. handed-landed b c ∙ o.1 (a ∙ ne_eqb (answered b c) 0 d);
      rows = row-handed b w c;
    }

-- ---- runs of calls
whole-after : (b : Board) → Whole b → (cs : List Call) → Whole (after b cs)
unfolding after
whole-after b w [] = w
whole-after b w (c ∷ cs) = whole-after (handed_back b c) (rw (handed-landed b c) (whole-landed b w (row_named c) (leaves c))) cs

greatest-after : (b : Board) → Whole b → Greatest b → (cs : List Call) → Greatest (after b cs)
unfolding after
greatest-after b w g [] = g
greatest-after b w g (c ∷ cs) =
    let h = handed-landed b c in
    greatest-after (handed_back b c) (rw h (whole-landed b w (row_named c) (leaves c))) (rw h (greatest-landed b w g (row_named c) (leaves c))) cs

row-after : (b : Board) → Whole b → (cs : List Call) (i : ℕ) → row_at (after b cs) i ≡ last_left i (row_at b i) cs
unfolding after last_left
row-after b w [] i = refl
row-after b w (c ∷ cs) i =
    row-after (handed_back b c) (rw (handed-landed b c) (whole-landed b w (row_named c) (leaves c))) cs i
    ∙ ap (λ (row : Row). last_left i row cs) (row-handed b w c i)

other_after : (b : Board) (cs : List Call) (i : ℕ) → T (every (λ (c : Call). not (eqb (row_named c) i)) cs) → row_at (after b cs) i ≡ row_at b i
unfolding after
other_after b [] i t = refl
other_after b (c ∷ cs) i t =
    let d = not_so (eqb (row_named c) i) (every-head _ c cs t) in
    other_after (handed_back b c) cs i (every-tail _ c cs t)
    ∙ rw (handed-landed b c) (other-landed b (row_named c) (leaves c) i (λ q. eqb-false (row_named c) i d (sym q)))

-- ---- rows that are not filled
-- such a row has its one spelling
abbrev Spelled : Row → Type 0
Spelled row = is_filled row ≡ false → row ≡ empty_row

shown-spelled : (row : Row) → Spelled row → (s : Result Shown Refusal) → Spelled (unwrap_or (shown_left s) row)
unfolding shown_left is_filled
shown-spelled row p (Ok s) = λ e. no (sym e)
shown-spelled row p (Err a) = p

left-spelled : (row : Row) → Spelled row → (c : Call) → Spelled (unwrap_or (leaves c) row)
unfolding leaves
left-spelled row p (put k table ask text size) =
    cond_both (λ (o : Option Row). Spelled (unwrap_or o row)) (ltb k row_count) (shown-spelled row p (showing table ask text size)) p
left-spelled row p (clear k) = cond_both (λ (o : Option Row). Spelled (unwrap_or o row)) (ltb k row_count) (λ e. refl) p

last-spelled : (k : ℕ) (row : Row) → Spelled row → (cs : List Call) → Spelled (last_left k row cs)
unfolding last_left left_in
last-spelled k row p [] = p
last-spelled k row p (c ∷ cs) = last-spelled k (left_in k row c) (cond_both Spelled (eqb (row_named c) k) (left-spelled row p c) p) cs

-- a board whose width is what is counted; so it is after every call that is done
abbrev Counted : Board → Type 0
Counted b = b.widest ≡ widest_of b.filled b.length

counted-landed : (b : Board) → Counted b → (k : ℕ) (o : Option Row) → Counted (landed b k o)
unfolding with_row righted
counted-landed b e k None = e
counted-landed b e k (Some row) = refl

counted-after : (b : Board) → Counted b → (cs : List Call) → Counted (after b cs)
unfolding after
counted-after b e [] = e
counted-after b e (c ∷ cs) = counted-after (handed_back b c) (rw (handed-landed b c) (counted-landed b e (row_named c) (leaves c))) cs

-- emptying an empty row changes nothing there
kept : (b : Board) → Counted b → (k : ℕ) → row_at b k ≡ empty_row → with_row b k empty_row ≡ b
unfolding with_row righted
kept b e k r =
    let filled : set b.filled k 0 ≡ b.filled = ap (λ (row : Row). set b.filled k row.filled) (sym r) ∙ set-get_or b.filled k 0 in
    let lengths : set b.length k 0 ≡ b.length = ap (λ (row : Row). set b.length k row.length) (sym r) ∙ set-get_or b.length k 0 in
    let colours : set b.colour k 0 ≡ b.colour = ap (λ (row : Row). set b.colour k row.colour) (sym r) ∙ set-get_or b.colour k 0 in
    (λ j. record { filled = filled j; length = lengths j; colour = colours j; widest = widest_of (filled j) (lengths j) })
    ∙ (λ j. record { filled = b.filled; length = b.length; colour = b.colour; widest = sym e j })

clear_kept : (b : Board) → Counted b → (k : ℕ) → k < row_count → row_at b k ≡ empty_row
    → clear_row b k ≡ record { board = b; cleared = Ok tt }
unfolding clear_row
clear_kept b e k h r = rw (lt-ltb k row_count h, kept b e k r)

-- ---- from the empty board
empty-whole : Whole empty_board
empty-whole = record { filled = refl; lengths = refl; colours = refl }

empty-greatest : Greatest empty_board
unfolding widest_from length_in is_filled
empty-greatest =
    greatest-of _ (λ k e. none-longer 0 empty_board.filled empty_board.length k (not-true _ e)) (λ h. absurd (omega arith))

empty-row : (i : ℕ) → i < row_count → row_at empty_board i ≡ empty_row
empty-row i h = rw (get_or-replicate {A = ℕ} row_count i 0 0 h)

empty-counted : Counted empty_board
unfolding widest_of widest_from length_in
empty-counted = refl

module _ (cs : List Call) where
  rows-after : (k : ℕ) → k < row_count → row_at (after empty_board cs) k ≡ last_left k empty_row cs
  rows-after k h = row-after empty_board empty-whole cs k ∙ ap (λ (row : Row). last_left k row cs) (empty-row k h)

  spelled-after : (k : ℕ) → k < row_count → Spelled (row_at (after empty_board cs) k)
  spelled-after k h = rw (rows-after k h) (last-spelled k empty_row (λ e. refl) cs)

  pub run_of : Run cs
  run_of =
      record {
        width = greatest-after empty_board empty-whole empty-greatest cs;
        rows = rows-after;
        others = λ b k e. other_after b cs k (true-T e);
        spelled = spelled-after;
        cleared = λ k h e. clear_kept (after empty_board cs) (counted-after empty_board empty-counted cs) k h (spelled-after k h e);
      }
