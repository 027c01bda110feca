-- The words of rows that fit are words of 16 bits.
-- Assumes nothing.
use Prim.Native.Nat.{ℕ, ◌≤◌, ◌<◌}
use native.Mathlib.Omega.{arith}
use mathlib.Core.Bool.{Bool, true, false, ◌||◌}
use mathlib.Core.List.{List, [], ◌∷◌}
use lib.ListN.{length}
use lib.Dec.{T, eqb, lt→ltb, eqb→eq}
use Rattle.values.specs.Ranges.{between}
use Rattle.lists.specs.Lists.{every}
use Rattle.lists.proofs.Bools.{every-head, every-tail, every-cons}
use Rattle.formats.specs.Tokens.{run_allowed}
use Rattle.formats.specs.Items.{is_unit}
use Rattle.tables.specs.Words.{Head, Entry, Row, head_words, heads_words, entries_words, bodies_words, table_words}
use Rattle.tables.specs.Decode.{item_at}
use Rattle.tables.specs.Rules.{head_in_range, entry_in_range, row_fits}
use Rattle.tables.proofs.Ranges.{head-ranges}
use Rattle.tables.proofs.BackEntries.{also, between-facts, tag-known, by-tag}
use Rattle.tables.proofs.Back.{row-facts}

-- a number with a small bound is a word
word : (n : ℕ) → n < 65536 → T (is_unit n)
word n h = lt→ltb n 65536 h

small : (l g a : ℕ) → g < 65536 → T (between l g a) → T (is_unit a)
small l g a h t = word a (omega (arith, between-facts l g a t))

nought : (a : ℕ) → T (eqb a 0) → T (is_unit a)
nought a t = word a (omega (arith, eqb→eq a 0 t))

two-or-four : (a : ℕ) → T (eqb a 2 || eqb a 4) → T (is_unit a)
two-or-four a t = either (eqb a 2) (eqb a 4) (λ u. word a (omega (arith, eqb→eq a 2 u))) (λ u. word a (omega (arith, eqb→eq a 4 u))) t
  where
    either : (b c : Bool) → (T b → T (is_unit a)) → (T c → T (is_unit a)) → T (b || c) → T (is_unit a)
    either true c f g t = f tt
    either false c f g t = g t

argument-word : (e : Entry) → T (entry_in_range e) → T (is_unit e.argument)
unfolding entry_in_range item_at run_allowed
argument-word =
    by-tag (λ (e : Entry). T (is_unit e.argument))
    (also (λ a r. r) (also (λ a r. r) (also (λ a r. r)
    (also (λ a r. small 1 35 a (omega arith) r) (also (λ a r. small 1 35 a (omega arith) r) (also (λ a r. small 1 35 a (omega arith) r)
    (also (λ a r. nought a r) (also (λ a r. nought a r) (also (λ a r. nought a r) (also (λ a r. nought a r)
    (also (λ a r. two-or-four a r) (also (λ a r. small 1 5 a (omega arith) r) (also (λ a r. small 1 4 a (omega arith) r)
    (also (λ a r. small 1 2 a (omega arith) r) (also (λ a r. small 1 2 a (omega arith) r) (also (λ a r. small 1 2 a (omega arith) r)
    (also (λ a r. small 1 3 a (omega arith) r)
    (also (λ a r. small 1 9 a (omega arith) r) (also (λ a r. small 1 9 a (omega arith) r) (also (λ a r. small 1 9 a (omega arith) r)
    (also (λ a r. small 1 2 a (omega arith) r) (also (λ a r. nought a r) (also (λ a r. nought a r)
    (also (λ a r. nought a r) (also (λ a r. small 1 999 a (omega arith) r) tt)))))))))))))))))))))))))

entries-are-words : (es : List Entry) (ws : List ℕ) → T (every entry_in_range es) → T (every is_unit ws) → T (every is_unit (entries_words es ws))
unfolding entries_words
entries-are-words [] ws t u = u
entries-are-words (e ∷ es) ws t u =
    let r : T (entry_in_range e) = every-head entry_in_range e es t in
    every-cons is_unit e.tag (e.argument ∷ entries_words es ws) (word e.tag (omega (arith, tag-known e r)))
    (every-cons is_unit e.argument (entries_words es ws) (argument-word e r)
    (entries-are-words es ws (every-tail entry_in_range e es t) u))

pair : (a : ℕ) (ws : List ℕ) → T (is_unit a) → T (every is_unit ws) → T (every is_unit (a ∷ ws))
pair a ws t u = every-cons is_unit a ws t u

head-are-words : (h : Head) (ws : List ℕ) → T (head_in_range h) → T (every is_unit ws) → T (every is_unit (head_words h ws))
unfolding head_words
head-are-words h ws t u =
    let f = head-ranges h t in
    pair _ _ (word h.kind (omega (arith, f.kind)))
    (pair _ _ (word h.colour (omega (arith, f.colour)))
    (pair _ _ (word h.operator (omega (arith, f.operator)))
    (pair _ _ (word h.negative (omega (arith, f.negative)))
    (pair _ _ (word h.whole_low f.whole_low)
    (pair _ _ (word h.whole_high f.whole_high)
    (pair _ _ (word h.millionths_low f.millionths_low)
    (pair _ _ (word h.millionths_high f.millionths_high)
    (pair _ _ (word h.shift (omega (arith, f.shift)))
    (pair _ _ (word h.flags (omega (arith, f.flags)))
    (pair _ _ (word h.decimals (omega (arith, f.decimals)))
    (pair _ _ (word h.items (omega (arith, f.items))) u)))))))))))

bodies-are-words : (rs : List Row) (ws : List ℕ) → T (every row_fits rs) → T (every is_unit ws) → T (every is_unit (bodies_words rs ws))
unfolding bodies_words
bodies-are-words [] ws t u = u
bodies-are-words (r ∷ rs) ws t u =
    entries-are-words r.entries (bodies_words rs ws) (row-facts r (every-head row_fits r rs t)).entries
    (bodies-are-words rs ws (every-tail row_fits r rs t) u)

heads-are-words : (rs : List Row) (ws : List ℕ) → T (every row_fits rs) → T (every is_unit ws) → T (every is_unit (heads_words rs ws))
unfolding heads_words
heads-are-words [] ws t u = u
heads-are-words (r ∷ rs) ws t u =
    head-are-words r.head (heads_words rs ws) (row-facts r (every-head row_fits r rs t)).head
    (heads-are-words rs ws (every-tail row_fits r rs t) u)

pub rows-are-words : (rs : List Row) → length rs ≤ 4 → T (every row_fits rs) → T (every is_unit (table_words rs))
unfolding table_words every
rows-are-words rs h t =
    pair (length rs) (heads_words rs (bodies_words rs [])) (word (length rs) (omega arith))
    (heads-are-words rs (bodies_words rs []) t (bodies-are-words rs [] t tt))
