-- A table's words and its rows: each is read back from the other.
-- Assumes nothing.
use Prim.Native.Nat.{ℕ, zero, suc, ◌+◌, ◌-◌, ◌*◌, ◌/◌, ◌≤◌, ◌<◌}
use native.Mathlib.Omega.{arith}
use native.Mathlib.Nat.{sub-zero}
use mathlib.Core.Path.{◌≡◌, refl, sym, ◌∙◌, ap}
use mathlib.Core.List.{List, [], ◌∷◌, ◌++◌}
use lib.ListN.{length, get_or, drop, take, length-drop, drop_of_length-le}
use lib.Seq.{drop-cons, drop-drop, get_or-drop, length-take-le}
use lib.Dec.{T, leb, leb→le, eqb→eq, le→leb, eqb_refl}
use Rattle.values.specs.Ranges.{between}
use Rattle.lists.proofs.Bools.{and_left, and_right, and_in}
use Rattle.tables.specs.Words.{Head, Entry, Row, head_words, heads_words, entries_words, bodies_words, table_words, head_at, heads_at, entries_at, entries_in, rows_at, heads_in, rows_in, items_said, exact_words}

-- each row's head says how many entries it has
abbrev pub Counted : List Row → Type 0
Counted [] = Unit {0}
Counted (r ∷ rs) = (r.head.items ≡ length r.entries) × Counted rs

unfoldable pub heads_of : List Row → List Head
heads_of [] = []
heads_of (r ∷ rs) = r.head ∷ heads_of rs

-- passing what a writer put in front
pub drop-heads : (rs : List Row) (ws : List ℕ) → drop (12 * length rs) (heads_words rs ws) ≡ ws
unfolding heads_words head_words
drop-heads [] ws = refl
drop-heads (r ∷ rs) ws =
    let e : 12 * suc (length rs) ≡ 12 + 12 * length rs = omega arith in
    rw e (sym (drop-drop (12 * length rs) 12 (head_words r.head (heads_words rs ws))) ∙ drop-heads rs ws)

pub drop-entries : (es : List Entry) (ws : List ℕ) → drop (2 * length es) (entries_words es ws) ≡ ws
unfolding entries_words
drop-entries [] ws = refl
drop-entries (e ∷ es) ws =
    let h : 2 * suc (length es) ≡ 2 + 2 * length es = omega arith in
    rw h (sym (drop-drop (2 * length es) 2 (e.tag ∷ e.argument ∷ entries_words es ws)) ∙ drop-entries es ws)

-- what a reader reads of what a writer wrote
heads-at : (rs : List Row) (ws : List ℕ) → heads_at (length rs) (heads_words rs ws) ≡ heads_of rs
unfolding heads_at heads_words head_words head_at heads_of
heads-at [] ws = refl
heads-at (r ∷ rs) ws = ap (λ (hs : List Head). r.head ∷ hs) (heads-at rs ws)

entries-at : (es : List Entry) (ws : List ℕ) → entries_at (length es) (entries_words es ws) ≡ es
unfolding entries_at entries_words
entries-at [] ws = refl
entries-at (e ∷ es) ws = ap (λ (xs : List Entry). e ∷ xs) (entries-at es ws)

rows-at : (rs : List Row) (ws : List ℕ) → Counted rs → rows_at (heads_of rs) (bodies_words rs ws) ≡ rs
unfolding rows_at bodies_words heads_of
rows-at [] ws c = refl
rows-at (r ∷ rs) ws c =
    rw (c.0, entries-at r.entries (bodies_words rs ws), drop-entries r.entries (bodies_words rs ws), rows-at rs ws c.1) refl

-- the rows of a table's words
pub rows_in_lem : (rs : List Row) → Counted rs → rows_in (table_words rs) ≡ rs
unfolding rows_in heads_in table_words
rows_in_lem rs c =
    let e : 1 + 12 * length rs ≡ suc (12 * length rs) = omega arith in
    rw (heads-at rs (bodies_words rs []), e, drop-heads rs (bodies_words rs [])) (rows-at rs [] c)

-- how many words there are
pub length-entries : (es : List Entry) (ws : List ℕ) → length (entries_words es ws) ≡ 2 * length es + length ws
unfolding entries_words
length-entries [] ws = omega arith
length-entries (e ∷ es) ws = omega (arith, length-entries es ws)

-- the words of entries, and those behind them
pub entries-append : (es : List Entry) (ws : List ℕ) → entries_words es ws ≡ entries_words es [] ++ ws
unfolding entries_words
entries-append [] ws = refl
entries-append (e ∷ es) ws = ap (λ (xs : List ℕ). e.tag ∷ e.argument ∷ xs) (entries-append es ws)

-- the entries in words that were written for them, and in a part of a table's words
pub entries-in-words : (es : List Entry) → entries_in (entries_words es []) ≡ es
unfolding entries_in
entries-in-words es =
    let half : length (entries_words es []) / 2 ≡ length es = omega (arith, length-entries es []) in
    rw half (entries-at es [])

entries-take : (n : ℕ) (ws : List ℕ) → entries_at n (take (2 * n) ws) ≡ entries_at n ws
unfolding entries_at
entries-take zero ws = refl
entries-take (suc n) [] = let e : 2 * suc n ≡ suc (suc (2 * n)) = omega arith in rw e
entries-take (suc n) (a ∷ []) = let e : 2 * suc n ≡ suc (suc (2 * n)) = omega arith in rw e
entries-take (suc n) (a ∷ b ∷ ws) = let e : 2 * suc n ≡ suc (suc (2 * n)) = omega arith in rw (e, entries-take n ws)

pub entries-part : (n : ℕ) (ws : List ℕ) → 2 * n ≤ length ws → entries_in (take (2 * n) ws) ≡ entries_at n ws
unfolding entries_in
entries-part n ws h =
    let half : 2 * n / 2 ≡ n = omega arith in
    rw (length-take-le (2 * n) ws h, half) (entries-take n ws)

-- the entries from the k-th on, of n in these words
abbrev pub entries_left : List ℕ → ℕ → ℕ → List Entry
entries_left words n k = entries_at (n - k) (drop (2 * k) words)

pub entries-front : (words : List ℕ) (n k : ℕ) → k < n
    → entries_left words n k ≡ record { tag = get_or words (2 * k) 0; argument = get_or words (2 * k + 1) 0 } ∷ entries_left words n (k + 1)
unfolding entries_at
entries-front words n k h =
    let one : n - k ≡ suc (n - (k + 1)) = omega arith in
    let two : 2 * (k + 1) ≡ 2 * k + 2 = omega arith in
    let nought : 2 * k + 0 ≡ 2 * k = omega arith in
    rw (one, two, get_or-drop (2 * k) words 0 0, get_or-drop (2 * k) words 1 0, drop-drop 2 (2 * k) words, nought)

-- a loop over the entries in words, before the k-th of n: f tells of all what it tells of those that are left
pub record Seeking {A : Type 0} (f : List Entry → A) (words : List ℕ) (n k : ℕ) : Type 0 where
  pub items : n ≡ length words / 2
  pub inside : k ≤ n
  pub same : f (entries_in words) ≡ f (entries_left words n k)

pub seeking-start : {A : Type 0} (f : List Entry → A) (words : List ℕ) (n : ℕ) → n ≡ length words / 2 → Seeking f words n 0
unfolding entries_in
seeking-start f words n e = record { items = e; inside = omega arith; same = rw (sub-zero n, e) }

module _ {A : Type 0} {f : List Entry → A} {words : List ℕ} {n k : ℕ} (s : Seeking f words n k) where
  pub seeking-front : k < n
      → f (entries_in words) ≡ f (record { tag = get_or words (2 * k) 0; argument = get_or words (2 * k + 1) 0 } ∷ entries_left words n (k + 1))
  seeking-front h = s.same ∙ ap f (entries-front words n k h)

  pub seeking-step : k < n → f (entries_in words) ≡ f (entries_left words n (k + 1)) → Seeking f words n (k + 1)
  seeking-step h e = record { items = s.items; inside = omega arith; same = e }

  pub seeking-end : n ≤ k → f (entries_in words) ≡ f []
  unfolding entries_at
  seeking-end h = let none : n - k ≡ 0 = omega arith in s.same ∙ rw none

length-bodies : (rs : List Row) (ws : List ℕ) → Counted rs → length (bodies_words rs ws) ≡ 2 * items_said (heads_of rs) + length ws
unfolding bodies_words items_said heads_of
length-bodies [] ws c = omega arith
length-bodies (r ∷ rs) ws c = omega (arith, length-entries r.entries (bodies_words rs ws), length-bodies rs ws c.1, c.0)

length-heads : (rs : List Row) (ws : List ℕ) → length (heads_words rs ws) ≡ 12 * length rs + length ws
unfolding heads_words head_words
length-heads [] ws = omega arith
length-heads (r ∷ rs) ws = omega (arith, length-heads rs ws)

pub length-words : (rs : List Row) → Counted rs → length (table_words rs) ≡ 1 + 12 * length rs + 2 * items_said (heads_of rs)
unfolding table_words
length-words rs c = omega (arith, length-heads rs (bodies_words rs []), length-bodies rs [] c)

-- rows that count their entries make exact words
pub words-exact : (rs : List Row) → Counted rs → 1 ≤ length rs → length rs ≤ 4 → T (exact_words (table_words rs))
unfolding exact_words heads_in table_words
words-exact rs c l m =
    let e : length (table_words rs) ≡ 1 + 12 * length rs + 2 * items_said (heads_of rs) = length-words rs c in
    let a : T (leb 1 (length rs)) = le→leb 1 (length rs) l in
    let b : T (leb (length rs) 4) = le→leb (length rs) 4 m in
    and_in (between 1 4 (length rs)) _ (and_in (leb 1 (length rs)) (leb (length rs) 4) a b)
    (rw (heads-at rs (bodies_words rs []), e) (eqb_refl (1 + 12 * length rs + 2 * items_said (heads_of rs))))

-- words read as rows are those rows' words
pub first_two : (ws : List ℕ) → 2 ≤ length ws → get_or ws 0 0 ∷ get_or ws 1 0 ∷ drop 2 ws ≡ ws
first_two ws h = sym (drop-cons ws 0 0 (omega arith) ∙ ap (λ (l : List ℕ). get_or ws 0 0 ∷ l) (drop-cons ws 1 0 (omega arith)))

entries-words : (n : ℕ) (ws : List ℕ) → 2 * n ≤ length ws → entries_words (entries_at n ws) (drop (2 * n) ws) ≡ ws
unfolding entries_words entries_at
entries-words zero ws h = refl
entries-words (suc n) ws h =
    let e : 2 * suc n ≡ 2 + 2 * n = omega arith in
    let l : length (drop 2 ws) ≡ length ws - 2 = length-drop 2 ws in
    rw (e, ← (drop-drop (2 * n) 2 ws), entries-words n (drop 2 ws) (omega arith)) (first_two ws (omega arith))

bodies-words : (hs : List Head) (ws : List ℕ) → length ws ≡ 2 * items_said hs → bodies_words (rows_at hs ws) [] ≡ ws
unfolding bodies_words rows_at items_said
bodies-words [] ws h = sym (drop_of_length-le ws {i = 0} (omega arith))
bodies-words (k ∷ hs) ws h =
    let l : length (drop (2 * k.items) ws) ≡ length ws - 2 * k.items = length-drop (2 * k.items) ws in
    rw (bodies-words hs (drop (2 * k.items) ws) (omega arith)) (entries-words k.items ws (omega arith))

-- the words of heads alone
unfoldable pub only_heads : List Head → List ℕ → List ℕ
only_heads [] ws = ws
only_heads (h ∷ hs) ws = head_words h (only_heads hs ws)

heads-only : (rs : List Row) (ws : List ℕ) → heads_words rs ws ≡ only_heads (heads_of rs) ws
unfolding heads_words only_heads heads_of
heads-only [] ws = refl
heads-only (r ∷ rs) ws = ap (head_words r.head) (heads-only rs ws)

pub rows-heads : (hs : List Head) (ws : List ℕ) → heads_of (rows_at hs ws) ≡ hs
unfolding heads_of rows_at
rows-heads [] ws = refl
rows-heads (h ∷ hs) ws = ap (λ (l : List Head). h ∷ l) (rows-heads hs (drop (2 * h.items) ws))

head-words : (ws : List ℕ) → 12 ≤ length ws → head_words (head_at ws) (drop 12 ws) ≡ ws
unfolding head_words head_at
head-words ws h =
    sym (drop-cons ws 0 0 (omega arith) ∙ rw (drop-cons ws 1 0 (omega arith), drop-cons ws 2 0 (omega arith), drop-cons ws 3 0 (omega arith), drop-cons ws 4 0 (omega arith), drop-cons ws 5 0 (omega arith), drop-cons ws 6 0 (omega arith), drop-cons ws 7 0 (omega arith), drop-cons ws 8 0 (omega arith), drop-cons ws 9 0 (omega arith), drop-cons ws 10 0 (omega arith), drop-cons ws 11 0 (omega arith)) refl)

heads-words : (n : ℕ) (ws : List ℕ) → 12 * n ≤ length ws → only_heads (heads_at n ws) (drop (12 * n) ws) ≡ ws
unfolding only_heads heads_at
heads-words zero ws h = refl
heads-words (suc n) ws h =
    let e : 12 * suc n ≡ 12 + 12 * n = omega arith in
    let l : length (drop 12 ws) ≡ length ws - 12 = length-drop 12 ws in
    rw (e, ← (drop-drop (12 * n) 12 ws), heads-words n (drop 12 ws) (omega arith)) (head-words ws (omega arith))

pub heads_at-length : (n : ℕ) (ws : List ℕ) → length (heads_at n ws) ≡ n
unfolding heads_at
heads_at-length zero ws = refl
heads_at-length (suc n) ws = ap suc (heads_at-length n (drop 12 ws))

rows_at-length : (hs : List Head) (ws : List ℕ) → length (rows_at hs ws) ≡ length hs
unfolding rows_at
rows_at-length [] ws = refl
rows_at-length (h ∷ hs) ws = ap suc (rows_at-length hs (drop (2 * h.items) ws))

-- as many rows as word 0 says
pub rows-length : (ws : List ℕ) → length (rows_in ws) ≡ get_or ws 0 0
unfolding rows_in heads_in
rows-length ws = rows_at-length (heads_at (get_or ws 0 0) (drop 1 ws)) (drop (1 + 12 * get_or ws 0 0) ws) ∙ heads_at-length (get_or ws 0 0) (drop 1 ws)

pub entries_at-length : (n : ℕ) (ws : List ℕ) → length (entries_at n ws) ≡ n
unfolding entries_at
entries_at-length zero ws = refl
entries_at-length (suc n) ws = ap suc (entries_at-length n (drop 2 ws))

rows_at-counted : (hs : List Head) (ws : List ℕ) → Counted (rows_at hs ws)
unfolding rows_at
rows_at-counted [] ws = tt
rows_at-counted (h ∷ hs) ws = (sym (entries_at-length h.items ws), rows_at-counted hs (drop (2 * h.items) ws))

pub rows-counted : (ws : List ℕ) → Counted (rows_in ws)
unfolding rows_in
rows-counted ws = rows_at-counted (heads_in ws) (drop (1 + 12 * get_or ws 0 0) ws)

-- what exact words say of their number
pub record Exactly (ws : List ℕ) : Type 0 where
  pub least : 1 ≤ get_or ws 0 0
  pub most : get_or ws 0 0 ≤ 4
  pub size : length ws ≡ 1 + 12 * get_or ws 0 0 + 2 * items_said (heads_in ws)

pub exactly : (ws : List ℕ) → T (exact_words ws) → Exactly ws
unfolding exact_words
exactly ws t = search (and_left, and_right, leb→le, eqb→eq)

pub words-in : (ws : List ℕ) → T (exact_words ws) → table_words (rows_in ws) ≡ ws
unfolding table_words rows_in heads_in
words-in ws t =
    let x : Exactly ws = exactly ws t in
    let n : ℕ = get_or ws 0 0 in
    let e : 1 + 12 * n ≡ suc (12 * n) = omega arith in
    let hs : List Head = heads_at n (drop 1 ws) in
    let body : List ℕ = drop (1 + 12 * n) ws in
    let d : body ≡ drop (12 * n) (drop 1 ws) = sym (drop-drop (12 * n) 1 ws) in
    let lb : length body ≡ length ws - (1 + 12 * n) = length-drop (1 + 12 * n) ws in
    let l1 : length (drop 1 ws) ≡ length ws - 1 = length-drop 1 ws in
    let b : bodies_words (rows_at hs body) [] ≡ body = bodies-words hs body (omega (arith, x.size)) in
    let h : heads_words (rows_at hs body) body ≡ drop 1 ws =
    heads-only (rows_at hs body) body ∙ rw (rows-heads hs body, d) (heads-words n (drop 1 ws) (omega (arith, x.size))) in
    rw (rows_at-length hs body, heads_at-length n (drop 1 ws), b, h) (sym (drop-cons ws 0 0 (omega (arith, x.size))))
