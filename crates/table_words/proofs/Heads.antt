-- The words of heads by their places: the head of section i begins at word 1 + 12 * i, and is the one that the section has.
-- Assumes nothing.
use Prim.Native.Nat.{ℕ, zero, suc, ◌+◌, ◌*◌, ◌/◌, ◌%◌, ◌≤◌, ◌<◌}
use native.Mathlib.Omega.{arith}
use mathlib.Core.Path.{◌≡◌, refl, sym, ap, ◌∙◌}
use mathlib.Core.Bool.{Bool, true, false, not}
use mathlib.Core.List.{List, [], ◌∷◌, map}
use mathlib.Core.Option.{Option, none, some}
use lib.ListN.{length, get_or, drop, length-map}
use lib.Seq.{drop-drop, get_or-drop}
use lib.Dec.{T, ltb, eqb}
use borrow.Author.Tests.{lt-ltb, le-ltb}
use Rattle.lists.specs.Lists.{is_some}
use Rattle.lists.proofs.Tables.{get_or-every, get_d_map}
use Rattle.lists.proofs.First.{pass_all}
use Rattle.formats.specs.Items.{Section}
use Rattle.formats.specs.Where.{stands_at}
use Rattle.formats.specs.WellFormed.{all_stand}
use Rattle.formats.specs.Choice.{counted}
use Rattle.formats.specs.Minus.{first_has_condition}
use Rattle.tables.specs.Words.{Head, Row, head_at, heads_at, rows_at, heads_in, rows_in}
use Rattle.tables.specs.Encode.{bit, flags_word, row_of, rows_from}
use Rattle.tables.specs.Decode.{two_words, section_at, decode}
use Rattle.tables.specs.Rules.{head_in_range, row_fits, passes}
use Rattle.tables.proofs.Words.{rows-counted, rows-length, Exactly, exactly}
use Rattle.tables.proofs.MadeHeads.{bit-most, bit-back}
use Rattle.tables.proofs.Back.{row-facts, rows_back}
use Rattle.tables.proofs.Promise.{Passing, passing}
use Rattle.table_words.specs.Sections.{no_section, section_in, head_in}

-- ---- the words of the head at a place
pub head_read : (ws : List ℕ) (a : ℕ) → (record {
  kind = get_or ws a 0;
  colour = get_or ws (a + 1) 0;
  operator = get_or ws (a + 2) 0;
  negative = get_or ws (a + 3) 0;
  whole_low = get_or ws (a + 4) 0;
  whole_high = get_or ws (a + 5) 0;
  millionths_low = get_or ws (a + 6) 0;
  millionths_high = get_or ws (a + 7) 0;
  shift = get_or ws (a + 8) 0;
  flags = get_or ws (a + 9) 0;
  decimals = get_or ws (a + 10) 0;
  items = get_or ws (a + 11) 0;
}) ≡ head_at (drop a ws)
unfolding head_at
head_read ws a =
    let nought : a + 0 ≡ a = omega arith in
    rw (get_or-drop a ws 0 0, get_or-drop a ws 1 0, get_or-drop a ws 2 0, get_or-drop a ws 3 0, get_or-drop a ws 4 0, get_or-drop a ws 5 0, get_or-drop a ws 6 0, get_or-drop a ws 7 0, get_or-drop a ws 8 0, get_or-drop a ws 9 0, get_or-drop a ws 10 0, get_or-drop a ws 11 0, nought)

pub two-words : (low high : ℕ) → low + 65536 * high ≡ two_words low high
unfolding two_words
two-words low high = refl

heads-place : (n : ℕ) (ws : List ℕ) (i : ℕ) (d : Head) → i < n → get_or (heads_at n ws) i d ≡ head_at (drop (12 * i) ws)
unfolding heads_at
heads-place zero ws i d h = absurd (omega arith)
heads-place (suc n) ws zero d h = refl
heads-place (suc n) ws (suc i) d h =
    let e : 12 * suc i ≡ 12 + 12 * i = omega arith in
    heads-place n (drop 12 ws) i d (omega arith) ∙ rw (e, ← (drop-drop (12 * i) 12 ws))

rows-place : (hs : List Head) (ws : List ℕ) (i : ℕ) (r : Row) → (get_or (rows_at hs ws) i r).head ≡ get_or hs i r.head
unfolding rows_at
rows-place [] ws i r = refl
rows-place (h ∷ hs) ws zero r = refl
rows-place (h ∷ hs) ws (suc i) r = rows-place hs (drop (2 * h.items) ws) i r

abbrev no_row : Row
no_row = record { head = head_at []; entries = [] }

-- row i of a table
abbrev pub row_in : List ℕ → ℕ → Row
row_in ws i = get_or (rows_in ws) i no_row

pub head-row : (ws : List ℕ) (i : ℕ) → i < get_or ws 0 0 → head_at (drop (1 + 12 * i) ws) ≡ (row_in ws i).head
unfolding rows_in heads_in
head-row ws i h =
    let n : ℕ = get_or ws 0 0 in
    sym (rows-place (heads_at n (drop 1 ws)) (drop (1 + 12 * n) ws) i no_row
    ∙ heads-place n (drop 1 ws) i no_row.head h
    ∙ ap head_at (drop-drop (12 * i) 1 ws))

-- ---- as many sections as word 0 says, and words for the head of each
pub sections-length : (ws : List ℕ) → length (decode ws) ≡ get_or ws 0 0
unfolding decode
sections-length ws = length-map (rows_in ws) section_at ∙ rows-length ws

pub record Long (ws : List ℕ) : Type 0 where
  pub least : 1 ≤ get_or ws 0 0
  pub most : get_or ws 0 0 ≤ 4
  pub words : 1 + 12 * get_or ws 0 0 ≤ length ws

pub long : (ws : List ℕ) → T (passes ws) → Long ws
long ws t =
    let x : Exactly ws = exactly ws (passing ws t).exact in
    record { least = x.least; most = x.most; words = omega (arith, x.size) }

pub head-within : (ws : List ℕ) (i : ℕ) → T (passes ws) → i < get_or ws 0 0 → (i ≤ 3) × (13 + 12 * i ≤ length ws)
head-within ws i t h = let x : Long ws = long ws t in (omega arith, omega arith)

-- ---- section i, from row i, and row i from section i
pub section-row : (ws : List ℕ) (i : ℕ) → i < get_or ws 0 0 → section_in ws i ≡ section_at (row_in ws i)
unfolding section_in decode
section-row ws i h = get_d_map section_at (rows_in ws) i no_row no_section (rw (rows-length ws) h)

pub row_fits_lem : (ws : List ℕ) (i : ℕ) → T (passes ws) → i < get_or ws 0 0 → T (row_fits (row_in ws i))
row_fits_lem ws i t h = get_or-every row_fits (rows_in ws) i no_row (rw (rows-length ws) h) (passing ws t).rows

rows_made : (n i : ℕ) (first_has : Bool) (ss : List Section) (k : ℕ) (r : Row) (s : Section) → k < length ss
    → get_or (rows_from n i first_has ss) k r ≡ row_of n (i + k) first_has (get_or ss k s)
unfolding rows_from
rows_made n i first_has [] k r s h = absurd (omega arith)
rows_made n i first_has (x ∷ ss) zero r s h = ap (λ (j : ℕ). row_of n j first_has x) (zeroth i)
  where
    zeroth : (j : ℕ) → j ≡ j + 0
    zeroth j = omega arith
rows_made n i first_has (x ∷ ss) (suc k) r s h =
    let e : suc i + k ≡ i + suc k = omega arith in
    rows_made n (suc i) first_has ss k r s (omega arith) ∙ ap (λ (j : ℕ). row_of n j first_has (get_or ss k s)) e

row_made : (ws : List ℕ) (i : ℕ) → T (passes ws) → i < get_or ws 0 0
    → row_in ws i ≡ row_of (counted (decode ws)) i (first_has_condition (decode ws)) (section_in ws i)
unfolding section_in decode
row_made ws i t h =
    let p : Passing ws = passing ws t in
    let n : ℕ = counted (decode ws) in
    let f : Bool = first_has_condition (decode ws) in
    let e : rows_from n 0 f (map section_at (rows_in ws)) ≡ rows_in ws =
    rows_back n 0 f (rows_in ws) (rows-counted ws) p.rows p.flags in
    let z : 0 + i ≡ i = omega arith in
    ap (λ (rs : List Row). get_or rs i no_row) (sym e)
    ∙ rows_made n 0 f (map section_at (rows_in ws)) i no_row no_section (rw (sections-length ws) h)
    ∙ ap (λ (j : ℕ). row_of n j f (get_or (decode ws) i no_section)) z

-- the words of head i are those of section i
pub head-made : (ws : List ℕ) (i : ℕ) {h : Head} → T (passes ws) → i < get_or ws 0 0 → h ≡ head_at (drop (1 + 12 * i) ws)
    → (h ≡ head_in ws i) × T (head_in_range h)
unfolding row_of
head-made ws i {h} t l e =
    let r : h ≡ (row_in ws i).head = e ∙ head-row ws i l in
    (r ∙ ap (λ (x : Row). x.head) (row_made ws i t l), rw r (row-facts (row_in ws i) (row_fits_lem ws i t l)).head)

-- ---- the flags of section i
pub twelve-told : (grouping minus twelve : Bool) → ltb 3 (flags_word grouping minus twelve) ≡ twelve
unfolding flags_word bit
twelve-told g m true = lt-ltb 3 (bit g + 2 * bit m + 4 * 1) (omega arith)
twelve-told g m false = le-ltb 3 (bit g + 2 * bit m + 4 * 0) (omega (arith, bit-most g, bit-most m))

pub minus-told : (grouping minus twelve : Bool) → eqb (flags_word grouping minus twelve / 2 % 2) 1 ≡ minus
unfolding flags_word
minus-told g m t =
    let e : (bit g + 2 * bit m + 4 * bit t) / 2 % 2 ≡ bit m = omega (arith, bit-most g, bit-most m) in
    rw e (bit-back m)

-- ---- where section i stands
is_none : (o : Option ℕ) → T (not (is_some o)) → o ≡ none
unfolding is_some
is_none none t = refl
is_none (some x) t = absurd t

pub section-stands : (ws : List ℕ) (i : ℕ) → T (passes ws) → i < get_or ws 0 0 → stands_at (length (decode ws)) i (section_in ws i) ≡ true
unfolding all_stand section_in
section-stands ws i t h =
    pass_all (stands_at (length (decode ws))) no_section (decode ws) (is_none _ (passing ws t).stand) i (rw (sections-length ws) h)
