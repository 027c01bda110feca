-- The words of a section's items: where they stand, and what the table rules say of them.
-- Assumes nothing.
use Prim.Native.Nat.{ℕ, zero, suc, ◌+◌, ◌-◌, ◌*◌, ◌≤◌, ◌<◌}
use native.Mathlib.Omega.{arith}
use mathlib.Core.Path.{◌≡◌, refl, sym, ap, ◌∙◌}
use mathlib.Core.Bool.{true}
use mathlib.Core.List.{List, [], ◌∷◌}
use lib.Dec.{T}
use lib.ListN.{length, get_or, drop, take, length-take, length-drop}
use lib.Seq.{drop-drop}
use Rattle.lists.specs.Lists.{every, any}
use Rattle.lists.proofs.Bools.{and_left, and_right}
use Rattle.formats.specs.Items.{Section, item_allowed, is_exponent, is_solidus, kind_of, exponent_fits, fraction_fits, items_fit}
use Rattle.formats.specs.WellFormed.{grouping_fits}
use Rattle.formats.proofs.Cutting.{ExponentRules, exponent-rules, FractionRules, fraction-rules}
use Rattle.tables.specs.Words.{Head, Row, head_at, entries_at, entries_in, rows_at, heads_in, rows_in, items_said}
use Rattle.tables.specs.Decode.{section_at}
use Rattle.tables.specs.Rules.{passes}
use Rattle.tables.proofs.Words.{rows-length, entries-part, Exactly, exactly}
use Rattle.tables.proofs.Ranges.{head-ranges}
use Rattle.tables.proofs.MadeHeads.{Within, within-limits}
use Rattle.tables.proofs.Back.{RowFacts, row-facts}
use Rattle.tables.proofs.Promise.{passing}
use Rattle.table_words.specs.Sections.{section_in, items_start, ItemsOf}
use Rattle.table_words.proofs.Heads.{row_in, head-row, section-row, row_fits_lem}

-- the items of the first i rows
unfoldable before : ℕ → List Row → ℕ
before zero rs = 0
before (suc i) [] = 0
before (suc i) (r ∷ rs) = r.head.items + before i rs

before-step : (i : ℕ) (rs : List Row) (d : Row) → i < length rs → before (suc i) rs ≡ before i rs + (get_or rs i d).head.items
unfolding before
before-step i [] d h = absurd (omega arith)
before-step zero (r ∷ rs) d h = omega arith
before-step (suc i) (r ∷ rs) d h = omega (arith, before-step i rs d (omega arith))

before-most : (i : ℕ) (hs : List Head) (ws : List ℕ) → before i (rows_at hs ws) ≤ items_said hs
unfolding rows_at items_said before
before-most zero hs ws = omega arith
before-most (suc i) [] ws = omega arith
before-most (suc i) (h ∷ hs) ws = omega (arith, before-most i hs (drop (2 * h.items) ws))

rows-entries : (hs : List Head) (ws : List ℕ) (i : ℕ) (r : Row) → i < length (rows_at hs ws)
    → (get_or (rows_at hs ws) i r).entries ≡ entries_at (get_or (rows_at hs ws) i r).head.items (drop (2 * before i (rows_at hs ws)) ws)
unfolding rows_at before
rows-entries [] ws i r h = absurd (omega arith)
rows-entries (x ∷ hs) ws zero r h = refl
rows-entries (x ∷ hs) ws (suc i) r h =
    let rest : List ℕ = drop (2 * x.items) ws in
    let b : ℕ = before i (rows_at hs rest) in
    let e : 2 * x.items + 2 * b ≡ 2 * (x.items + b) = omega arith in
    rows-entries hs rest i r (omega arith)
    ∙ ap (entries_at (get_or (rows_at hs rest) i r).head.items) (drop-drop (2 * b) (2 * x.items) ws ∙ ap (λ (k : ℕ). drop k ws) e)

row_step : (ws : List ℕ) (i : ℕ) → i < get_or ws 0 0 → before (suc i) (rows_in ws) ≡ before i (rows_in ws) + (row_in ws i).head.items
row_step ws i h = before-step i (rows_in ws) _ (rw (rows-length ws) h)

items-row : (ws : List ℕ) (i : ℕ) → i < get_or ws 0 0 → (head_at (drop (1 + 12 * i) ws)).items ≡ (row_in ws i).head.items
items-row ws i h = ap (λ (x : Head). x.items) (head-row ws i h)

start_is : (ws : List ℕ) (i : ℕ) → i ≤ get_or ws 0 0 → items_start ws i ≡ 1 + 12 * get_or ws 0 0 + 2 * before i (rows_in ws)
unfolding items_start before
start_is ws zero h = omega arith
start_is ws (suc i) h = omega (arith, start_is ws i (omega arith), items-row ws i (omega arith), row_step ws i (omega arith))

row-entries : (ws : List ℕ) (i : ℕ) → i < get_or ws 0 0 → (row_in ws i).entries ≡ entries_at (row_in ws i).head.items (drop (items_start ws i) ws)
unfolding rows_in
row-entries ws i h =
    let s : ℕ = 1 + 12 * get_or ws 0 0 in
    let b : ℕ = before i (rows_in ws) in
    rows-entries (heads_in ws) (drop s ws) i _ (rw (rows-length ws) h)
    ∙ ap (entries_at (row_in ws i).head.items) (drop-drop (2 * b) s ws ∙ ap (λ (k : ℕ). drop k ws) (sym (start_is ws i (omega arith))))

-- ---- what the table rules say of section i: a section of its kind may hold its items, and they are within the limits
items-allowed : (s : Section) → T (items_fit s.items) → T (every (item_allowed (kind_of s)) s.items)
unfolding items_fit kind_of
items-allowed s f = search (and_left)

items-exponent : (s : Section) → T (items_fit s.items) → T (exponent_fits s.items)
unfolding items_fit
items-exponent s f = search (and_left, and_right)

items-fraction : (s : Section) → T (items_fit s.items) → T (fraction_fits s.items)
unfolding items_fit
items-fraction s f = search (and_right)

module _ (ws : List ℕ) (i : ℕ) (t : T (passes ws)) (l : i < get_or ws 0 0) where
  facts : RowFacts (row_in ws i)
  facts = row-facts (row_in ws i) (row_fits_lem ws i t l)

  pub section-allowed : T (every (item_allowed (kind_of (section_in ws i))) (section_in ws i).items)
  section-allowed = rw (section-row ws i l) (items-allowed (section_at (row_in ws i)) facts.items)

  pub section-limits : Within (section_in ws i)
  section-limits = rw (section-row ws i l) (within-limits (section_at (row_in ws i)) facts.within)

  -- the rules for its E where it has one, for its solidus where it has one, and for grouping
  pub section-exponent : any is_exponent (section_in ws i).items ≡ true → ExponentRules (section_in ws i).items
  section-exponent some =
      exponent-rules (section_in ws i).items some (rw (section-row ws i l) (items-exponent (section_at (row_in ws i)) facts.items))

  pub section-fraction : any is_solidus (section_in ws i).items ≡ true → FractionRules (section_in ws i).items
  section-fraction some =
      fraction-rules (section_in ws i).items some (rw (section-row ws i l) (items-fraction (section_at (row_in ws i)) facts.items))

  pub section-grouping : T (grouping_fits (section_in ws i))
  section-grouping = rw (section-row ws i l) facts.grouping

-- ---- the words from `start` on, as many as the head of section i says, as the code takes them
module _ (ws : List ℕ) (i : ℕ) {start : ℕ} {h : Head} (t : T (passes ws)) (l : i < get_or ws 0 0) (es : start ≡ items_start ws i)
    (eh : h ≡ head_at (drop (1 + 12 * i) ws)) where
  count : h.items ≡ (row_in ws i).head.items
  count = ap (λ (x : Head). x.items) eh ∙ items-row ws i l

  pub part-within : start + 2 * h.items ≤ length ws
  unfolding rows_in
  part-within =
      let x : Exactly ws = exactly ws (passing ws t).exact in
      let m = before-most (suc i) (heads_in ws) (drop (1 + 12 * get_or ws 0 0) ws) in
      omega (arith, x.size, m, row_step ws i l, start_is ws i (omega arith), count, es)

  abbrev part : List ℕ
  part = take (start + 2 * h.items - start) (drop start ws)

  part-entries : entries_in part ≡ (row_in ws i).entries
  part-entries =
      let e : start + 2 * h.items - start ≡ 2 * (row_in ws i).head.items = omega (arith, count) in
      let d : length (drop start ws) ≡ length ws - start = length-drop start ws in
      rw e (entries-part (row_in ws i).head.items (drop start ws) (omega (arith, part-within, count)))
      ∙ ap (λ (k : ℕ). entries_at (row_in ws i).head.items (drop k ws)) es ∙ sym (row-entries ws i l)

  row-items : (words : List ℕ) (r : Row) → RowFacts r → length words ≤ 508 → entries_in words ≡ r.entries → ItemsOf (section_at r) words
  unfolding section_at
  row-items words r f few e =
      record {
        few = few;
        items = rw e;
        in_range = rw e f.entries;
        allowed = rw e (items-allowed (section_at r) f.items);
        powers = rw e f.powers;
      }

  pub part-items : ItemsOf (section_in ws i) part
  part-items =
      rw (section-row ws i l)
      (row-items part (row_in ws i) (facts ws i t l) (rw (length-take (start + 2 * h.items - start) (drop start ws)) (omega (arith, count, (head-ranges (row_in ws i).head (facts ws i t l).head).items)))
      part-entries)

-- ---- the loop that finds where the words begin, before section k
pub record Starting (ws : List ℕ) (i k start : ℕ) : Type 0 where
  pub good : T (passes ws)
  pub inside : k ≤ i
  pub last : i < get_or ws 0 0
  pub is : start ≡ items_start ws k

pub starting-start : (ws : List ℕ) (i n : ℕ) → T (passes ws) → i < get_or ws 0 0 → n ≡ get_or ws 0 0 → Starting ws i 0 (1 + 12 * n)
unfolding items_start
starting-start ws i n t h e = record { good = t; inside = omega arith; last = h; is = rw e }

module _ {ws : List ℕ} {i k start : ℕ} {h : Head} (s : Starting ws i k start) (l : k < i) (e : h ≡ head_at (drop (1 + 12 * k) ws)) where
  pub starting-within : start + 2 * h.items ≤ length ws
  starting-within = part-within ws k s.good (omega (arith, s.last)) s.is e

  pub starting-step : Starting ws i (k + 1) (start + 2 * h.items)
  unfolding items_start
  starting-step =
      let n : k + 1 ≡ suc k = omega arith in
      rw n (record { good = s.good; inside = omega arith; last = s.last; is = rw (s.is, e) })

pub starting-end : {ws : List ℕ} {i k start : ℕ} → Starting ws i k start → i ≤ k → start ≡ items_start ws i
starting-end {ws} {i} {k} s h =
    let j = s.inside in
    let e : k ≡ i = omega arith in
    s.is ∙ ap (items_start ws) e
