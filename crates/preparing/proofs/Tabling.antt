-- The table's words: those of the heads and of the items are those of the sections' rows.
-- Assumes nothing.
use Prim.Native.Nat.{ℕ, suc, ◌+◌, ◌*◌, ◌≤◌, ◌<◌}
use native.Mathlib.Omega.{arith}
use native.Mathlib.Numerals.{add-one}
use mathlib.Core.Path.{◌≡◌, refl, sym, ◌∙◌, ap}
use mathlib.Core.Bool.{Bool, true, false}
use mathlib.Core.List.{List, [], ◌∷◌, ◌++◌, map}
use lib.ListN.{length, take, drop, get_or, length-map, drop_of_length-le}
use lib.Seq.{drop-cons, length-take-le}
use lib.Dec.{T}
use Rattle.lists.specs.Lists.{every}
use Rattle.lists.proofs.Bools.{and_parts, T_true, every-head, every-tail}
use Rattle.formats.specs.Items.{Section}
use Rattle.formats.specs.Kinds.{Parts, section_of}
use Rattle.formats.specs.Limits.{written_within, section_within, within_limits}
use Rattle.formats.specs.Choice.{counted_from, counted}
use Rattle.formats.specs.Minus.{first_has_condition, exception_a}
use Rattle.tables.specs.Words.{Head, head_words, heads_words, bodies_words, table_words}
use Rattle.std.specs.Int.{from_bool}
use Rattle.tables.specs.Encode.{bit, flags_word, has_half, head_of, no_minus, row_of, rows_from, rows_of, encode}
use Rattle.tables.proofs.Words.{entries-append}
use Rattle.tables.proofs.Promise.{rows-many}
use Rattle.tables.proofs.Standing.{section_kind, counted-kinds}
use Rattle.writing.specs.Put.{Put, Rest}
use Rattle.writing.proofs.Laws.{put-put, rest-start, rest_put, rest-done}
use Rattle.drafting.specs.declared.Draft.{Draft}
use Rattle.drafting.specs.Draft.{body_words, DraftOf, Drafted, item_words, has_condition_by}
use Rattle.preparing.specs.Table.{draft_kind, counted_by, head_by, heads_by, first_has_by, table_by}
use Rattle.examining.proofs.Refusing.{condition-same, drafted-enough}

-- ---- a head's bits
pub bit-byte : (b : Bool) → from_bool b ≡ bit b
unfolding bit
bit-byte true = refl
bit-byte false = refl

pub flags-add : (g m t : Bool) {a b c : ℕ} → a ≡ from_bool g → b ≡ from_bool m → c ≡ from_bool t → 1 * a + 2 * b + 4 * c ≡ flags_word g m t
unfolding flags_word
flags-add g m t e f h = rw (e, f, h, bit-byte g, bit-byte m, bit-byte t) (omega arith)

-- ---- the loop over the heads
pub record Heading (n : ℕ) (first_has : Bool) (old : List ℕ) (start : ℕ) (ds : List Draft) (room : List ℕ) (at i : ℕ) : Type 0 where
  pub near : at ≡ start + 12 * i
  pub rest : Rest old start (heads_by n first_has 0 ds) room at (heads_by n first_has i (drop i ds))

pub heading-start : (n : ℕ) (first_has : Bool) (old : List ℕ) (start : ℕ) (ds : List Draft) → Heading n first_has old start ds old start 0
heading-start n first_has old start ds = record { near = omega arith; rest = rest-start old start _ }

module _ {n : ℕ} {first_has : Bool} {old : List ℕ} {start : ℕ} {ds : List Draft} {room : List ℕ} {at i : ℕ}
    (inv : Heading n first_has old start ds room at i) where
  pub heading-step : (d : Draft) → i < length ds → (out : List ℕ) (r : ℕ) → Put room at (head_words (head_by n i first_has (get_or ds i d)) []) r out
      → Heading n first_has old start ds out r (i + 1)
  unfolding heads_by head_words
  heading-step d h out r put = record {
    near = omega (arith, put.next, inv.near);
    rest = rw (add-one i) (rw (add-one i) at (rest_put (rw (drop-cons ds i d h) at inv.rest) put));
  }

  pub heading-end : length ds ≤ i → Put old start (heads_by n first_has 0 ds) at room
  unfolding heads_by
  heading-end h = rest-done (rw (drop_of_length-le ds h) at inv.rest)

-- ---- the whole table
pub heads-size : (n : ℕ) (first_has : Bool) (i : ℕ) (ds : List Draft) → length (heads_by n first_has i ds) ≡ 12 * length ds
unfolding heads_by head_words
heads-size n first_has i [] = refl
heads-size n first_has i (d ∷ ds) = omega (arith, heads-size n first_has (i + 1) ds)

pub table-put : (many : ℕ) (first : Bool) (ds : List Draft) (words : List ℕ) {l m o q : List ℕ} {at a b r : ℕ}
    → many ≡ counted_by 0 ds → first ≡ first_has_by ds
    → Put l at (length ds ∷ []) a m → Put m a (heads_by many first 0 ds) b o → Put o b words r q → Put l at (table_by ds words) r q
unfolding table_by
table-put many first ds words e f x y z = rw (← e, ← f) (put-put (put-put x y) z)

-- ---- the rows
module _ (p : Parts) (d : Draft) (x : DraftOf p d) (within : T (within_limits p)) where
  told : d.within ≡ true
  told = x.within ∙ T_true _ within

  body-told : d.body.within ≡ true
  unfolding within_limits
  body-told = x.body.within ∙ (and_parts (written_within p.condition) (section_within (section_of p)) (T_true _ within)).1

  flags-same : (n i : ℕ) (first_has : Bool)
      → flags_word d.body.grouped (exception_a n i (has_condition_by d) first_has) d.body.twelve
      ≡ flags_word (section_of p).grouped (no_minus n i first_has (section_of p)) (has_half (section_of p).items)
  unfolding no_minus
  flags-same n i first_has = rw (condition-same p d x, x.body.grouped, x.body.twelve)

  head-same : (n i : ℕ) (first_has : Bool) → head_by n i first_has d ≡ head_of n i first_has (section_of p)
  unfolding head_by head_of section_of
  head-same n i first_has = λ j.
      record {
        kind = x.body.kind j;
        colour = x.colour j;
        operator = x.operator j;
        negative = x.negative told j;
        whole_low = x.whole_low told j;
        whole_high = x.whole_high told j;
        millionths_low = x.millionths_low told j;
        millionths_high = x.millionths_high told j;
        shift = x.body.shift body-told j;
        flags = flags-same n i first_has j;
        decimals = x.body.decimals j;
        items = x.body.items j;
      }

abbrev AllWithin : List Parts → Type 0
AllWithin ps = T (every within_limits ps)

heads-same : (n i : ℕ) (first_has : Bool) (ps : List Parts) (ds : List Draft) (ws : List ℕ) → Drafted ps ds → AllWithin ps
    → heads_by n first_has i (take (length ps) ds) ++ ws ≡ heads_words (rows_from n i first_has (map section_of ps)) ws
unfolding heads_by heads_words head_words rows_from row_of
heads-same n i first_has [] ds ws h w = refl
heads-same n i first_has (p ∷ ps) [] ws h w = absurd h
heads-same n i first_has (p ∷ ps) (d ∷ ds) ws h w =
    ap (λ (k : Head). head_words k (heads_by n first_has (i + 1) (take (length ps) ds) ++ ws)) (head-same p d h.0 (every-head within_limits p ps w) n i first_has)
    ∙ ap (head_words (head_of n i first_has (section_of p))) (rw (← (add-one i)) (heads-same n (i + 1) first_has ps ds ws h.1 (every-tail within_limits p ps w)))

bodies-same : (n i : ℕ) (first_has : Bool) (ps : List Parts) → bodies_words (rows_from n i first_has (map section_of ps)) [] ≡ item_words ps
unfolding bodies_words rows_from row_of item_words section_of
bodies-same n i first_has [] = refl
bodies-same n i first_has (p ∷ ps) = entries-append _ _ ∙ ap (λ (ws : List ℕ). body_words p.body ++ ws) (bodies-same n (suc i) first_has ps)

kinds-same : (ps : List Parts) (ds : List Draft) → Drafted ps ds → map draft_kind (take (length ps) ds) ≡ map section_kind (map section_of ps)
kinds-same [] ds h = refl
kinds-same (p ∷ ps) [] h = absurd h
kinds-same (p ∷ ps) (d ∷ ds) h = rw (h.0.body.kind, kinds-same ps ds h.1)

counted_same : (ps : List Parts) (ds : List Draft) → Drafted ps ds → counted_by 0 (take (length ps) ds) ≡ counted_from 0 (map section_of ps)
counted_same ps ds h = rw (kinds-same ps ds h) (sym (counted-kinds 0 (map section_of ps)))

first-same : (ps : List Parts) (ds : List Draft) → 1 ≤ length ps → Drafted ps ds → first_has_by (take (length ps) ds) ≡ first_has_condition (map section_of ps)
unfolding first_has_condition first_has_by
first-same [] ds l h = absurd (omega arith)
first-same (p ∷ ps) [] l h = absurd h
first-same (p ∷ ps) (d ∷ ds) l h = condition-same p d h.0

-- the words of drafts and items are the table of the sections
pub table_same : (ps : List Parts) (ds : List Draft) → 1 ≤ length ps → Drafted ps ds → AllWithin ps
    → table_by (take (length ps) ds) (item_words ps) ≡ encode (map section_of ps)
unfolding table_by encode table_words rows_of counted
table_same ps ds l h w =
    let ss : List Section = map section_of ps in
    let c : ℕ = counted_from 0 ss in
    let f : Bool = first_has_condition ss in
    rw (counted_same ps ds h, first-same ps ds l h, length-take-le (length ps) ds (drafted-enough ps ds h), rows-many c 0 f ss, bodies-same c 0 f ps, length-map ps section_of)
    (ap (λ (ws : List ℕ). length ps ∷ ws) (heads-same c 0 f ps ds (item_words ps) h w))
