-- The loops over the heads: what was found, and the heads that are left.
-- Assumes nothing.
use Prim.Native.Nat.{ℕ, suc, ◌+◌, ◌-◌, ◌*◌, ◌≤◌, ◌<◌}
use native.Mathlib.Omega.{arith}
use native.Mathlib.Nat.{sub-zero}
use mathlib.Core.Path.{◌≡◌, refl, sym, ◌∙◌, ap}
use mathlib.Core.Bool.{Bool, true, false, cond, ◌||◌}
use mathlib.Core.List.{List, [], ◌∷◌}
use lib.ListN.{length, get_or, drop, take, length-drop}
use lib.Seq.{drop-drop}
use lib.Dec.{eqb}
use Rattle.lists.specs.Lists.{every}
use Rattle.lists.proofs.Bools.{cond-self}
use Rattle.formats.specs.Minus.{exception_a}
use Rattle.tables.specs.Words.{Head, head_at, heads_at, entries_in, rows_at, heads_in, rows_in, items_said}
use Rattle.tables.specs.Standing.{counted_one, counted_kinds}
use Rattle.tables.proofs.Words.{entries-part, heads_at-length}
use Rattle.table_words.specs.declared.HeadWords.{HeadWords}
use Rattle.table_words.specs.Sections.{head_from}
use Rattle.checking.specs.Checking.{Sized, row_with, row_good, has_in, place_fits, places_from, places_fit, kinds_in, first_has_in}

-- the heads from the i-th on
abbrev pub left : List ℕ → ℕ → ℕ → List Head
left ws n i = heads_at (n - i) (drop (1 + 12 * i) ws)

pub left-front : (ws : List ℕ) (n i : ℕ) → i < n → left ws n i ≡ head_at (drop (1 + 12 * i) ws) ∷ left ws n (i + 1)
unfolding heads_at
left-front ws n i h =
    let one : n - i ≡ suc (n - (i + 1)) = omega arith in
    let two : 1 + 12 * (i + 1) ≡ 1 + 12 * i + 12 = omega arith in
    rw (one, two, drop-drop 12 (1 + 12 * i) ws)

left-start : (ws : List ℕ) (n : ℕ) → n ≡ get_or ws 0 0 → heads_in ws ≡ left ws n 0
unfolding heads_in
left-start ws n e = rw (sub-zero n, e)

left_end : (ws : List ℕ) (n i : ℕ) → n ≤ i → left ws n i ≡ []
unfolding heads_at
left_end ws n i h = let z : n - i ≡ 0 = omega arith in rw z

-- ---- the sum of the items
pub record Summing (ws : List ℕ) (n i sum : ℕ) : Type 0 where
  pub sections : n ≡ get_or ws 0 0
  pub most : n ≤ 4
  pub words : 1 + 12 * n ≤ length ws
  pub inside : i ≤ n
  pub small : sum ≤ 65535 * i
  pub same : items_said (heads_in ws) ≡ sum + items_said (left ws n i)

pub summing_start : (ws : List ℕ) (n : ℕ) → n ≡ get_or ws 0 0 → n ≤ 4 → 1 + 12 * n ≤ length ws → Summing ws n 0 0
summing_start ws n e m l =
    record {
      sections = e;
      most = m;
      words = l;
      inside = omega arith;
      small = omega arith;
      same = ap items_said (left-start ws n e) ∙ omega arith;
    }

module _ (ws : List ℕ) (n i sum : ℕ) (inv : Summing ws n i sum) where
  pub summing-step : (h : Head) → i < n → h ≡ head_at (drop (1 + 12 * i) ws) → h.items ≤ 65535 → Summing ws n (i + 1) (sum + h.items)
  unfolding items_said
  summing-step h l e m =
      let p : h.items ≡ (head_at (drop (1 + 12 * i) ws)).items = ap (λ (x : Head). x.items) e in
      let q : items_said (left ws n i) ≡ (head_at (drop (1 + 12 * i) ws)).items + items_said (left ws n (i + 1)) = ap items_said (left-front ws n i l) in
      record {
        sections = inv.sections;
        most = inv.most;
        words = inv.words;
        inside = omega arith;
        small = omega (arith, inv.small);
        same = omega (arith, inv.same, p, q);
      }

  pub summing-end : n ≤ i → (sum ≡ items_said (heads_in ws)) × (sum ≤ 262140)
  unfolding items_said
  summing-end l =
      let z : items_said (left ws n i) ≡ 0 = ap items_said (left_end ws n i l) in
      (omega (arith, inv.same, z), omega (arith, inv.small, inv.inside, inv.most))

-- ---- the rows
pub record Rowing (ws : List ℕ) (n i at : ℕ) : Type 0 where
  pub sized : Sized ws
  pub sections : n ≡ get_or ws 0 0
  pub inside : i ≤ n
  pub behind : at + 2 * items_said (left ws n i) ≡ length ws
  pub few : items_said (left ws n i) ≤ 254
  pub same : every row_good (rows_in ws) ≡ every row_good (rows_at (left ws n i) (drop at ws))

pub rowing_start : (ws : List ℕ) (n : ℕ) → Sized ws → n ≡ get_or ws 0 0 → Rowing ws n 0 (1 + 12 * n)
unfolding rows_in
rowing_start ws n s e =
    let heads : heads_in ws ≡ left ws n 0 = left-start ws n e in
    let said : items_said (heads_in ws) ≡ items_said (left ws n 0) = ap items_said heads in
    record {
      sized = s;
      sections = e;
      inside = omega arith;
      behind = omega (arith, s.words, said, e);
      few = omega (arith, s.items, said);
      same = rw (← e, heads);
    }

module _ (ws : List ℕ) (n i at : ℕ) (inv : Rowing ws n i at) where
  abbrev here : Head
  here = head_at (drop (1 + 12 * i) ws)

  -- the items of section i are within
  pub record Within (items : ℕ) : Type 0 where
    pub few : items ≤ 254
    pub words : at + 2 * items ≤ length ws
    pub said : items_said (left ws n i) ≡ items + items_said (left ws n (i + 1))

  module _ (l : i < n) where
    pub within : (h : Head) → h ≡ here → Within h.items
    unfolding items_said
    within h e =
        let p : h.items ≡ here.items = ap (λ (x : Head). x.items) e in
        let q : items_said (left ws n i) ≡ here.items + items_said (left ws n (i + 1)) = ap items_said (left-front ws n i l) in
        record {
          few = omega (arith, inv.few, p, q);
          words = omega (arith, inv.behind, p, q);
          said = omega (arith, p, q);
        }

    row-front : every row_good (rows_in ws)
        ≡ cond (row_good (row_with here (entries_in (take (2 * here.items) (drop at ws)))))
        (every row_good (rows_at (left ws n (i + 1)) (drop (at + 2 * here.items) ws))) false
    unfolding rows_at every
    row-front =
        let w : Within here.items = within here refl in
        let d : length (drop at ws) ≡ length ws - at = length-drop at ws in
        inv.same ∙ rw (left-front ws n i l, entries-part here.items (drop at ws) (omega arith), drop-drop (2 * here.items) at ws)

    module _ (h : Head) (e : h ≡ here) (m : ℕ) (k : m ≡ 2 * h.items) (b : Bool) (r : b ≡ row_good (row_with here (entries_in (take m (drop at ws))))) where
      told : row_good (row_with here (entries_in (take (2 * here.items) (drop at ws)))) ≡ b
      told =
          let j : m ≡ 2 * here.items = k ∙ ap (λ (x : Head). 2 * x.items) e in
          sym (r ∙ ap (λ (x : ℕ). row_good (row_with here (entries_in (take x (drop at ws))))) j)

      pub rowing-step : b ≡ true → Rowing ws n (i + 1) (at + 2 * h.items)
      rowing-step v =
          let w : Within h.items = within h e in
          let moved : every row_good (rows_at (left ws n (i + 1)) (drop (at + 2 * here.items) ws)) ≡ every row_good (rows_at (left ws n (i + 1)) (drop (at + 2 * h.items) ws)) =
          ap (λ (x : Head). every row_good (rows_at (left ws n (i + 1)) (drop (at + 2 * x.items) ws))) (sym e) in
          record {
            sized = inv.sized;
            sections = inv.sections;
            inside = omega arith;
            behind = omega (arith, inv.behind, w.said);
            few = omega (arith, inv.few, w.said);
            same = row-front ∙ rw (told, v) moved;
          }

      pub rowing-fails : b ≡ false → false ≡ every row_good (rows_in ws)
      rowing-fails v = sym (row-front ∙ rw (told, v))

  pub rowing-end : n ≤ i → true ≡ every row_good (rows_in ws)
  unfolding every rows_at
  rowing-end l = sym (inv.same ∙ rw (left_end ws n i l))

-- ---- N
pub record Counting (ws : List ℕ) (n i counted : ℕ) : Type 0 where
  pub sized : Sized ws
  pub sections : n ≡ get_or ws 0 0
  pub inside : i ≤ n
  pub few : counted ≤ i
  pub same : counted_kinds 0 (kinds_in (heads_in ws)) ≡ counted + counted_kinds i (kinds_in (left ws n i))

pub counting-start : (ws : List ℕ) (n : ℕ) → Sized ws → n ≡ get_or ws 0 0 → Counting ws n 0 0
counting-start ws n s e =
    record {
      sized = s;
      sections = e;
      inside = omega arith;
      few = omega arith;
      same = ap (λ (hs : List Head). counted_kinds 0 (kinds_in hs)) (left-start ws n e) ∙ omega arith;
    }

pub one-most : (i kind : ℕ) → counted_one i kind ≤ 1
unfolding counted_one
one-most i kind = go (eqb kind 3 || eqb i 3)
  where
    go : (b : Bool) → cond b 0 1 ≤ 1
    go true = omega arith
    go false = omega arith

module _ (ws : List ℕ) (n i counted : ℕ) (inv : Counting ws n i counted) where
  pub counting-step : (h : HeadWords) (d : ℕ) → i < n → head_from h ≡ head_at (drop (1 + 12 * i) ws) → d ≡ counted_one i h.kind → Counting ws n (i + 1) (counted + d)
  unfolding counted_kinds
  counting-step h d l e f =
      let p : d ≡ counted_one i (head_at (drop (1 + 12 * i) ws)).kind = f ∙ ap (λ (x : Head). counted_one i x.kind) e in
      let q : counted_kinds i (kinds_in (left ws n i)) ≡ counted_one i (head_at (drop (1 + 12 * i) ws)).kind + counted_kinds (i + 1) (kinds_in (left ws n (i + 1))) = ap (λ (hs : List Head). counted_kinds i (kinds_in hs)) (left-front ws n i l) in
      record {
        sized = inv.sized;
        sections = inv.sections;
        inside = omega arith;
        few = omega (arith, inv.few, f, one-most i h.kind);
        same = omega (arith, inv.same, p, q);
      }

  pub counting-end : n ≤ i → counted ≡ counted_kinds 0 (kinds_in (heads_in ws))
  unfolding counted_kinds
  counting-end l =
      let z : counted_kinds i (kinds_in (left ws n i)) ≡ 0 = ap (λ (hs : List Head). counted_kinds i (kinds_in hs)) (left_end ws n i l) in
      omega (arith, inv.same, z)

-- ---- where the sections stand
pub record Placing (ws : List ℕ) (n counted : ℕ) (first_has : Bool) (i : ℕ) : Type 0 where
  pub sized : Sized ws
  pub sections : n ≡ get_or ws 0 0
  pub inside : i ≤ n
  pub same : places_fit (heads_in ws) ≡ places_from n counted first_has i (left ws n i)

heads-counted : (ws : List ℕ) (n : ℕ) → n ≡ get_or ws 0 0 → length (heads_in ws) ≡ n
unfolding heads_in
heads-counted ws n e = heads_at-length (get_or ws 0 0) (drop 1 ws) ∙ sym e

pub placing-start : (ws : List ℕ) (n counted : ℕ) (h : HeadWords) → Sized ws → n ≡ get_or ws 0 0 → counted ≡ counted_kinds 0 (kinds_in (heads_in ws))
    → head_from h ≡ head_at (drop 1 ws) → Placing ws n counted (has_in (head_from h)) 0
unfolding places_fit first_has_in
placing-start ws n counted h s e m f =
    let heads : heads_in ws ≡ left ws n 0 = left-start ws n e in
    let first : first_has_in (heads_in ws) ≡ has_in (head_from h) =
    ap first_has_in (heads ∙ left-front ws n 0 (omega (arith, s.least, e))) ∙ ap has_in (sym f) in
    record {
      sized = s;
      sections = e;
      inside = omega arith;
      same = rw (heads-counted ws n e, ← m, first, heads);
    }

module _ (ws : List ℕ) (n counted : ℕ) (first_has : Bool) (i : ℕ) (inv : Placing ws n counted first_has i) (l : i < n) (h : HeadWords) (e : head_from h ≡ head_at (drop (1 + 12 * i) ws)) where
  place-front : places_fit (heads_in ws) ≡ cond (place_fits n counted first_has i (head_from h)) (places_from n counted first_has (i + 1) (left ws n (i + 1))) false
  unfolding places_from
  place-front = inv.same ∙ rw (left-front ws n i l, ← e)

  pub placing-step : place_fits n counted first_has i (head_from h) ≡ true → Placing ws n counted first_has (i + 1)
  placing-step t =
      record {
        sized = inv.sized;
        sections = inv.sections;
        inside = omega arith;
        same = place-front ∙ rw t;
      }

  pub placing-fails : place_fits n counted first_has i (head_from h) ≡ false → false ≡ places_fit (heads_in ws)
  placing-fails t = sym (place-front ∙ rw t)

pub placing-end : (ws : List ℕ) (n counted : ℕ) (first_has : Bool) (i : ℕ) → Placing ws n counted first_has i → n ≤ i → true ≡ places_fit (heads_in ws)
unfolding places_from
placing-end ws n counted first_has i inv l = sym (inv.same ∙ rw (left_end ws n i l))

-- one section alone, of which exception (a) does not speak
pub placing-alone : (ws : List ℕ) (n : ℕ) (h : HeadWords) → Sized ws → n ≡ get_or ws 0 0 → n ≡ 1 → head_from h ≡ head_at (drop 1 ws)
    → place_fits 1 1 false 0 (head_from h) ≡ places_fit (heads_in ws)
unfolding places_from place_fits exception_a
placing-alone ws n h s e one f =
    let counted = counted_kinds 0 (kinds_in (heads_in ws)) in
    let has = has_in (head_from h) in
    let inv : Placing ws n counted has 0 = placing-start ws n counted h s e refl f in
    let test : Bool = place_fits 1 1 false 0 (head_from h) in
    let ended : places_from n counted has 1 (left ws n 1) ≡ true = rw (left_end ws n 1 (omega arith)) in
    let whole : places_fit (heads_in ws) ≡ cond (place_fits n counted has 0 (head_from h)) (places_from n counted has 1 (left ws n 1)) false =
    place-front ws n counted has 0 inv (omega arith) h f in
    sym (whole ∙ rw (ended, one) (cond-self test))
