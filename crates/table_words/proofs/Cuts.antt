-- Item words cut in two between items.
-- Assumes nothing.
use Prim.Native.Nat.{ℕ, zero, suc, ◌+◌, ◌-◌, ◌*◌, ◌/◌, ◌≤◌, ◌<◌}
use native.Mathlib.Nat.{sub-zero}
use native.Mathlib.Omega.{arith}
use mathlib.Core.Path.{◌≡◌, refl, sym, ap, ◌∙◌}
use mathlib.Core.Bool.{Bool, true, false}
use mathlib.Core.List.{List, [], ◌∷◌, ◌++◌, append_cancel_right}
use lib.ListN.{length, get_or, take, drop, length-drop}
use lib.Seq.{take_all, drop-drop}
use Rattle.formats.specs.Items.{Item}
use Rattle.tables.specs.Words.{Entry, entries_at, entries_in}
use Rattle.tables.specs.Encode.{entry}
use Rattle.tables.specs.Decode.{item_at, items_at}
use Rattle.tables.proofs.Words.{entries_left, entries-front, entries-part, Seeking, seeking-front, seeking-step, seeking-end}
use Rattle.table_words.specs.Runs.{CutAt}

-- ---- the entries of a part of the words
pub entries-joined : (n k : ℕ) (words : List ℕ) → k ≤ n → entries_at n words ≡ entries_at k words ++ entries_at (n - k) (drop (2 * k) words)
unfolding entries_at
entries-joined n zero words h = rw (sub-zero n)
entries-joined zero (suc k) words h = absurd (omega arith)
entries-joined (suc n) (suc k) words h =
    let two : 2 * suc k ≡ 2 + 2 * k = omega arith in
    let less : suc n - suc k ≡ n - k = omega arith in
    rw (two, less, ← drop-drop (2 * k) 2 words) (ap (λ (es : List Entry). entry (get_or words 0 0) (get_or words 1 0) ∷ es) (entries-joined n k (drop 2 words) (omega arith)))

pub items-append : (es fs : List Entry) → items_at (es ++ fs) ≡ items_at es ++ items_at fs
unfolding items_at
items-append [] fs = refl
items-append (e ∷ es) fs = ap (λ (is : List Item). item_at e ∷ is) (items-append es fs)

-- the rest of some words, as the code takes it
pub rest_all : (k : ℕ) (ws : List ℕ) → take (length ws - k) (drop k ws) ≡ drop k ws
rest_all k ws = take_all (length ws - k) (drop k ws) (omega (arith, length-drop k ws))

-- words cut before the k-th of n entries, where what is left is the second of two parts
pub cut_at : (words : List ℕ) (n k : ℕ) (front back : List Item) → n ≡ length words / 2 → k ≤ n → front ++ back ≡ items_at (entries_in words)
    → back ≡ items_at (entries_left words n k) → CutAt words (2 * k) front back
unfolding entries_in
cut_at words n k front back e h parts f =
    let half : length (drop (2 * k) words) / 2 ≡ n - k = rw (length-drop (2 * k) words) (omega arith) in
    let ahead : entries_in (take (2 * k) words) ≡ entries_at k words = entries-part k words (omega arith) in
    let left : entries_in (drop (2 * k) words) ≡ entries_left words n k = rw half in
    let joins : entries_in words ≡ entries_in (take (2 * k) words) ++ entries_in (drop (2 * k) words) =
    rw (ahead, left, ← e) (entries-joined n k words h) in
    let from : items_at (entries_in (drop (2 * k) words)) ≡ back = ap items_at left ∙ sym f in
    record {
      inside = omega arith;
      even = omega arith;
      joins = joins;
      from = from;
      before = append_cancel_right (items_at (entries_in (take (2 * k) words))) front back
          (ap (λ (js : List Item). items_at (entries_in (take (2 * k) words)) ++ js) (sym from)
          ∙ sym (items-append (entries_in (take (2 * k) words)) (entries_in (drop (2 * k) words))) ∙ ap items_at (sym joins) ∙ sym parts);
    }

-- ---- item words that are cut where a test of tags no longer passes
-- items are cut before the first whose tag fails
pub record Finds (passes : ℕ → Bool) (front back : List Item → List Item) : Type 0 where
  pub joins : (is : List Item) → front is ++ back is ≡ is
  pub none : back [] ≡ []
  pub met : (e : Entry) (is : List Item) → passes e.tag ≡ false → back (item_at e ∷ is) ≡ item_at e ∷ is
  pub passed : (e : Entry) (is : List Item) → passes e.tag ≡ true → back (item_at e ∷ is) ≡ back is

module _ {passes : ℕ → Bool} {front back : List Item → List Item} (d : Finds passes front back) where
  -- the part behind, of some entries
  abbrev pub part_of : List Entry → List Item
  part_of es = back (items_at es)

  module _ {words : List ℕ} {n k : ℕ} (s : Seeking part_of words n k) where
    pub part-met : k < n → passes (get_or words (2 * k) 0) ≡ false → CutAt words (2 * k) (front (items_at (entries_in words))) (back (items_at (entries_in words)))
    unfolding items_at
    part-met h e =
        cut_at words n k _ _ s.items s.inside (d.joins (items_at (entries_in words)))
        (seeking-front s h ∙ d.met _ _ e ∙ sym (ap items_at (entries-front words n k h)))

    pub part-passed : k < n → passes (get_or words (2 * k) 0) ≡ true → Seeking part_of words n (k + 1)
    unfolding items_at
    part-passed h e = seeking-step s h (seeking-front s h ∙ d.passed _ _ e)

    pub part_none : n ≤ k → CutAt words (2 * n) (front (items_at (entries_in words))) (back (items_at (entries_in words)))
    unfolding items_at entries_at
    part_none h =
        let none : n - n ≡ 0 = omega arith in
        cut_at words n n _ _ s.items (omega arith) (d.joins (items_at (entries_in words))) (seeking-end s h ∙ d.none ∙ rw none)
