-- Items by their tags, and the words before and behind one of them.
-- Assumes nothing.
use Prim.Native.Nat.{ℕ, suc, ◌+◌, ◌-◌, ◌*◌, ◌/◌, ◌≤◌, ◌<◌}
use native.Mathlib.Omega.{arith}
use mathlib.Core.Path.{◌≡◌, refl, sym, ◌∙◌}
use mathlib.Core.Bool.{Bool, false}
use mathlib.Core.List.{List, [], ◌∷◌, ◌++◌, map}
use lib.ListN.{length, get_or, take, drop, length-drop}
use lib.Seq.{take_all, drop-drop, get_or-drop}
use lib.Dec.{eqb}
use borrow.Author.Tests.{eq-eqb, ne_eqb, lt-ltb, le-ltb}
use Rattle.lists.specs.Lists.{any, count}
use Rattle.lists.proofs.Counts.{any-map, any_same}
use Rattle.lists.proofs.Bools.{by_cases}
use Rattle.std.specs.List.{list_any}
use Rattle.formats.specs.Items.{Item, half}
use Rattle.formats.proofs.ByNumber.{numbered, by_number}
use Rattle.tables.specs.Words.{Entry, entries_at, entries_in}
use Rattle.tables.specs.Encode.{entry}
use Rattle.tables.specs.Decode.{half_at, item_at, items_at, items_by_tag}
use Rattle.tables.proofs.Words.{Seeking, seeking-front, seeking-end, entries-part}
use Rattle.table_words.proofs.Cuts.{entries-joined}
use Rattle.scans.specs.Scans.{tagged, has_tag, FoundAt}

-- ---- a test that only one tag passes
pub tag_is : (p : Item → Bool) (m : ℕ) (e : Entry) → map p (items_by_tag e.argument) ≡ numbered (λ (n : ℕ). eqb n m) 0 26 → m < 26
    → p (half (half_at e.argument)) ≡ false → p (item_at e) ≡ eqb e.tag m
unfolding item_at
tag_is p m e rows few last =
    by_number p (λ (n : ℕ). eqb n m) (items_by_tag e.argument) 26 (half (half_at e.argument)) rows
    (λ n h. last ∙ sym (ne_eqb n m (λ x. absurd (omega arith)))) e.tag

module _ (p : Item → Bool) (m : ℕ) (f : (e : Entry) → p (item_at e) ≡ eqb e.tag m) where
  pub any-tagged : (es : List Entry) → any p (items_at es) ≡ has_tag es m
  unfolding items_at
  any-tagged es = any-map p item_at es ∙ any_same (λ (e : Entry). p (item_at e)) (tagged m) f es

  pub count-tagged : (es : List Entry) → count p (items_at es) ≡ count (tagged m) es
  unfolding count items_at
  count-tagged [] = refl
  count-tagged (e ∷ es) = rw (f e, count-tagged es)

-- ---- the search for a tag
module _ {words : List ℕ} {tag n k : ℕ} (s : Seeking (λ es. has_tag es tag) words n k) where
  pub found_here : k < n → get_or words (2 * k) 0 ≡ tag → FoundAt words tag k
  unfolding any
  found_here h e =
      let i = s.items in
      record {
        inside = omega arith;
        told = seeking-front s h ∙ rw (eq-eqb (get_or words (2 * k) 0) tag e, lt-ltb k (length words / 2) (omega arith));
        here = λ l. e;
      }

  pub found-later : k < n → (get_or words (2 * k) 0 ≡ tag → ⊥) → has_tag (entries_in words) tag ≡ has_tag (entries_at (n - (k + 1)) (drop (2 * (k + 1)) words)) tag
  unfolding any
  found-later h f = seeking-front s h ∙ rw (ne_eqb (get_or words (2 * k) 0) tag f)

  pub found_none : n ≤ k → FoundAt words tag n
  unfolding any
  found_none h =
      let i = s.items in
      record {
        inside = omega arith;
        told = seeking-end s h ∙ rw (le-ltb n (length words / 2) (omega arith));
        here = λ l. absurd (omega arith);
      }

-- a test of tags and its list of answers
pub any-listed : (tag : ℕ) (es : List Entry) → list_any (λ (e : Entry). eqb e.tag tag) es ≡ has_tag es tag
unfolding any
any-listed tag [] = refl
any-listed tag (e ∷ es) = by_cases (eqb e.tag tag) (λ t. rw t) (λ t. rw t (any-listed tag es))

-- ---- the entries before, at and behind a place
pub entries-cut : (words : List ℕ) (at : ℕ) → at < length words / 2
    → entries_in words
    ≡ entries_in (take (2 * at) words)
    ++ (entry (get_or words (2 * at) 0) (get_or words (2 * at + 1) 0) ∷ entries_in (take (length words - (2 * at + 2)) (drop (2 * at + 2) words)))
unfolding entries_in entries_at
entries-cut words at h =
    let rest = length words / 2 - at - 1 in
    let some : length words / 2 - at ≡ suc rest = omega arith in
    let size = length-drop (2 * at + 2) words in
    let behind : length (drop (2 * at + 2) words) / 2 ≡ rest = rw size (omega arith) in
    let nought : 2 * at + 0 ≡ 2 * at = omega arith in
    entries-joined (length words / 2) at words (omega arith)
    ∙ rw (
      some,
      take_all (length words - (2 * at + 2)) (drop (2 * at + 2) words) (rw size (omega arith)),
      entries-part at words (omega arith),
      behind,
      get_or-drop (2 * at) words 0 0,
      get_or-drop (2 * at) words 1 0,
      drop-drop 2 (2 * at) words,
      nought,
    )
