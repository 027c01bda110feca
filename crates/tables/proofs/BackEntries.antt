-- Entries in their ranges are the entries of the items that they stand for, and those items are in range.
-- Assumes nothing.
use Prim.Native.Nat.{ℕ, zero, suc, ◌+◌, ◌≤◌, ◌<◌}
use native.Mathlib.Omega.{arith}
use mathlib.Core.Path.{◌≡◌, refl, sym, ◌∙◌, ap, subst}
use mathlib.Core.Bool.{false}
use mathlib.Core.List.{List, [], ◌∷◌}
use lib.ListN.{length, take, drop, length-map, take-append-drop, get_or-eq_default}
use lib.Seq.{take-append_seam, drop-append_seam}
use lib.Dec.{T, eqb, leb→le, eqb→eq}
use borrow.Author.Tests.{eqb-true, eqb-false, le-leb, lt-leb}
use Rattle.values.specs.Ranges.{between}
use Rattle.lists.specs.Lists.{every, any}
use Rattle.lists.proofs.Bools.{and_left, and_right, by_cases, every-head, every-tail, every-cons, every_take, every_drop}
use Rattle.formats.specs.Tokens.{half_index}
use Rattle.formats.specs.Items.{is_place, Item, place, elapsed, half, item_in_range, exponent, is_solidus, integer_places, places_behind, whole_items, main_items}
use Rattle.formats.proofs.Cutting.{whole-joins, whole-none}
use Rattle.formats.proofs.Each.{by-item, by_place, by-elapsed, by-exponent}
use Rattle.formats.proofs.ByNumber.{by_number}
use Rattle.formats.specs.Text.{digit_after, along, first_of}
use Rattle.tables.specs.Words.{Entry}
use Rattle.tables.specs.Encode.{entry, entry_of, entries_from, run_entries, entries_of, tag_of}
use Rattle.tables.specs.Decode.{half_at, item_at, items_at, items_by_tag}
use Rattle.tables.specs.Rules.{entry_in_range, powers_from, run_powers, powers_run_down, all_of, power_fits}

-- what holds of each of the n numbers from k
abbrev pub Span : (ℕ → Type 0) → ℕ → ℕ → Type 0
Span P k zero = Unit {0}
Span P k (suc n) = P k × Span P (suc k) n

pub also : {A B : Type 0} → A → B → A × B
also a b = (a, b)

-- a number between two bounds is one of those between them
pub span-at : (P : ℕ → Type 0) (k n t : ℕ) → Span P k n → k ≤ t → t < k + n → P t
span-at P k zero t ps least most = absurd (omega arith)
span-at P k (suc n) t ps least most =
    by_cases (eqb k t) (λ e. rw (eqb-true k t e) at ps.0)
    (λ e. span-at P (suc k) n t ps.1 (later (eqb-false k t e)) (omega arith))
  where
    later : (k ≡ t → ⊥) → suc k ≤ t
    later apart = omega arith

pub between-facts : (least greatest n : ℕ) → T (between least greatest n) → (least ≤ n) × (n ≤ greatest)
between-facts least greatest n t = search (and_left, and_right, leb→le)

-- a number of no item is read as 21
pub late-tag : (t a : ℕ) → 25 < t → item_at (entry t a) ≡ half (half_at a)
unfolding item_at
late-tag t a h = get_or-eq_default (items_by_tag a) (half (half_at a)) h

pub place-tag : (t a : ℕ) → is_place (item_at (entry t a)) ≡ between 4 6 t
unfolding item_at
place-tag t a =
    by_number is_place (λ (n : ℕ). between 4 6 n) (items_by_tag a) 26 (half (half_at a)) refl
    (λ n h. sym (simp (le-leb 4 n (omega arith), lt-leb n 6 (omega arith)))) t

-- an entry in its range has one of the tags
tag-most : (i : Item) → T (between 1 25 (tag_of i))
tag-most =
    by-item (λ i. T (between 1 25 (tag_of i))) (λ u. tt) (λ u. tt) (λ u. tt) (by_place (λ p. T (between 1 25 (tag_of (place p)))) tt tt tt)
    tt tt tt tt (λ n. tt) (λ n. tt) (λ n. tt) (λ n. tt) (λ n. tt) (λ n. tt) (λ n. tt)
    (λ e n. by-elapsed (λ d. T (between 1 25 (tag_of (elapsed d n)))) tt tt tt e) (λ h. tt)
    (by-exponent (λ m. T (between 1 25 (tag_of (exponent m)))) tt tt) tt (λ n. tt)

pub tag-known : (e : Entry) → T (entry_in_range e) → (1 ≤ e.tag) × (e.tag ≤ 25)
unfolding entry_in_range
tag-known e t = rw (← eqb→eq (tag_of (item_at e)) e.tag (and_left (eqb (tag_of (item_at e)) e.tag) _ t)) (between-facts 1 25 (tag_of (item_at e)) (tag-most (item_at e)))

-- what holds at each tag holds of every entry in its range
pub by-tag : (P : Entry → Type 0) → Span (λ t. (a : ℕ) → T (entry_in_range (entry t a)) → P (entry t a)) 1 25
    → (e : Entry) → T (entry_in_range e) → P e
by-tag P ps e r =
    span-at (λ t. (a : ℕ) → T (entry_in_range (entry t a)) → P (entry t a)) 1 25 e.tag ps
    (tag-known e r).0 (omega (arith, tag-known e r)) e.argument r

half_back : (a : ℕ) → T (between 1 2 a) → suc (half_index (half_at a)) ≡ a
unfolding half_at
half_back a r =
    let f : (1 ≤ a) × (a ≤ 2) = between-facts 1 2 a r in
    span-at (λ n. suc (half_index (half_at n)) ≡ n) 1 2 a (refl, (refl, tt)) f.0 (omega arith)

-- a place's argument is what its power asks for; q is the power of the entry's digit and 15

pub entry-back : (q : ℕ) (e : Entry) → T (entry_in_range e) → T (power_fits q e) → entry_of q (item_at e) ≡ e
unfolding entry_in_range item_at entry_of
entry-back q =
    by-tag (λ e. T (power_fits q e) → entry_of q (item_at e) ≡ e)
    (also (λ a r f. refl) (also (λ a r f. refl) (also (λ a r f. refl)
    (also (λ a r f. rw (eqb→eq a (suc q) f)) (also (λ a r f. rw (eqb→eq a (suc q) f)) (also (λ a r f. rw (eqb→eq a (suc q) f))
    (also (λ a r f. rw (eqb→eq a 0 r)) (also (λ a r f. rw (eqb→eq a 0 r)) (also (λ a r f. rw (eqb→eq a 0 r)) (also (λ a r f. rw (eqb→eq a 0 r))
    (also (λ a r f. refl) (also (λ a r f. refl) (also (λ a r f. refl) (also (λ a r f. refl) (also (λ a r f. refl)
    (also (λ a r f. refl) (also (λ a r f. refl) (also (λ a r f. refl) (also (λ a r f. refl) (also (λ a r f. refl)
    (also (λ a r f. rw (half_back a r)) (also (λ a r f. rw (eqb→eq a 0 r)) (also (λ a r f. rw (eqb→eq a 0 r))
    (also (λ a r f. rw (eqb→eq a 0 r)) (also (λ a r f. refl) tt)))))))))))))))))))))))))

pub entries-back : (anew q : ℕ) (es : List Entry) → T (every entry_in_range es) → T (powers_from anew q es) → entries_from anew q (items_at es) ≡ es
unfolding powers_from items_at along all_of
entries-back anew q [] r f = refl
entries-back anew q (e ∷ es) r f =
    let here : T (power_fits q e) = and_left (power_fits q e) (powers_from anew (digit_after anew q (item_at e)) es) f in
    let later : T (powers_from anew (digit_after anew q (item_at e)) es) = and_right (power_fits q e) (powers_from anew (digit_after anew q (item_at e)) es) f in
    rw (
      entry-back q e (every-head entry_in_range e es r) here,
      entries-back anew (digit_after anew q (item_at e)) es (every-tail entry_in_range e es r) later,
    )

items-take : (n : ℕ) (es : List Entry) → items_at (take n es) ≡ take n (items_at es)
unfolding items_at
items-take zero es = refl
items-take (suc n) [] = refl
items-take (suc n) (e ∷ es) = ap (λ (is : List Item). item_at e ∷ is) (items-take n es)

items-drop : (n : ℕ) (es : List Entry) → items_at (drop n es) ≡ drop n (items_at es)
unfolding items_at
items-drop zero es = refl
items-drop (suc n) [] = refl
items-drop (suc n) (e ∷ es) = items-drop n es

run-back : (is : List Item) (es : List Entry) → items_at es ≡ is → T (every entry_in_range es) → T (run_powers es) → run_entries is ≡ es
unfolding run_powers run_entries
run-back is es e r f =
    subst (λ (js : List Item). entries_from (first_of (places_behind js)) (first_of (integer_places js)) js ≡ es) e
    (entries-back (first_of (places_behind (items_at es))) (first_of (integer_places (items_at es))) es r f)

-- entries whose powers run down are those of their items
pub made-entries : (es : List Entry) → T (every entry_in_range es) → T (powers_run_down es) → entries_of (items_at es) ≡ es
unfolding powers_run_down entries_of
made-entries es r f =
    let is = items_at es in
    let n : ℕ = length (whole_items is) in
    let whole : items_at (take n es) ≡ whole_items is =
    items-take n es ∙ ap (take n) (sym (whole-joins is)) ∙ take-append_seam (whole_items is) (main_items is) in
    let main : items_at (drop n es) ≡ main_items is =
    items-drop n es ∙ ap (drop n) (sym (whole-joins is)) ∙ drop-append_seam (whole_items is) (main_items is) in
    let a = and_left (run_powers (take n es)) (run_powers (drop n es)) f in
    let b = and_right (run_powers (take n es)) (run_powers (drop n es)) f in
    rw (run-back (whole_items is) (take n es) whole (every_take entry_in_range n es r) a, run-back (main_items is) (drop n es) main (every_drop entry_in_range n es r) b)
    (take-append-drop n es)

-- without a solidus they run down in one run
pub powers-all : (es : List Entry) → any is_solidus (items_at es) ≡ false → T (powers_run_down es) → T (run_powers es)
unfolding powers_run_down
powers-all es none f =
    let n : ℕ = length (whole_items (items_at es)) in
    rw (whole-none (items_at es) none) at (and_right (run_powers (take n es)) (run_powers (drop n es)) f)

pub item-ranged : (e : Entry) → T (entry_in_range e) → T (item_in_range (item_at e))
unfolding entry_in_range item_at item_in_range
item-ranged =
    by-tag (λ e. T (item_in_range (item_at e)))
    (also (λ a r. r) (also (λ a r. r) (also (λ a r. r)
    (also (λ a r. tt) (also (λ a r. tt) (also (λ a r. tt) (also (λ a r. tt) (also (λ a r. tt) (also (λ a r. tt) (also (λ a r. tt)
    (also (λ a r. r) (also (λ a r. r) (also (λ a r. r) (also (λ a r. r) (also (λ a r. r) (also (λ a r. r) (also (λ a r. r) (also (λ a r. r) (also (λ a r. r) (also (λ a r. r)
    (also (λ a r. tt) (also (λ a r. tt) (also (λ a r. tt) (also (λ a r. tt) (also (λ a r. r) tt)))))))))))))))))))))))))

pub items-ranged : (es : List Entry) → T (every entry_in_range es) → T (every item_in_range (items_at es))
unfolding items_at every
items-ranged [] r = tt
items-ranged (e ∷ es) r =
    every-cons item_in_range (item_at e) (items_at es) (item-ranged e (every-head entry_in_range e es r))
    (items-ranged es (every-tail entry_in_range e es r))

pub items-length : (es : List Entry) → length (items_at es) ≡ length es
unfolding items_at
items-length es = length-map es item_at
