-- The entries made from items: they read back as the items, are in range, and their powers run down.
-- Assumes nothing.
use Prim.Native.Nat.{ℕ, suc, ◌≤◌}
use native.Mathlib.Omega.{arith}
use mathlib.Core.Path.{◌≡◌, refl, sym, ◌∙◌, ap}
use mathlib.Core.List.{List, [], ◌∷◌, ◌++◌}
use lib.ListN.{length, take, drop, length-append}
use lib.Seq.{take-append_seam, drop-append_seam}
use lib.Dec.{T, leb, eqb, le→leb, eqb_refl}
use Rattle.values.specs.Ranges.{between}
use Rattle.lists.specs.Lists.{every}
use Rattle.lists.proofs.Bools.{and_left, and_right, and_in, by_cases, carry, every-head, every-tail, every-cons, every_append}
use Rattle.lists.proofs.Counts.{every-both}
use Rattle.formats.specs.Items.{Item, place, elapsed, half, is_place, integer_places, item_in_range, exponent, is_cut, places_behind, whole_items, main_items}
use Rattle.formats.specs.Where.{implies}
use Rattle.formats.specs.Text.{digit_after, along, first_of}
use Rattle.tables.specs.Words.{Entry}
use Rattle.tables.specs.Encode.{entry_of, entries_from, run_entries, entries_of}
use Rattle.tables.specs.Decode.{half_at, item_at, items_at}
use Rattle.tables.specs.Rules.{entry_in_range, powers_from, run_powers, powers_run_down, all_of}
use Rattle.formats.proofs.Cutting.{whole-joins, whole-exponents, main-exponents}
use Rattle.formats.proofs.Each.{by-item, by_place, by-elapsed, by-half, by-exponent}

-- an item's entry reads back as the item, whatever its arguments
pub item_back : (q : ℕ) (i : Item) → item_at (entry_of q i) ≡ i
unfolding entry_of item_at half_at
item_back q =
    by-item (λ i. item_at (entry_of q i) ≡ i) (λ u. refl) (λ u. refl) (λ u. refl)
    (by_place (λ p. item_at (entry_of q (place p)) ≡ place p) refl refl refl)
    refl refl refl refl (λ n. refl) (λ n. refl) (λ n. refl) (λ n. refl) (λ n. refl) (λ n. refl) (λ n. refl)
    (λ e n. by-elapsed (λ d. item_at (entry_of q (elapsed d n)) ≡ elapsed d n) refl refl refl e)
    (by-half (λ h. item_at (entry_of q (half h)) ≡ half h) refl refl)
    (by-exponent (λ m. item_at (entry_of q (exponent m)) ≡ exponent m) refl refl) refl (λ n. refl)

pub items_back : (anew q : ℕ) (is : List Item) → items_at (entries_from anew q is) ≡ is
unfolding items_at along
items_back anew q [] = refl
items_back anew q (i ∷ is) = rw (item_back q i, items_back anew (digit_after anew q i) is)

pub entries-length : (anew q : ℕ) (is : List Item) → length (entries_from anew q is) ≡ length is
unfolding along
entries-length anew q [] = refl
entries-length anew q (i ∷ is) = ap suc (entries-length anew (digit_after anew q i) is)

power-in-range : (q : ℕ) → q ≤ 34 → T (between 1 35 (suc q))
power-in-range q h = and_in (leb 1 (suc q)) (leb (suc q) 35) (le→leb 1 (suc q) (omega arith)) (le→leb (suc q) 35 (omega arith))

pub entry-in-range : (q : ℕ) (i : Item) → T (item_in_range i) → q ≤ 34 → T (entry_in_range (entry_of q i))
unfolding item_in_range entry_of entry_in_range item_at
entry-in-range q =
    by-item (λ i. T (item_in_range i) → q ≤ 34 → T (entry_in_range (entry_of q i))) (λ u t h. t) (λ u t h. t) (λ u t h. t)
    (λ p t h. by_place (λ x. T (entry_in_range (entry_of q (place x)))) (power-in-range q h) (power-in-range q h) (power-in-range q h) p)
    (λ t h. tt) (λ t h. tt) (λ t h. tt) (λ t h. tt)
    (λ n t h. t) (λ n t h. t) (λ n t h. t) (λ n t h. t) (λ n t h. t) (λ n t h. t) (λ n t h. t)
    (λ e n t h. by-elapsed (λ d. T (entry_in_range (entry_of q (elapsed d n)))) t t t e)
    (λ k t h. by-half (λ x. T (entry_in_range (entry_of q (half x)))) tt tt k)
    (λ m t h. by-exponent (λ x. T (entry_in_range (entry_of q (exponent x)))) tt tt m) (λ t h. tt) (λ n t h. t)

-- a digit after an item is none above the first ones
after-most : (anew q : ℕ) (i : Item) → anew ≤ 34 → q ≤ 34 → digit_after anew q i ≤ 34
unfolding digit_after
after-most anew q i g h =
    by_cases (is_cut i) (λ e. rw e g) (λ e. rw e (by_cases (is_place i) (λ f. rw f (omega arith)) (λ f. rw f h)))

pub entries-in-range : (anew q : ℕ) (is : List Item) → T (every item_in_range is) → anew ≤ 34 → q ≤ 34 → T (every entry_in_range (entries_from anew q is))
unfolding every along
entries-in-range anew q [] t g h = tt
entries-in-range anew q (i ∷ is) t g h =
    every-cons entry_in_range (entry_of q i) (entries_from anew (digit_after anew q i) is)
    (entry-in-range q i (every-head item_in_range i is t) h)
    (entries-in-range anew (digit_after anew q i) is (every-tail item_in_range i is t) g (after-most anew q i g h))

-- a place's entry has its power
power-stands : (q : ℕ) (i : Item) → T (implies (is_place i) (eqb (entry_of q i).argument (suc q)))
unfolding entry_of
power-stands q =
    by-item (λ i. T (implies (is_place i) (eqb (entry_of q i).argument (suc q)))) (λ u. tt) (λ u. tt) (λ u. tt) (λ p. eqb_refl (suc q))
    tt tt tt tt (λ n. tt) (λ n. tt) (λ n. tt) (λ n. tt) (λ n. tt) (λ n. tt) (λ n. tt) (λ e n. tt) (λ h. tt) (λ m. tt) tt (λ n. tt)

powers-from : (anew q : ℕ) (is : List Item) → T (powers_from anew q (entries_from anew q is))
unfolding powers_from along all_of
powers-from anew q [] = tt
powers-from anew q (i ∷ is) =
    rw (item_back q i)
    (and_in (implies (is_place i) (eqb (entry_of q i).argument (suc q))) (powers_from anew (digit_after anew q i) (entries_from anew (digit_after anew q i) is))
    (power-stands q i) (powers-from anew (digit_after anew q i) is))

-- items of joined entries
items-append : (xs ys : List Entry) → items_at (xs ++ ys) ≡ items_at xs ++ items_at ys
unfolding items_at
items-append [] ys = refl
items-append (x ∷ xs) ys = ap (λ (is : List Item). item_at x ∷ is) (items-append xs ys)

-- the entries of a run of items, and those of all items
run-back : (is : List Item) → items_at (run_entries is) ≡ is
unfolding run_entries
run-back is = items_back (first_of (places_behind is)) (first_of (integer_places is)) is

pub run_length : (is : List Item) → length (run_entries is) ≡ length is
unfolding run_entries
run_length is = entries-length (first_of (places_behind is)) (first_of (integer_places is)) is

pub made-back : (is : List Item) → items_at (entries_of is) ≡ is
unfolding entries_of items_at
made-back is =
    items-append (run_entries (whole_items is)) (run_entries (main_items is))
    ∙ rw (run-back (whole_items is), run-back (main_items is)) (whole-joins is)

pub made-length : (is : List Item) → length (entries_of is) ≡ length is
unfolding entries_of
made-length is =
    length-append (run_entries (whole_items is)) (run_entries (main_items is))
    ∙ rw (run_length (whole_items is), run_length (main_items is)) (sym (length-append (whole_items is) (main_items is)) ∙ ap length (whole-joins is))

run-in-range : (is : List Item) → T (every item_in_range is) → places_behind is ≤ 20 → integer_places is ≤ 20 → T (every entry_in_range (run_entries is))
unfolding run_entries
run-in-range is t g h = entries-in-range (first_of (places_behind is)) (first_of (integer_places is)) is t (omega arith) (omega arith)

-- what holds of all items holds of each part; the places behind the cut are the second part's
pub made-in-range : (is : List Item) → T (every item_in_range is) → places_behind is ≤ 20
    → integer_places (whole_items is) ≤ 20 → integer_places (main_items is) ≤ 20 → T (every entry_in_range (entries_of is))
unfolding entries_of
made-in-range is t b c d =
    let both = carry (sym (ap (every item_in_range) (whole-joins is)) ∙ every-both item_in_range (whole_items is) (main_items is)) t in
    every_append entry_in_range (run_entries (whole_items is)) (run_entries (main_items is))
    (run-in-range (whole_items is) (and_left (every item_in_range (whole_items is)) (every item_in_range (main_items is)) both) (omega (arith, whole-exponents is)) c)
    (run-in-range (main_items is) (and_right (every item_in_range (whole_items is)) (every item_in_range (main_items is)) both) (omega (arith, main-exponents is)) d)

run-powers : (is : List Item) → T (run_powers (run_entries is))
unfolding run_powers run_entries
run-powers is =
    let anew : ℕ = first_of (places_behind is) in
    let q : ℕ = first_of (integer_places is) in
    rw (items_back anew q is) (powers-from anew q is)

pub made-front : (is : List Item) → take (length (whole_items is)) (entries_of is) ≡ run_entries (whole_items is)
unfolding entries_of
made-front is = rw (← run_length (whole_items is)) (take-append_seam (run_entries (whole_items is)) (run_entries (main_items is)))

pub made-behind : (is : List Item) → drop (length (whole_items is)) (entries_of is) ≡ run_entries (main_items is)
unfolding entries_of
made-behind is = rw (← run_length (whole_items is)) (drop-append_seam (run_entries (whole_items is)) (run_entries (main_items is)))

pub powers-run-down : (is : List Item) → T (powers_run_down (entries_of is))
unfolding powers_run_down
powers-run-down is =
    rw (made-back is, made-front is, made-behind is)
    (and_in (run_powers (run_entries (whole_items is))) (run_powers (run_entries (main_items is))) (run-powers (whole_items is)) (run-powers (main_items is)))
