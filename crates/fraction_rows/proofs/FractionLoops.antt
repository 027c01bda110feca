-- The walks over the items of a fraction's parts: whether a literal follows the last place, how many places stand at the start.
-- Assumes nothing.
use Prim.Native.Nat.{ℕ, ◌+◌, ◌-◌, ◌*◌, ◌/◌, ◌≤◌, ◌<◌}
use native.Mathlib.Omega.{arith}
use mathlib.Core.Path.{◌≡◌, refl, sym, ◌∙◌, ap}
use mathlib.Core.Bool.{Bool, true, false, true≢false, not, ◌&&◌, and-false}
use mathlib.Core.List.{List, [], ◌∷◌, ◌++◌}
use lib.ListN.{length, get_or, take}
use lib.Seq.{length-take-le}
use lib.Dec.{eqb}
use Rattle.values.specs.Ranges.{between}
use Rattle.lists.specs.Lists.{any}
use Rattle.lists.proofs.Bools.{by_cases}
use Rattle.formats.specs.Items.{Item, is_place, is_literal, start_places, literal_follows}
use Rattle.tables.specs.Words.{entries_at, entries_in}
use Rattle.tables.specs.Encode.{entry}
use Rattle.tables.specs.Decode.{item_at, items_at}
use Rattle.tables.proofs.Words.{entries_left, entries_at-length}
use Rattle.tables.proofs.BackEntries.{items-length, place-tag}
use Rattle.table_words.specs.Runs.{items_in, CutAt}
use Rattle.table_words.proofs.PlaceRuns.{last_item, last-left, last-parts}
use Rattle.scans.proofs.Scanned.{tag_is}

pub no-places : (is : List Item) → any is_place is ≡ false → literal_follows is ≡ true
unfolding literal_follows any
no-places [] e = refl
no-places (i ∷ is) e = by_cases (is_place i) (λ p. absurd (true≢false (rw p at e))) (λ p. rw p (no-places is (rw p at e)))

-- ---- an item of a kind among some items
any_met : (f : Item → Bool) (is : List Item) (i : Item) (js : List Item) → f i ≡ true → any f (is ++ (i ∷ js)) ≡ true
unfolding any
any_met f [] i js e = rw e
any_met f (h ∷ is) i js e = rw (any_met f is i js e) (by_cases (f h) (λ t. rw t) (λ t. rw t))

-- behind a literal no place stands
literal-met : (is : List Item) (i : Item) (js : List Item) → is_literal i ≡ true → is_place i ≡ false → any is_place js ≡ false
    → literal_follows (is ++ (i ∷ js)) ≡ true
unfolding literal_follows
literal-met [] i js l p none = rw p (no-places js none)
literal-met (h ∷ is) i js l p none =
    rw (any_met is_literal is i js l, literal-met is i js l p none)
    (by_cases (is_place h && not (any is_place (is ++ (i ∷ js)))) (λ t. rw t) (λ t. rw t))

-- behind a place neither stands
place-met : (is : List Item) (i : Item) (js : List Item) → is_place i ≡ true → any is_place js ≡ false → any is_literal js ≡ false
    → literal_follows (is ++ (i ∷ js)) ≡ false
unfolding literal_follows
place-met [] i js p none bare = rw (p, none, bare)
place-met (h ∷ is) i js p none bare = rw (any_met is_place is i js p, and-false (is_place h)) (place-met is i js p none bare)

-- ---- the loop from the last item down: behind the k-th stands neither place nor literal
pub record Bare (words : List ℕ) (k : ℕ) : Type 0 where
  pub inside : k ≤ length words / 2
  pub places : any is_place (items_at (entries_left words (length words / 2) k)) ≡ false
  pub literals : any is_literal (items_at (entries_left words (length words / 2) k)) ≡ false

pub bare-start : (words : List ℕ) → Bare words (length words / 2)
unfolding entries_at items_at any
bare-start words = let none : length words / 2 - length words / 2 ≡ 0 = omega arith in record { inside = omega arith; places = rw none; literals = rw none }

literal-tag : (t a : ℕ) → is_literal (item_at (entry t a)) ≡ eqb t 1
literal-tag t a = tag_is is_literal 1 (entry t a) refl (omega arith) refl

module _ {words : List ℕ} {k : ℕ} (s : Bare words k) (h : 0 < k) where
  abbrev tag : ℕ
  tag = get_or words (2 * (k - 1)) 0

  abbrev argument : ℕ
  argument = get_or words (2 * (k - 1) + 1) 0

  pub bare-literal : tag ≡ 1 → true ≡ literal_follows (items_at (entries_in words))
  bare-literal e =
      sym (ap literal_follows (last-parts words k h s.inside)
      ∙ literal-met (items_at (entries_at (k - 1) words)) (last_item words k h s.inside) _ (literal-tag _ _ ∙ rw e) (place-tag _ _ ∙ rw e) s.places)

  pub bare-place : between 4 6 tag ≡ true → false ≡ literal_follows (items_at (entries_in words))
  bare-place e =
      sym (ap literal_follows (last-parts words k h s.inside)
      ∙ place-met (items_at (entries_at (k - 1) words)) (last_item words k h s.inside) _ (place-tag _ _ ∙ e) s.places s.literals)

  pub bare_step : eqb tag 1 ≡ false → between 4 6 tag ≡ false → Bare words (k - 1)
  unfolding any
  bare_step e b = record {
    inside = omega (arith, s.inside);
    places = rw (last-left words k h s.inside, place-tag tag argument ∙ b) s.places;
    literals = rw (last-left words k h s.inside, literal-tag tag argument ∙ e) s.literals;
  }

pub bare-end : {words : List ℕ} {k : ℕ} → Bare words k → k ≤ 0 → true ≡ literal_follows (items_at (entries_in words))
unfolding entries_in
bare-end {words} {k} s h =
    let zero : k ≡ 0 = omega arith in
    let less : length words / 2 - 0 ≡ length words / 2 = omega arith in
    sym (no-places (items_at (entries_in words)) (rw (zero, less) at s.places))

-- ---- the words of the places at the start
pub run_length : {words : List ℕ} {r : ℕ} {back : List Item} → CutAt words r (start_places (items_in words)) back → r / 2 ≡ length (start_places (items_in words))
unfolding entries_in
run_length {words} {r} c =
    ap (λ (n : ℕ). n / 2) (sym (length-take-le r words c.inside))
    ∙ sym (ap length (sym c.before) ∙ items-length (entries_in (take r words)) ∙ entries_at-length (length (take r words) / 2) (take r words))
