-- Level 2, dates: the rules for elapsed items say that one elapsed unit, or none, is counted and its plain equivalent stands nowhere.
-- Assumes nothing.
use Prim.Native.Nat.{ℕ, zero, suc, ◌≤◌}
use native.Mathlib.Omega.{arith}
use mathlib.Core.Path.{◌≡◌, refl, sym, ap, ◌∙◌}
use mathlib.Core.Bool.{Bool, true, false, cond, not, ◌&&◌, ◌||◌}
use mathlib.Core.List.{List, [], ◌∷◌}
use mathlib.Core.Option.{Option, none, some}
use lib.Dec.{leb, eqb}
use borrow.Author.Tests.{eqb-true, not-true}
use Rattle.lists.specs.Lists.{every, any, count}
use Rattle.lists.proofs.Bools.{no, and_parts, by_cases, cond_both}
use Rattle.formats.specs.Tokens.{Elapsed, hours, minutes, seconds, elapsed_index}
use Rattle.formats.specs.Items.{Item, item_row, item_number, hour, minute, second, elapsed, date_kind, item_allowed, is_hour, is_minute, is_second, is_elapsed, is_plain, no_plain}
use Rattle.formats.specs.Limits.{elapsed_short}
use Rattle.formats.proofs.Each.{by-item, by-elapsed}
use Rattle.grammar.proofs.Tests.{both, every-parts, every_in, every-with, every-all, every-none, unless, none-every}

abbrev by_index : ℕ → Elapsed
by_index zero = hours
by_index (suc zero) = minutes
by_index (suc (suc n)) = seconds

by_index_lem : (x : Elapsed) → by_index (elapsed_index x) ≡ x
by_index_lem hours = refl
by_index_lem minutes = refl
by_index_lem seconds = refl

-- the section counts all of the unit of this variant; of x
abbrev counts_at : Option Elapsed → ℕ → Bool
counts_at none v = false
counts_at (some y) v = eqb (elapsed_index y) v

abbrev pub counts : Option Elapsed → Elapsed → Bool
counts abs x = counts_at abs (elapsed_index x)

pub counts_some : (abs : Option Elapsed) (x : Elapsed) → counts abs x ≡ true → abs ≡ some x
counts_some none x e = no e
counts_some (some y) x e = ap some (sym (by_index_lem y) ∙ ap by_index (eqb-true (elapsed_index y) (elapsed_index x) e) ∙ by_index_lem x)

pub some-counts : (x : Elapsed) → counts (some x) x ≡ true
some-counts hours = refl
some-counts minutes = refl
some-counts seconds = refl

-- an item is the plain equivalent of the unit that is counted
abbrev plain_for : Option Elapsed → Item → Bool
plain_for abs i = cond (is_hour i) (counts abs hours) (cond (is_minute i) (counts abs minutes) (cond (is_second i) (counts abs seconds) false))

-- an item of a date that counts all of this unit, or of none
unfoldable pub date_item : Option Elapsed → Item → Bool
date_item abs i =
    cond (is_elapsed i) (counts_at abs (item_row i).variant && leb (item_row i).argument 9) ((item_row i).held_by date_kind && not (plain_for abs i))

plain-for-none : (i : Item) → plain_for none i ≡ false
plain-for-none i =
    cond_both (λ (b : Bool). b ≡ false) (is_hour i) refl (cond_both (λ (b : Bool). b ≡ false) (is_minute i) refl (cond_both (λ (b : Bool). b ≡ false) (is_second i) refl refl))

plain-for : (x : Elapsed) (i : Item) → plain_for (some x) i ≡ is_plain (elapsed_index x) i
plain-for x i =
    by_cases (is_hour i) (λ h. rw (eqb-true (item_number i) 11 h) (by-elapsed (λ (y : Elapsed). counts (some y) hours ≡ is_plain (elapsed_index y) (hour 1)) refl refl refl x)) (λ h.
    by_cases (is_minute i) (λ k. rw (eqb-true (item_number i) 12 k) (by-elapsed (λ (y : Elapsed). counts (some y) minutes ≡ is_plain (elapsed_index y) (minute 1)) refl refl refl x)) (λ k.
    by_cases (is_second i) (λ l. rw (eqb-true (item_number i) 13 l) (by-elapsed (λ (y : Elapsed). counts (some y) seconds ≡ is_plain (elapsed_index y) (second 1)) refl refl refl x)) (λ l.
    rw (h, k, l) (by-elapsed (λ (y : Elapsed). false ≡ cond (eqb (elapsed_index y) 0) false (cond (eqb (elapsed_index y) 1) false false)) refl refl refl x))))

-- an item is elapsed or not
data Sorted : Item → Type 0 where
  timed : (x : Elapsed) (n : ℕ) → Sorted (elapsed x n)
  calm : {i : Item} → is_elapsed i ≡ false → Sorted i

sorted : (i : Item) → Sorted i
sorted =
    by-item Sorted (λ u. calm refl) (λ u. calm refl) (λ u. calm refl) (λ p. calm refl) (calm refl) (calm refl) (calm refl) (calm refl)
    (λ n. calm refl) (λ n. calm refl) (λ n. calm refl) (λ n. calm refl) (λ n. calm refl) (λ n. calm refl) (λ n. calm refl) timed (λ h. calm refl) (λ m. calm refl) (calm refl) (λ n. calm refl)

pub short_none : (is : List Item) → count is_elapsed is ≡ 0 → every elapsed_short is ≡ true
unfolding elapsed_short
short_none is e = unless is_elapsed elapsed_short (λ i h. rw h) is e

pub plain-none : (is : List Item) → count is_elapsed is ≡ 0 → every (no_plain is) is ≡ true
unfolding no_plain
plain-none is e = unless is_elapsed (no_plain is) (λ i h. rw h) is e

-- ---- what the items of a date satisfy

date-parts : (abs : Option Elapsed) {i : Item} → Sorted i → date_item abs i ≡ true → (item_allowed date_kind i ≡ true) × (elapsed_short i ≡ true)
unfolding date_item item_allowed elapsed_short
date-parts abs (timed x n) e = (refl, (and_parts (counts abs x) (leb n 9) e).1)
date-parts abs {i} (calm o) e = ((and_parts (item_allowed date_kind i) (not (plain_for abs i)) (rw o at e)).0, rw o)

pub date-allowed : (abs : Option Elapsed) (is : List Item) → every (date_item abs) is ≡ true → every (item_allowed date_kind) is ≡ true
date-allowed abs is e = every-all (date_item abs) (item_allowed date_kind) (λ i d. (date-parts abs (sorted i) d).0) is e

pub date-short : (abs : Option Elapsed) (is : List Item) → every (date_item abs) is ≡ true → every elapsed_short is ≡ true
date-short abs is e = every-all (date_item abs) elapsed_short (λ i d. (date-parts abs (sorted i) d).1) is e

date-plain : (x : Elapsed) {i : Item} → Sorted i → date_item (some x) i ≡ true → is_plain (elapsed_index x) i ≡ false
unfolding date_item
date-plain x (timed y n) e = by-elapsed (λ (z : Elapsed). is_plain (elapsed_index z) (elapsed y n) ≡ false) refl refl refl x
date-plain x {i} (calm o) e =
    sym (plain-for x i) ∙ not-true (plain_for (some x) i) (and_parts ((item_row i).held_by date_kind) (not (plain_for (some x) i)) (rw o at e)).1

no_plain_lem : (x : Elapsed) (is : List Item) → every (date_item (some x)) is ≡ true → any (is_plain (elapsed_index x)) is ≡ false
no_plain_lem x is e = every-none (date_item (some x)) (is_plain (elapsed_index x)) (λ i d. date-plain x (sorted i) d) is e

date-apart : (abs : Option Elapsed) (is : List Item) → every (date_item abs) is ≡ true → {i : Item} → Sorted i → date_item abs i ≡ true → no_plain is i ≡ true
unfolding no_plain date_item
date-apart abs is a (timed x n) e =
    let s : abs ≡ some x = counts_some abs x (and_parts (counts abs x) (leb n 9) e).0 in
    rw (no_plain_lem x is (rw s at a))
date-apart abs is a (calm o) e = rw o

pub dates-apart : (abs : Option Elapsed) (is : List Item) → every (date_item abs) is ≡ true → every (no_plain is) is ≡ true
dates-apart abs is e = every-all (date_item abs) (no_plain is) (λ i d. date-apart abs is e (sorted i) d) is e

-- ---- the other way round: the unit that is counted is found

-- an elapsed item is one of a date that counts this unit
abbrev counts_in : Option Elapsed → Item → Bool
counts_in abs i = not (is_elapsed i) || date_item abs i

counts-unless : (abs : Option Elapsed) (i : Item) → is_elapsed i ≡ false → counts_in abs i ≡ true
counts-unless abs i e = rw e

-- the items js of is: none is elapsed, or all that are count x, whose plain equivalent is not in is
data Found (is js : List Item) : Type 0 where
  found_none : every (counts_in none) js ≡ true → Found is js
  found-one : (x : Elapsed) → every (counts_in (some x)) js ≡ true → any (is_plain (elapsed_index x)) is ≡ false → Found is js

found_here : (is js : List Item) {i : Item} → Sorted i → count is_elapsed (i ∷ js) ≤ 1 → elapsed_short i ≡ true → no_plain is i ≡ true
    → (count is_elapsed js ≤ 1 → Found is js) → Found is (i ∷ js)
unfolding count no_plain elapsed_short date_item
found_here is js (timed x n) c s p f =
    found-one x
    (every_in (counts_in (some x)) (elapsed x n) js (both (counts (some x) x) (leb n 9) (some-counts x) s)
    (unless is_elapsed (counts_in (some x)) (counts-unless (some x)) js (omega arith)))
    (not-true (any (is_plain (elapsed_index x)) is) p)
found_here is js {i} (calm o) c t p f = past (f (rw o at c))
  where
    past : Found is js → Found is (i ∷ js)
    past (found_none e) = found_none (every_in (counts_in none) i js (counts-unless none i o) e)
    past (found-one x e q) = found-one x (every_in (counts_in (some x)) i js (counts-unless (some x) i o) e) q

find : (is js : List Item) → count is_elapsed js ≤ 1 → every elapsed_short js ≡ true → every (no_plain is) js ≡ true → Found is js
unfolding every
find is [] c s e = found_none refl
find is (i ∷ js) c s e =
    let (s₁, s₂) = every-parts elapsed_short i js s in
    let (e₁, e₂) = every-parts (no_plain is) i js e in
    found_here is js (sorted i) c s₁ e₁ (λ d. find is js d s₂ e₂)

none-item : {i : Item} → Sorted i → item_allowed date_kind i ≡ true → counts_in none i ≡ true → date_item none i ≡ true
unfolding date_item item_allowed
none-item (timed x n) a c = c
none-item {i} (calm o) a c = rw (o, a, plain-for-none i)

some_item : (x : Elapsed) {i : Item} → Sorted i → (item_allowed date_kind i && not (is_plain (elapsed_index x) i)) ≡ true → counts_in (some x) i ≡ true → date_item (some x) i ≡ true
unfolding date_item item_allowed
some_item x (timed y n) a c = c
some_item x {i} (calm o) a c = rw (o, plain-for x i) a

pub record Counting (is : List Item) : Type 0 where
  pub abs : Option Elapsed
  pub each : every (date_item abs) is ≡ true

counting-of : (is : List Item) → every (item_allowed date_kind) is ≡ true → Found is is → Counting is
counting-of is a (found_none c) = record { abs = none; each = every-with (item_allowed date_kind) (counts_in none) (date_item none) (λ i. none-item (sorted i)) is a c }
counting-of is a (found-one x c p) =
    let unplain : Item → Bool = λ i. item_allowed date_kind i && not (is_plain (elapsed_index x) i) in
    let both_so : every unplain is ≡ true
    = every-with (item_allowed date_kind) (λ (i : Item). not (is_plain (elapsed_index x) i)) unplain (λ i. both (item_allowed date_kind i) (not (is_plain (elapsed_index x) i))) is a (none-every (is_plain (elapsed_index x)) is p) in
    record { abs = some x; each = every-with unplain (counts_in (some x)) (date_item (some x)) (λ i. some_item x (sorted i)) is both_so c }

pub counting : (is : List Item) → every (item_allowed date_kind) is ≡ true → every elapsed_short is ≡ true → count is_elapsed is ≤ 1
    → every (no_plain is) is ≡ true → Counting is
counting is a s c n = counting-of is a (find is is c s n)
