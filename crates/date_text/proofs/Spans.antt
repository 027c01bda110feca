-- The units that items show: the finest of several, and that each takes some time.
-- Assumes nothing.
use Prim.Native.Nat.{ℕ, zero, suc, ◌-◌, ◌^◌, ◌≤◌, ◌<◌, min}
use native.Mathlib.Omega.{arith}
use mathlib.Core.Path.{◌≡◌}
use mathlib.Core.Bool.{true}
use mathlib.Core.List.{List, [], ◌∷◌}
use lib.Dec.{eqb, ltb}
use borrow.Author.Tests.{eqb-true}
use Rattle.lists.proofs.Bools.{by_cases, and_parts}
use Rattle.formats.specs.Items.{Item, elapsed}
use Rattle.formats.specs.Reading.{item_span, finest_span, day_span}
use Rattle.formats.proofs.Each.{by-item, by-elapsed}
use Rattle.tables.specs.Encode.{entry}
use Rattle.tables.specs.Decode.{item_at}
use Rattle.date_text.specs.Moment.{is_named}

-- no unit is coarser than the day
pub with-day : (f : ℕ) → f ≤ day_span → f ≡ min f day_span
with-day f h = omega arith

-- a month or a day that is shown by its name is of the day
pub named-day : (tag n : ℕ) → is_named tag n ≡ true → item_span (item_at (entry tag n)) ≡ day_span
unfolding item_span item_at
named-day tag n h =
    by_cases (eqb tag 12)
    (λ t. rw (eqb-true tag 12 t))
    (λ t. rw (eqb-true tag 13 (and_parts (eqb tag 13) (ltb 2 n) (rw t at h)).0))

-- a part of three digits or more is a millisecond
pub part-fine : (n : ℕ) → 3 ≤ n → 1 ≡ 10 ^ (3 - n)
part-fine n h = let e : 3 - n ≡ 0 = omega arith in rw e

part-long : (n : ℕ) → 0 < 10 ^ (3 - n)
part-long zero = omega arith
part-long (suc zero) = omega arith
part-long (suc (suc zero)) = omega arith
part-long (suc (suc (suc n))) = omega (arith, part-fine (suc (suc (suc n))) (omega arith))

item-long : (i : Item) → 0 < item_span i
unfolding item_span
item-long =
    by-item (λ i. 0 < item_span i) (λ u. omega arith) (λ u. omega arith) (λ u. omega arith) (λ p. omega arith) (omega arith) (omega arith) (omega arith) (omega arith)
    (λ n. omega arith) (λ n. omega arith) (λ n. omega arith) (λ n. omega arith) (λ n. omega arith) (λ n. omega arith) part-long
    (λ e n. by-elapsed (λ d. 0 < item_span (elapsed d n)) (omega arith) (omega arith) (omega arith) e) (λ h. omega arith) (λ x. omega arith) (omega arith) (λ n. omega arith)

finest-long : (is : List Item) → 0 < finest_span is
unfolding finest_span
finest-long [] = omega arith
finest-long (i ∷ is) = omega (arith, item-long i, finest-long is)

-- the finest unit takes some time
pub finest-some : {f : ℕ} (is : List Item) → f ≡ finest_span is → 0 < f
finest-some is e = omega (arith, finest-long is)
