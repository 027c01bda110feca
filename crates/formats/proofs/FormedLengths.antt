-- The items of tokens in range are in range, but for the limits on elapsed runs and fixed numbers.
-- Assumes nothing.
use Prim.Native.Nat.{ℕ, zero, suc, ◌≤◌}
use native.Mathlib.Omega.{arith}
use mathlib.Core.Path.{◌≡◌, refl}
use mathlib.Core.Bool.{Bool, true, false, not, ◌&&◌}
use mathlib.Core.List.{List, [], ◌∷◌, map}
use lib.Dec.{T, leb, eqb, leb→le, le→leb}
use borrow.Author.Tests.{eqb-false}
use Rattle.lists.specs.Lists.{every, is_empty}
use Rattle.lists.proofs.Bools.{cond_both, cond-case, and_left, and_right, and_in, true-T, every-head, every-tail, every-cons, implied, implies-in}
use Rattle.lists.proofs.Counts.{every_map}
use Rattle.values.specs.Ranges.{between}
use Rattle.formats.specs.Tokens.{Token, Letter, HalfDay, run_allowed}
use Rattle.formats.specs.Items as item
use Rattle.formats.specs.Items.{Item, is_unit, item_in_range, Run, means_minutes, month_or_minute, settled_item}
use Rattle.formats.specs.Kinds.{Parts, run_item, token_items, section_of}
use Rattle.formats.specs.Where.{implies}
use Rattle.formats.specs.Limits.{elapsed_short, fixed_small}
use Rattle.formats.proofs.TokenRanges.{token_passes, token_in_range, items-pass}
use Rattle.formats.proofs.FormedItems.{settled-cases}
use Rattle.formats.proofs.Each.{by_token, by-letter, by-half}

-- in range where it is within the limits on elapsed runs and fixed numbers
unfoldable pub ranged_short : Item → Bool
ranged_short i = implies (elapsed_short i && fixed_small i) (item_in_range i)

literals-ranged : (us : List ℕ) → T (every is_unit us) → T (every ranged_short (map item.literal us))
unfolding ranged_short elapsed_short fixed_small item_in_range
literals-ranged us t = rw (every_map ranged_short item.literal us) t

run-ranged : (l : Letter) (n : ℕ) → T (run_allowed l n) → T (ranged_short (run_item l n))
unfolding ranged_short elapsed_short fixed_small item_in_range run_item
run-ranged l n = by-letter (λ (k : Letter). T (run_allowed k n) → T (ranged_short (run_item k n))) (λ t. t) (λ t. t) (λ t. t) (λ t. t) (λ t. t) l

one : (i : Item) → T (ranged_short i) → T (every ranged_short (i ∷ []))
unfolding every
one i h = every-cons ranged_short i [] h tt

token-ranged : (d : Bool) (t : Token) → T (token_in_range t) → T (every ranged_short (token_items d t))
unfolding every ranged_short elapsed_short fixed_small item_in_range token_items token_passes
token-ranged d =
    by_token (λ (t : Token). T (token_in_range t) → T (every ranged_short (token_items d t)))
    (λ us h. literals-ranged us (and_left (every is_unit us) (not (is_empty us)) h)) (λ u h. one (item.literal u) h) (λ u h. one (item.blank u) h) (λ u h. one (item.fill u) h) (λ p h. tt)
    (λ h. cond_both (λ (i : Item). T (every ranged_short (i ∷ []))) d {x = item.literal 46} {y = item.point} tt tt)
    (λ h. cond_both (λ (is : List Item). T (every ranged_short is)) d {x = item.literal 44 ∷ []} {y = []} tt tt)
    (λ h. tt) (λ h. tt) (λ h. tt) (λ h. tt) (λ k h. by-half (λ (x : HalfDay). T (every ranged_short (item.half x ∷ []))) tt tt k) (λ l n h. one (run_item l n) (run-ranged l n h))
    (λ e n h. one (item.elapsed e n) (implies-in (leb n 9 && true) (leb 1 n && leb n 9) (λ s. and_in (leb 1 n) (leb n 9) h (and_left (leb n 9) true (true-T s)))))
    (λ n h. tt) (λ w h. tt) (λ m h. tt) (λ p h. tt)
    (λ p n h. every-cons ranged_short (item.place p) (item.solidus ∷ item.fixed n ∷ []) tt (every-cons ranged_short item.solidus (item.fixed n ∷ []) tt (one (item.fixed n)
    (implies-in (leb n 999) (leb 1 n && leb n 999) (λ s. and_in (leb 1 n) (leb n 999) (and_left (leb 1 n) (leb n 1000) h) (true-T s))))))

part-ranged : (n : ℕ) → n ≤ 3 → eqb n 0 ≡ false → T (ranged_short (item.part n))
unfolding ranged_short elapsed_short fixed_small item_in_range
part-ranged zero h e = absurd (eqb-false 0 0 e refl)
part-ranged (suc n) h e = and_in (leb 1 (suc n)) (leb (suc n) 3) (le→leb 1 (suc n) (omega arith)) (le→leb (suc n) 3 h)

-- a run of m of 1 to 5 is minutes only where it is one of 1 or 2
month-ranged : (b : Bool) (n : ℕ) → T (between 1 5 n) → T (ranged_short (month_or_minute b n))
unfolding ranged_short elapsed_short fixed_small item_in_range month_or_minute run_allowed
month-ranged b n t =
    cond-case (λ (i : Item). T (ranged_short i)) (b && leb n 2)
    (λ h. and_in (leb 1 n) (leb n 2) (and_left (leb 1 n) (leb n 5) t) (and_right b (leb n 2) (true-T h)))
    (λ h. t)

minute-month : (n : ℕ) → T (between 1 2 n) → T (between 1 5 n)
minute-month n t =
    let h : n ≤ 2 = leb→le n 2 (and_right (leb 1 n) (leb n 2) t) in
    and_in (leb 1 n) (leb n 5) (and_left (leb 1 n) (leb n 2) t) (le→leb n 5 (omega arith))

item-settled : (e l : Run) (i : Item) → T (ranged_short i) → T (ranged_short (settled_item e l i))
unfolding ranged_short elapsed_short fixed_small item_in_range run_allowed
item-settled e l = settled-cases (λ (i : Item) (g : Run → Run → Item). T (ranged_short i) → T (ranged_short (g e l)))
    (λ n t. month-ranged (means_minutes e l) n t) (λ n t. month-ranged (means_minutes e l) n (minute-month n t)) (λ i t. t)

within-ranged : (is : List Item) → T (every ranged_short is) → T (every elapsed_short is) → T (every fixed_small is) → T (every item_in_range is)
unfolding every ranged_short
within-ranged [] t u v = tt
within-ranged (i ∷ is) t u v =
    every-cons item_in_range i is
    (implied (elapsed_short i && fixed_small i) (item_in_range i) (every-head ranged_short i is t)
    (and_in (elapsed_short i) (fixed_small i) (every-head elapsed_short i is u) (every-head fixed_small i is v)))
    (within-ranged is (every-tail ranged_short i is t) (every-tail elapsed_short i is u) (every-tail fixed_small i is v))

-- the items of a section
pub items-in-range : (p : Parts) → T (every token_in_range p.body) → T (every elapsed_short (section_of p).items)
    → T (every fixed_small (section_of p).items) → T (every item_in_range (section_of p).items)
items-in-range p t u v =
    within-ranged (section_of p).items (items-pass token_in_range ranged_short token-ranged part-ranged item-settled p t) u v
