-- Counts as the digits of a number: what an item adds, each digit read again, and when one of them is positive.
-- Assumes nothing.
use Prim.Native.Nat.{ℕ, zero, suc, ◌+◌, ◌*◌, ◌/◌, ◌%◌, ◌^◌, ◌≤◌, ◌<◌}
use native.Mathlib.Omega.{arith}
use native.Mathlib.Nat.{pow-zero, zero-div, div-one, div-div-eq-div-mul, pow-succ'}
use mathlib.Core.Path.{◌≡◌, refl}
use mathlib.Core.Bool.{Bool}
use mathlib.Core.List.{List, [], ◌∷◌}
use lib.Dec.{ltb}
use lib.ListN.{length, get_or, drop}
use Rattle.lists.specs.Lists.{any, count, All}
use Rattle.lists.proofs.Bools.{by_cases}
use Rattle.lists.proofs.Counts.{count-least, either-positive}
use Rattle.formats.specs.Items.{Item}
use Rattle.tables.specs.Encode.{bit}
use Rattle.tallies.specs.Walk.{packed, tallies, weight}

-- ---- what an item adds
pub tallies-none : (ps : List (Item → Bool)) → packed (tallies ps []) ≡ 0
unfolding packed tallies count
tallies-none [] = refl
tallies-none (p ∷ ps) = rw (tallies-none ps)

pub tallies-turn : (ps : List (Item → Bool)) (i : Item) (is : List Item) → packed (tallies ps (i ∷ is)) ≡ weight ps i + packed (tallies ps is)
unfolding packed tallies weight count bit
tallies-turn [] i is = refl
tallies-turn (p ∷ ps) i is =
    let h = tallies-turn ps i is in by_cases (p i) (λ e. rw e (omega arith)) (λ e. rw e (omega arith))

-- the weight of an item that passes every test
unfoldable pub ones : List (Item → Bool) → ℕ
ones [] = 0
ones (p ∷ ps) = 1 + 256 * ones ps

pub weight-most : (ps : List (Item → Bool)) (i : Item) → weight ps i ≤ ones ps
unfolding weight ones bit
weight-most [] i = omega arith
weight-most (p ∷ ps) i = let h = weight-most ps i in by_cases (p i) (λ e. rw e (omega arith)) (λ e. rw e (omega arith))

-- ---- the digits
abbrev pub Small : List ℕ → Type 0
Small cs = All (λ (c : ℕ). c < 256) cs

pub digits_from : (cs : List ℕ) (j : ℕ) → Small cs → packed cs / 256 ^ j ≡ packed (drop j cs)
unfolding packed
digits_from cs zero h = rw (pow-zero 256) (div-one (packed cs))
digits_from [] (suc j) h = zero-div (256 ^ suc j)
digits_from (c ∷ cs) (suc j) h =
    let few = h.0 in
    let first : (c + 256 * packed cs) / 256 ≡ packed cs = omega arith in
    rw (pow-succ' 256 j, ← div-div-eq-div-mul (c + 256 * packed cs) 256 (256 ^ j), first) (digits_from cs j h.1)

first-digit : (cs : List ℕ) → Small cs → packed cs % 256 ≡ get_or cs 0 0
unfolding packed
first-digit [] h = refl
first-digit (c ∷ cs) h = let few = h.0 in omega arith

pub digit_at_lem : (cs : List ℕ) (j : ℕ) → Small cs → packed cs / 256 ^ j % 256 ≡ get_or cs j 0
digit_at_lem cs j h = rw (digits_from cs j h) (dropped cs j h)
  where
    dropped : (cs : List ℕ) (j : ℕ) → Small cs → packed (drop j cs) % 256 ≡ get_or cs j 0
    dropped cs zero h = first-digit cs h
    dropped [] (suc j) h = first-digit [] h
    dropped (c ∷ cs) (suc j) h = dropped cs j h.1

-- no count passes the number of items
pub tallies-small : (ps : List (Item → Bool)) (is : List Item) → length is < 256 → Small (tallies ps is)
unfolding tallies
tallies-small [] is h = tt
tallies-small (p ∷ ps) is h = (omega (arith, count-least p is), tallies-small ps is h)

-- ---- one of them is positive
pub packed-positive : (ps : List (Item → Bool)) (is : List Item) → ltb 0 (packed (tallies ps is)) ≡ any (λ (i : Item). ltb 0 (weight ps i)) is
unfolding any
packed-positive ps [] = rw (tallies-none ps)
packed-positive ps (i ∷ is) =
    rw (tallies-turn ps i is, ← either-positive (weight ps i) (packed (tallies ps is)), packed-positive ps is)
    (by_cases (ltb 0 (weight ps i)) (λ h. rw h) (λ h. rw h))
