-- The answer in the code's terms, and a turn by how the number stands to the day.
-- Assumes nothing.
use Prim.Native.Nat.{ℕ, zero, suc, ◌-◌, ◌≤◌, ◌<◌}
use native.Mathlib.Omega.{arith}
use mathlib.Core.Path.{◌≡◌, refl}
use borrow.Author.Tests.{ltb-true, ltb-false, lt-ltb, le-ltb, le-leb, lt-leb}
use lib.Dec.{ltb}
use Rattle.lists.proofs.Bools.{by_cases}
use Rattle.searching.specs.declared.Search.{Search}
use Rattle.searching.specs.declared.Turn.{Turn}
use Rattle.searching.specs.declared.Turn.TheVariants.{Found}
use Rattle.searching.specs.Machine.{answer, above, not_above, told_of}

pub answer-found : (n : ℕ) → (n ≡ 0 → ⊥) → Found (n - 1) ≡ answer n
unfolding answer
answer-found zero h = absurd (h refl)
answer-found (suc n) h = let e : suc n - 1 ≡ n = omega arith in rw e

pub told-above : (s : Search) (number : ℕ) → s.day < number → told_of s number ≡ above s
unfolding told_of
told-above s number h = let g : s.day ≤ number = omega arith in search (lt-ltb, le-leb)

-- "not above the day": a number equal to the day is none above it
pub told-not-above : (s : Search) (number : ℕ) → number ≤ s.day → told_of s number ≡ not_above s
unfolding told_of
told-not-above s number h = search (le-ltb, lt-leb)

pub told-cases : (P : Turn → Type 0) (s : Search) (number : ℕ) → (s.day < number → P (above s)) → (number ≤ s.day → P (not_above s))
    → P (told_of s number)
told-cases P s number p q =
    by_cases (ltb s.day number)
    (λ t. let h = ltb-true s.day number t in rw (told-above s number h) (p h))
    (λ f. let h = ltb-false s.day number f in rw (told-not-above s number h) (q h))
