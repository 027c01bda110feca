-- The laws of the choice: of the fallbacks, and of what a section takes.
-- Assumes nothing.
use Prim.Native.Nat.{ℕ, ◌*◌}
use native.Mathlib.Omega.{arith}
use native.Mathlib.Nat.{zero-mul, mul-one}
use mathlib.Core.Path.{◌≡◌, refl}
use mathlib.Core.Bool.{Bool, true, false, cond, not, ◌&&◌, ◌||◌}
use lib.Dec.{ltb, eqb}
use borrow.Author.Tests.{le-ltb, eq-eqb, ne_eqb}
use Rattle.lists.proofs.Bools.{by_cases}
use Rattle.formats.specs.Items.{Section}
use Rattle.formats.specs.Where.{has_condition}
use Rattle.formats.specs.Choice.{Exact, zero_exact, smaller, less_than, fallback, reason_for, condition_holds, reason_holds}
use Rattle.formats.specs.Minus.{is_own}
use Rattle.choosing.specs.declared.sought.Sought.{Sought}
use Rattle.choosing.specs.Seeking.{parts_of_one, exact_of, takes}

-- a number is below 0 where its sign says so
pub below-zero : (x : Exact) → less_than x zero_exact ≡ x.negative
unfolding less_than smaller
below-zero x = signed x.negative (le-ltb (x.size.above * 1) (0 * x.size.below) (omega arith))
  where
    signed : (b : Bool) {c : Bool} → c ≡ false → cond b true c ≡ b
    signed true e = refl
    signed false e = e

pub above_zero_lem : (v : Sought) → not v.negative && ltb 0 v.above ≡ less_than zero_exact (exact_of v)
unfolding less_than exact_of smaller
above_zero_lem v = rw (zero-mul (parts_of_one v), mul-one v.above) (signed v.negative)
  where
    signed : (b : Bool) → not b && ltb 0 v.above ≡ cond b false (ltb 0 v.above)
    signed true = refl
    signed false = refl

-- only a condition of its own makes a reason the section's own
fallback-own : (n i : ℕ) → is_own (fallback n i) ≡ false
unfolding fallback
fallback-own n i =
    by_cases (eqb n 1) (λ a. rw a) (λ a. by_cases (eqb n 2)
    (λ b. by_cases (eqb i 0) (λ c. rw (a, b, c)) (λ c. rw (a, b, c)))
    (λ b. by_cases (eqb i 0) (λ c. rw (a, b, c)) (λ c. by_cases (eqb i 1) (λ d. rw (a, b, c, d)) (λ d. rw (a, b, c, d)))))

pub reason-own : (n i : ℕ) (s : Section) → is_own (reason_for n i s) ≡ has_condition s
unfolding reason_for
reason-own n i s = by_cases (has_condition s) (λ h. rw h) (λ h. rw h (fallback-own n i))

-- the fallback of each section, by N
module _ (n i : ℕ) (v : Sought) (s : Section) where
  pub fallback-only : n ≡ 1 → true ≡ reason_holds (fallback n i) s (exact_of v)
  unfolding fallback reason_holds
  fallback-only a = rw (eq-eqb n 1 a)

  pub fallback-of-two : n ≡ 2 → not (eqb i 0) || not v.negative ≡ reason_holds (fallback n i) s (exact_of v)
  unfolding fallback reason_holds exact_of
  fallback-of-two b =
      let apart : n ≡ 1 → ⊥ = λ e. absurd (omega arith) in
      by_cases (eqb i 0)
      (λ c. rw (c, ne_eqb n 1 apart, eq-eqb n 2 b, below-zero (exact_of v)))
      (λ c. rw (c, ne_eqb n 1 apart, eq-eqb n 2 b))

  pub fallback-first : (r : Bool) → (n ≡ 1 → ⊥) → (n ≡ 2 → ⊥) → i ≡ 0 → r ≡ less_than zero_exact (exact_of v)
      → r ≡ reason_holds (fallback n i) s (exact_of v)
  unfolding fallback reason_holds
  fallback-first r a b c e = rw (ne_eqb n 1 a, ne_eqb n 2 b, eq-eqb i 0 c) e

  pub fallback-second : (n ≡ 1 → ⊥) → (n ≡ 2 → ⊥) → (i ≡ 0 → ⊥) → i ≡ 1 → v.negative ≡ reason_holds (fallback n i) s (exact_of v)
  unfolding fallback reason_holds exact_of
  fallback-second a b c d = rw (ne_eqb n 1 a, ne_eqb n 2 b, ne_eqb i 0 c, eq-eqb i 1 d, below-zero (exact_of v))

  pub fallback-other : (n ≡ 1 → ⊥) → (n ≡ 2 → ⊥) → (i ≡ 0 → ⊥) → (i ≡ 1 → ⊥) → true ≡ reason_holds (fallback n i) s (exact_of v)
  unfolding fallback reason_holds
  fallback-other a b c d = rw (ne_eqb n 1 a, ne_eqb n 2 b, ne_eqb i 0 c, ne_eqb i 1 d)

-- what a section takes
module _ (n i : ℕ) (s : Section) (x : Exact) where
  pub takes-own : (r : Bool) → has_condition s ≡ true → r ≡ condition_holds s.condition x → r ≡ takes n i s x
  unfolding takes reason_for reason_holds
  takes-own r e g = rw e g

  pub takes-fallback : (r : Bool) → has_condition s ≡ false → r ≡ reason_holds (fallback n i) s x → r ≡ takes n i s x
  unfolding takes reason_for
  takes-fallback r e g = rw e g
