-- Tests and their facts: a conjunction that holds holds in each part, and the other way round.
-- Assumes nothing.
use Prim.Native.Nat.{suc}
use native.Mathlib.Omega.{arith}
use mathlib.Core.Path.{◌≡◌, refl}
use mathlib.Core.Bool.{Bool, true, false, cond, not, ◌&&◌, true≢false}
use mathlib.Core.List.{List, [], ◌∷◌}
use Rattle.lists.specs.Lists.{every, any, count}
use Rattle.lists.proofs.Bools.{no, by_cases}
use Rattle.lists.proofs.Counts.{any-count}

pub both : (a b : Bool) → a ≡ true → b ≡ true → (a && b) ≡ true
both true b e f = f
both false b e f = e

pub cond-parts : (a b : Bool) → cond a b false ≡ true → (a ≡ true) × (b ≡ true)
cond-parts true b e = (refl, e)
cond-parts false b e = no e

module _ {A : Type 0} (f : A → Bool) where
  pub every-parts : (x : A) (xs : List A) → every f (x ∷ xs) ≡ true → (f x ≡ true) × (every f xs ≡ true)
  unfolding every
  every-parts x xs e = cond-parts (f x) (every f xs) e

  pub every_in : (x : A) (xs : List A) → f x ≡ true → every f xs ≡ true → every f (x ∷ xs) ≡ true
  unfolding every
  every_in x xs e h = rw e h

  -- what two tests make sure of, and what one does
  pub every-with : (g h : A → Bool) → ((x : A) → f x ≡ true → g x ≡ true → h x ≡ true) → (xs : List A) → every f xs ≡ true → every g xs ≡ true → every h xs ≡ true
  unfolding every
  every-with g h k [] e d = refl
  every-with g h k (x ∷ xs) e d = by_cases (f x)
      (λ a. by_cases (g x) (λ b. rw (k x a b) (every-with g h k xs (rw a at e) (rw b at d))) (λ b. no (rw b at d)))
      (λ a. no (rw a at e))

  pub every-all : (h : A → Bool) → ((x : A) → f x ≡ true → h x ≡ true) → (xs : List A) → every f xs ≡ true → every h xs ≡ true
  every-all h k xs e = every-with f h (λ x a b. k x a) xs e e

  -- where a test holds throughout, one that it rules out never does; and where one never does, its contrary holds throughout
  pub every-none : (g : A → Bool) → ((x : A) → f x ≡ true → g x ≡ false) → (xs : List A) → every f xs ≡ true → any g xs ≡ false
  unfolding every any
  every-none g k [] e = refl
  every-none g k (x ∷ xs) e = by_cases (f x) (λ h. rw (k x h) (every-none g k xs (rw h at e))) (λ h. no (rw h at e))

  -- a test that only what is not there may fail
  pub unless : (g : A → Bool) → ((x : A) → f x ≡ false → g x ≡ true) → (xs : List A) → count f xs ≡ 0 → every g xs ≡ true
  unfolding every count
  unless g k [] e = refl
  unless g k (x ∷ xs) e =
      by_cases (f x)
      (λ h. let z : suc (count f xs) ≡ 0 = rw h at e in absurd (omega arith))
      (λ h. rw (k x h) (unless g k xs (rw h at e)))

  pub absent : (xs : List A) → count f xs ≡ 0 → any f xs ≡ false
  absent xs e = by_cases (any f xs) (λ h. absurd (omega (arith, any-count f xs h))) (λ h. h)

  pub none-every : (xs : List A) → any f xs ≡ false → every (λ (x : A). not (f x)) xs ≡ true
  unfolding every any
  none-every [] e = refl
  none-every (x ∷ xs) e = by_cases (f x) (λ h. absurd (true≢false (rw h at e))) (λ h. rw h (none-every xs (rw h at e)))
