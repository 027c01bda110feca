-- The searches for the first draft that fails a test.
-- Assumes nothing.
use Prim.Native.Nat.{ℕ, suc, ◌+◌, ◌≤◌, ◌<◌}
use native.Mathlib.Numerals.{add-one}
use mathlib.Core.Path.{◌≡◌, refl, sym, ◌∙◌}
use mathlib.Core.Bool.{Bool, true, false, not}
use mathlib.Core.List.{List, [], ◌∷◌}
use lib.ListN.{length, drop, get_or, drop_of_length-le}
use lib.Seq.{drop-cons}
use Rattle.std.proofs.Common.{Option as Found, Some, None}
use Rattle.std.proofs.lemmas.Iterator.Adapters.{position_from-zero}
use Rattle.std.specs.List.{position, position_from}
use Rattle.lists.specs.Lists.{first_failing}
use Rattle.lists.proofs.Bools.{by_cases}
use Rattle.lists.proofs.First.{first-exactly}
use Rattle.examining.specs.Examine.{found}

-- ---- by a chain
module _ {A : Type 0} (g : A → Bool) where
  failing-from : (k : ℕ) (xs : List A) → found (position_from (λ (x : A). not (g x)) k xs) ≡ first_failing (λ (i : ℕ) (x : A). g x) k xs
  unfolding first_failing found
  failing-from k [] = refl
  failing-from k (x ∷ xs) = by_cases (g x) (λ e. rw (e, add-one k) (failing-from (suc k) xs)) (λ e. rw e)

  pub position-failing : (xs : List A) (o : Found ℕ) → o ≡ position (λ (x : A). not (g x)) xs → found o ≡ first_failing (λ (i : ℕ) (x : A). g x) 0 xs
  position-failing xs o e =
      let f : o ≡ position_from (λ (x : A). not (g x)) 0 xs = e ∙ position_from-zero (λ (x : A). not (g x)) xs in
      rw f (failing-from 0 xs)

-- ---- by a loop: nothing before place i fails
abbrev pub Seeking : {A : Type 0} → (ℕ → A → Bool) → List A → ℕ → Type 0
Seeking f xs i = first_failing f 0 xs ≡ first_failing f i (drop i xs)

module _ {A : Type 0} (f : ℕ → A → Bool) (xs : List A) (i : ℕ) (inv : Seeking f xs i) where
  pub seeking-end : length xs ≤ i → found None ≡ first_failing f 0 xs
  unfolding first_failing found
  seeking-end h = sym (inv ∙ rw (drop_of_length-le xs h))

  module _ (d : A) (h : i < length xs) where
    pub seeking-fail : f i (get_or xs i d) ≡ false → found (Some i) ≡ first_failing f 0 xs
    unfolding first_failing found
    seeking-fail e = sym (inv ∙ rw (drop-cons xs i d h, e))

    pub seeking-step : f i (get_or xs i d) ≡ true → Seeking f xs (i + 1)
    unfolding first_failing
    seeking-step e = inv ∙ rw (drop-cons xs i d h, e, add-one i)

-- what is found stands in the list
pub found_within : {A : Type 0} (f : ℕ → A → Bool) (xs : List A) (i : ℕ) → found (Some i) ≡ first_failing f 0 xs → i < length xs
unfolding found
found_within f xs i e = ((first-exactly f xs i).0 (sym e)).within
