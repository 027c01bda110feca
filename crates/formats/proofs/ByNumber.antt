-- What is read off a list of rows by its number: a law of all rows is one computed equation.
-- Assumes nothing.
use Prim.Native.Nat.{ℕ, zero, suc, ◌+◌, ◌≤◌, ◌<◌}
use native.Mathlib.Omega.{arith}
use native.Mathlib.Nat.{le_of_suc-le-suc}
use mathlib.Core.Path.{◌≡◌, refl, sym, ap, ◌∙◌}
use mathlib.Core.List.{List, [], ◌∷◌, map}
use borrow.Author.Tests.{ltb-true, ltb-false}
use lib.Dec.{ltb}
use lib.ListN.{length, get_or, get_or-map, get_or-eq_default}
use Rattle.lists.proofs.Bools.{by_cases}

-- what h says of the n numbers from k on
abbrev pub numbered : {B : Type 0} → (ℕ → B) → ℕ → ℕ → List B
numbered h k zero = []
numbered h k (suc n) = h k ∷ numbered h (suc k) n

module _ {B : Type 0} (h : ℕ → B) where
  numbered-at : (k n f : ℕ) (d : B) → f < n → get_or (numbered h k n) f d ≡ h (k + f)
  numbered-at k zero f d l = absurd (omega arith)
  numbered-at k (suc n) zero d l = ap h (omega arith)
  numbered-at k (suc n) (suc f) d l = numbered-at (suc k) n f d (le_of_suc-le-suc l) ∙ ap h (omega arith)

  numbered-length : (k n : ℕ) → length (numbered h k n) ≡ n
  numbered-length k zero = refl
  numbered-length k (suc n) = ap suc (numbered-length (suc k) n)

-- what g says of each row is what h says of its number, and so behind the last row
module _ {A B : Type 0} (g : A → B) (h : ℕ → B) (rows : List A) (n : ℕ) (last : A) where
  pub by_number : map g rows ≡ numbered h 0 n → ((f : ℕ) → n ≤ f → g last ≡ h f) → (f : ℕ) → g (get_or rows f last) ≡ h f
  by_number e behind f =
      sym (get_or-map g rows f last) ∙ ap (λ (bs : List B). get_or bs f (g last)) e
      ∙ by_cases (ltb f n)
      (λ t. numbered-at h 0 n f (g last) (ltb-true f n t) ∙ ap h (omega arith))
      (λ t. let p = ltb-false f n t in get_or-eq_default (numbered h 0 n) (g last) {n = f} (rw (numbered-length h 0 n) p) ∙ behind f p)
