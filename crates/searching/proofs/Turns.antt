-- Turns: what one more does, that an answer stays, and that a search which comes to find an entry asks only for entries that are there.
-- Assumes nothing.
use Prim.Native.Nat.{ℕ, zero, suc, ◌≤◌, ◌<◌}
use native.Mathlib.Omega.{arith}
use mathlib.Core.Path.{◌≡◌, refl, sym, ◌∙◌}
use mathlib.Core.List.{List}
use borrow.Author.Tests.{ltb-true, ltb-false, lt-ltb, le-ltb}
use lib.Dec.{ltb}
use lib.ListN.{length, get_or}
use Rattle.lists.proofs.Bools.{by_cases}
use Rattle.searching.specs.declared.Search.{Search}
use Rattle.searching.specs.declared.Turn.TheVariants.{Read, Found, Nothing}
use Rattle.searching.specs.Machine.{answer, told_of}
use Rattle.searching.specs.Search.{handed, driven}

module _ (numbers : List ℕ) where
  pub driven-next : (turns k : ℕ) (s : Search) → k < length numbers
      → driven (suc turns) numbers (Read k s) ≡ driven turns numbers (told_of s (get_or numbers k 0))
  unfolding driven handed
  driven-next turns k s h = rw (lt-ltb k (length numbers) h)

  pub driven-found : (turns k : ℕ) → driven turns numbers (Found k) ≡ Found k
  unfolding driven handed
  driven-found zero k = refl
  driven-found (suc turns) k = driven-found turns k

  pub driven-none : (turns : ℕ) → driven turns numbers Nothing ≡ Nothing
  unfolding driven handed
  driven-none zero = refl
  driven-none (suc turns) = driven-none turns

  pub driven-answer : (turns c : ℕ) → driven turns numbers (answer c) ≡ answer c
  unfolding answer
  driven-answer turns zero = driven-none turns
  driven-answer turns (suc k) = driven-found turns k

  -- where the entry asked for is not there the search asks for ever
  stays : (turns k : ℕ) (s : Search) → length numbers ≤ k → driven turns numbers (Read k s) ≡ Read k s
  unfolding driven handed
  stays zero k s h = refl
  stays (suc turns) k s h = rw (le-ltb k (length numbers) h) (stays turns k s h)

  asking : (k n : ℕ) (s : Search) → Read k s ≡ Found n → ⊥
  asking k n s e = let z : ◌≡◌ {A = ℕ} 0 1 = cc in omega arith

  pub read-there : (turns k n : ℕ) (s : Search) → driven turns numbers (Read k s) ≡ Found n → k < length numbers
  read-there turns k n s e =
      by_cases (ltb k (length numbers))
      (λ t. ltb-true k (length numbers) t)
      (λ f. absurd (asking k n s (sym (stays turns k s (ltb-false k (length numbers) f)) ∙ e)))

  pub turn-left : (turns k n : ℕ) (s : Search) → driven turns numbers (Read k s) ≡ Found n → 0 < turns
  unfolding driven
  turn-left zero k n s e = absurd (asking k n s e)
  turn-left (suc turns) k n s e = omega arith
