-- Whoever hands the entries over need not read the found one again: its number is the last one handed over that is not above the day.
-- Assumes nothing.
use Prim.Native.Nat.{ℕ, zero, suc, ◌+◌, ◌-◌, ◌<◌}
use native.Mathlib.Omega.{arith}
use mathlib.Core.Path.{◌≡◌, refl}
use mathlib.Core.Bool.{cond, ◌&&◌}
use mathlib.Core.List.{List}
use borrow.Author.Tests.{lt-leb, le-leb}
use lib.Dec.{leb}
use lib.ListN.{get_or}
use Rattle.lists.proofs.Bools.{cond_both}
use Rattle.searching.specs.declared.Search.{Search}
use Rattle.searching.specs.declared.Turn.{Turn}
use Rattle.searching.specs.declared.Turn.TheVariants.{Read, Found, Nothing}
use Rattle.searching.proofs.Steps.{told-cases}
use Rattle.searching.specs.Machine.{border, answer, between, above, not_above, started, told_of}

module _ (day : ℕ) (numbers : List ℕ) where
  -- the number kept is that of the last entry known not to be above the day
  abbrev pub Keeps : Turn → ℕ → Type 0
  Keeps (Read k s) kept = (s.day ≡ day) × (s.asked ≡ k) × (0 < s.low → kept ≡ get_or numbers (s.low - 1) 0)
  Keeps (Found k) kept = kept ≡ get_or numbers k 0
  Keeps Nothing kept = Unit {0}

  keeps-answer : (low kept : ℕ) → (0 < low → kept ≡ get_or numbers (low - 1) 0) → Keeps (answer low) kept
  unfolding answer
  keeps-answer zero kept h = tt
  keeps-answer (suc k) kept h =
      let e : suc k - 1 ≡ k = omega arith in
      rw e at (h (omega arith))

  keeps-between : (low last kept : ℕ) → (0 < low → kept ≡ get_or numbers (low - 1) 0) → Keeps (between day low last) kept
  unfolding between
  keeps-between low last kept h = (refl, refl, h)

  pub keeps-started : (kept : ℕ) → Keeps (started day) kept
  unfolding started
  keeps-started kept = (refl, refl, λ h. absurd (omega arith))

  keeps-above : (s : Search) (kept : ℕ) → s.day ≡ day → (0 < s.low → kept ≡ get_or numbers (s.low - 1) 0) → Keeps (above s) kept
  unfolding above
  keeps-above s kept e h =
      cond_both (λ (t : Turn). Keeps t kept) (leb s.asked s.low) (keeps-answer s.low kept h)
      (cond_both (λ (t : Turn). Keeps t kept) (s.first && leb s.asked border) (e, refl, h) (rw e (keeps-between s.low (s.asked - 1) kept h)))

  keeps-not-above : (s : Search) (kept : ℕ) → s.day ≡ day → kept ≡ get_or numbers s.asked 0 → Keeps (not_above s) kept
  unfolding not_above
  keeps-not-above s kept e h =
      let b : s.asked + 1 - 1 ≡ s.asked = omega arith in
      let next : 0 < s.asked + 1 → kept ≡ get_or numbers (s.asked + 1 - 1) 0 = λ p. rw b h in
      cond_both (λ (t : Turn). Keeps t kept) (leb s.last s.asked) h
      (cond_both (λ (t : Turn). Keeps t kept) (s.first && leb border s.asked) (e, refl, next)
      (rw e (keeps-between (s.asked + 1) s.last kept next)))

  -- a turn keeps it, the entry's number being kept where it is not above the day
  pub keeps-told : (k : ℕ) (s : Search) (kept number : ℕ) → number ≡ get_or numbers k 0 → Keeps (Read k s) kept
      → Keeps (told_of s number) (cond (leb number day) number kept)
  keeps-told k s kept number e (d, a, h) =
      told-cases (λ (t : Turn). Keeps t (cond (leb number day) number kept)) s number
      (λ n. rw (lt-leb number day (omega arith)) (keeps-above s kept d h))
      (λ n. rw (le-leb number day (omega arith)) (keeps-not-above s number d (rw a e)))
