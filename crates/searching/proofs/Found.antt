-- What the last entry not above a day is, said by its place: it is not above the day, and every later one is; where there is none, all are.
-- Assumes nothing.
use Prim.Native.Nat.{ℕ, zero, suc, ◌+◌, ◌≤◌, ◌<◌}
use native.Mathlib.Omega.{arith}
use mathlib.Core.Path.{◌≡◌, refl, sym, ap, ◌∙◌}
use mathlib.Core.Logic.{◌⊎◌, inl, inr, ⊎_elim}
use mathlib.Core.List.{List, [], ◌∷◌}
use mathlib.Core.Option.{Option, none, some}
use borrow.Author.Tests.{leb-true, leb-false}
use lib.Dec.{leb}
use lib.ListN.{length, get_or}
use Rattle.lists.proofs.Bools.{by_cases}
use Rattle.searching.specs.Search.{last_from, last_not_above, answered}

pub record Last (day : ℕ) (numbers : List ℕ) (k : ℕ) : Type 0 where
  pub within : k < length numbers
  pub not_above : get_or numbers k 0 ≤ day
  pub later : (i : ℕ) → k < i → i < length numbers → day < get_or numbers i 0

abbrev pub AllAbove : ℕ → List ℕ → Type 0
AllAbove day numbers = (i : ℕ) → i < length numbers → day < get_or numbers i 0

same_some : (m n : ℕ) → some m ≡ some n → m ≡ n
same_some m n e = cc

not_none : (n : ℕ) → some n ≡ none → ⊥
not_none n e = let z : ◌≡◌ {A = ℕ} 0 1 = cc in omega arith

module _ (day : ℕ) where
  -- a later one is found
  record Later (k : ℕ) (xs : List ℕ) (o : Option ℕ) : Type 0 where
    index : ℕ
    place : o ≡ some (k + index)
    last : Last day xs index

  above_more : (x : ℕ) (xs : List ℕ) → day < x → AllAbove day xs → AllAbove day (x ∷ xs)
  above_more x xs h a zero l = h
  above_more x xs h a (suc i) l = a i (omega arith)

  last-here : (x : ℕ) (xs : List ℕ) → x ≤ day → AllAbove day xs → Last day (x ∷ xs) 0
  last-here x xs h a = record { within = omega arith; not_above = h; later = rest }
    where
      rest : (i : ℕ) → 0 < i → i < length (x ∷ xs) → day < get_or (x ∷ xs) i 0
      rest zero p l = absurd (omega arith)
      rest (suc i) p l = a i (omega arith)

  last-behind : (x : ℕ) (xs : List ℕ) (k : ℕ) → Last day xs k → Last day (x ∷ xs) (suc k)
  last-behind x xs k r = record { within = omega (arith, r.within); not_above = r.not_above; later = rest }
    where
      rest : (i : ℕ) → suc k < i → i < length (x ∷ xs) → day < get_or (x ∷ xs) i 0
      rest zero p l = absurd (omega arith)
      rest (suc i) p l = r.later i (omega arith) (omega arith)

  later-behind : (x k : ℕ) (xs : List ℕ) (o : Option ℕ) → Later (suc k) xs o → Later k (x ∷ xs) o
  later-behind x k xs o r =
      let e : suc k + r.index ≡ k + suc r.index = omega arith in
      record { index = suc r.index; place = r.place ∙ ap some e; last = last-behind x xs r.index r.last }

  -- the one kept stays, or a later one is found
  from : (k : ℕ) (kept : Option ℕ) (xs : List ℕ) → ((last_from day k kept xs ≡ kept) × AllAbove day xs) ⊎ Later k xs (last_from day k kept xs)
  unfolding last_from
  from k kept [] = inl (refl, λ i h. absurd (omega arith))
  from k kept (x ∷ xs) =
      by_cases (leb x day)
      (λ t. rw t
      (⊎_elim
      (λ w. let e : k ≡ k + 0 = omega arith in inr (record { index = 0; place = w.0 ∙ ap some e; last = last-here x xs (leb-true x day t) w.1 }))
      (λ r. inr (later-behind x k xs _ r))
      (from (suc k) (some k) xs)))
      (λ f. rw f
      (⊎_elim (λ w. inl (w.0, above_more x xs (leb-false x day f) w.1)) (λ r. inr (later-behind x k xs _ r)) (from (suc k) kept xs)))

  pub last_found : (numbers : List ℕ) (n : ℕ) → last_not_above day numbers ≡ some n → Last day numbers n
  unfolding last_not_above
  last_found numbers n e =
      ⊎_elim
      (λ w. absurd (not_none n (sym e ∙ w.0)))
      (λ (r : Later 0 numbers (last_from day 0 none numbers)). let s : r.index ≡ n = omega (arith, same_some n (0 + r.index) (sym e ∙ r.place)) in rw s at r.last)
      (from 0 none numbers)

  pub last_none : (numbers : List ℕ) → last_not_above day numbers ≡ none → AllAbove day numbers
  unfolding last_not_above
  last_none numbers e = ⊎_elim (λ w. w.1) (λ r. absurd (not_none _ (sym r.place ∙ e))) (from 0 none numbers)

-- the turn that answers tells the entry
pub answered-same : (o : Option ℕ) (n : ℕ) → answered o ≡ answered (some n) → o ≡ some n
unfolding answered
answered-same none n e = let z : ◌≡◌ {A = ℕ} 0 1 = cc in absurd (omega arith)
answered-same (some m) n e = cc
