-- Where sections stand as the rules say: how many count, and which.
-- Assumes nothing.
use mathlib.Core.Path.{◌≡◌, refl, sym, ap, ◌∙◌}
use Prim.Native.Nat.{ℕ, zero, suc, ◌+◌, ◌-◌, ◌≤◌, ◌<◌}
use native.Mathlib.Omega.{arith}
use mathlib.Core.Bool.{Bool, true, false, ◌||◌, true≢false}
use mathlib.Core.List.{List, [], ◌∷◌}
use mathlib.Core.Option.{none, some, none-ne-some, some-ne-none, some-injective}
use borrow.Author.Tests.{eq-eqb, ne_eqb}
use lib.Dec.{T, eqb, leb→le, eqb→eq}
use lib.ListN.{length}
use mathlib.Core.Logic.{⊎_elim}
use Rattle.figures.proofs.Filling.{lt-or-le}
use Rattle.lists.specs.Lists.{first_failing, is_some}
use Rattle.lists.proofs.Bools.{cond-case, by_cases, and_left, and_right, implied, true-T, not_so, or-false}
use Rattle.formats.specs.Items.{Section}
use Rattle.formats.specs.Where.{is_text, implies, stands_at}
use Rattle.formats.specs.WellFormed.{all_stand, well_formed}
use Rattle.formats.specs.Choice.{counted_from, counted}
use Rattle.grounds.specs.Because.{section_named}
use Rattle.grounds.proofs.Going.{counts_at}

-- a section that is named is one of them, and so are those before it
pub named-within : (ss : List Section) (k : ℕ) (t : Section) → section_named ss k ≡ some t → k < length ss
unfolding section_named
named-within [] k t e = absurd (none-ne-some t e)
named-within (s ∷ ss) zero t e = omega arith
named-within (s ∷ ss) (suc k) t e = omega (arith, named-within ss k t e)

pub named-before : (ss : List Section) (k : ℕ) → k < length ss → section_named ss k ≡ none → ⊥
unfolding section_named
named-before [] k h e = omega arith
named-before (s ∷ ss) zero h e = some-ne-none s e
named-before (s ∷ ss) (suc k) h e = named-before ss k (omega arith) e

-- a test that all pass, from the i-th on, each passes
none-fails : (f : ℕ → Section → Bool) (i : ℕ) (ss : List Section) → is_some (first_failing f i ss) ≡ false
    → (k : ℕ) (t : Section) → section_named ss k ≡ some t → f (i + k) t ≡ true
unfolding section_named first_failing is_some
none-fails f i [] h k t e = absurd (none-ne-some t e)
none-fails f i (s ∷ ss) h zero t e =
    let here : i + 0 ≡ i = omega arith in
    let same : s ≡ t = some-injective s t e in
    by_cases (f i s) (λ p. rw (here, ← same) p) (λ p. absurd (true≢false (rw p at h)))
none-fails f i (s ∷ ss) h (suc k) t e =
    let next : suc i + k ≡ i + suc k = omega arith in
    by_cases (f i s) (λ p. rw (← next) (none-fails f (suc i) ss (rw p at h) k t e)) (λ p. absurd (true≢false (rw p at h)))

-- N is at most 3, and more than the place of a section up to which all count
pub counted-most : (i : ℕ) (ss : List Section) → i + length ss ≤ 4 → counted_from i ss ≤ 3 - i
unfolding counted_from
counted-most i [] h = omega arith
counted-most i (s ∷ ss) h =
    let rest = counted-most (suc i) ss (omega arith) in
    cond-case (λ (n : ℕ). n ≤ 3 - i) (is_text s || eqb i 3) (λ t. omega arith)
    (λ t.
    let fourth : i ≡ 3 → ⊥ = λ e. true≢false (sym (eq-eqb i 3 e) ∙ (or-false (is_text s) (eqb i 3) t).1) in
    ⊎_elim (λ (h : i < 3). omega arith) (λ (g : 3 ≤ i). absurd (fourth (omega arith))) (lt-or-le i 3))

counts-first : (i : ℕ) (s : Section) → counts_at (i + 0) s ≡ true → is_text s || eqb i 3 ≡ false
counts-first i s h = let here : i + 0 ≡ i = omega arith in not_so (is_text s || eqb i 3) (true-T (rw here at h))

pub counted-least : (i : ℕ) (ss : List Section) (p : ℕ) → p < length ss
    → ((k : ℕ) (t : Section) → k ≤ p → section_named ss k ≡ some t → counts_at (i + k) t ≡ true) → p < counted_from i ss
unfolding counted_from section_named
counted-least i [] p h all = absurd (omega arith)
counted-least i (s ∷ ss) zero h all = rw (counts-first i s (all 0 s (omega arith) refl)) (omega arith)
counted-least i (s ∷ ss) (suc p) h all =
    let rest = counted-least (suc i) ss p (omega arith)
    (λ k t less e. let next : suc i + k ≡ i + suc k = omega arith in rw next (all (suc k) t (omega arith) e)) in
    rw (counts-first i s (all 0 s (omega arith) refl)) (omega arith)

-- what the rules say of sections that are named
module _ (ss : List Section) (formed : T (well_formed ss)) where
  pub few-sections : (1 ≤ length ss) × (length ss ≤ 4)
  unfolding well_formed
  few-sections = (search (and_left, and_right, leb→le) depth 8, search (and_left, and_right, leb→le) depth 8)

  stands : (k : ℕ) (t : Section) → section_named ss k ≡ some t → T (stands_at (length ss) k t)
  unfolding well_formed all_stand
  stands k t e =
      let all : T (all_stand ss) = search (and_left, and_right) in
      let none-failing : is_some (first_failing (stands_at (length ss)) 0 ss) ≡ false = not_so _ all in
      let zero_more : 0 + k ≡ k = omega arith in
      true-T (rw zero_more at (none-fails (stands_at (length ss)) 0 ss none-failing k t e))

  -- a text section is the last
  pub text-last : (k : ℕ) (t : Section) → section_named ss k ≡ some t → is_text t ≡ true → suc k ≡ length ss
  unfolding stands_at
  text-last k t e h =
      let all = stands k t e in
      let rule : T (implies (is_text t) (eqb (suc k) (length ss))) = search (and_left) in
      eqb→eq (suc k) (length ss) (implied (is_text t) (eqb (suc k) (length ss)) rule (true-T h))

  -- one that stands before another counts
  pub earlier-counts : (k j : ℕ) (t s : Section) → section_named ss k ≡ some t → section_named ss j ≡ some s → k < j → counts_at k t ≡ true
  earlier-counts k j t s ek ej less =
      let inside = named-within ss j s ej in
      let few = few-sections in
      by_cases (is_text t) (λ h. absurd (omega (arith, text-last k t ek h)))
      (λ h. rw (h, ne_eqb k 3 (λ e. absurd (omega (arith, few.1)))) refl)

  -- so that the place of one that counts is below N
  pub counts-below : (j : ℕ) (s : Section) → section_named ss j ≡ some s → counts_at j s ≡ true → (j < counted ss) × (counted ss ≤ 3)
  unfolding counted
  counts-below j s e counts =
      let up : (k : ℕ) (t : Section) → k ≤ j → section_named ss k ≡ some t → counts_at (0 + k) t ≡ true =
      λ k t less ek. let zero_more : 0 + k ≡ k = omega arith in
      ⊎_elim
      (λ (h : k < j). rw zero_more (earlier-counts k j t s ek e h))
      (λ (h : j ≤ k).
      let same : k ≡ j = omega arith in
      let one : t ≡ s = some-injective t s (sym ek ∙ ap (section_named ss) same ∙ e) in
      rw (zero_more, same, one) counts)
      (lt-or-le k j) in
      (counted-least 0 ss j (named-within ss j s e) up, counted-most 0 ss (omega (arith, few-sections.1)))
