-- The search answers within ten turns, for any 401 numbers of which none is below an earlier one.
-- Assumes nothing.
use Prim.Native.Nat.{ℕ, zero, suc, ◌+◌, ◌-◌, ◌*◌, ◌/◌, ◌≤◌, ◌<◌}
use native.Mathlib.Omega.{arith}
use mathlib.Core.Path.{◌≡◌, subst, ◌∙◌}
use mathlib.Core.Bool.{Bool, true, false, ◌&&◌}
use mathlib.Core.List.{List}
use borrow.Author.Tests.{ltb-true, ltb-false, leb-true, leb-false, lt-ltb}
use lib.Dec.{leb, ltb}
use lib.ListN.{length, get_or}
use Rattle.lists.proofs.Bools.{no, cond-case}
use Rattle.searching.specs.declared.Search.{Search}
use Rattle.searching.specs.declared.Turn.{Turn}
use Rattle.searching.specs.Machine.{later_guess, guessed, border, first_asked, reading, answer, between, above, not_above, started}
use Rattle.searching.specs.Search.{Rising, last_not_above, handed, driven, answered}
use Rattle.searching.proofs.Last.{Known, known-answer}
use Rattle.searching.proofs.Turns.{driven-answer}
use Rattle.searching.proofs.Steps.{told-cases}

-- how many outcomes so many turns tell apart
outcomes : ℕ → ℕ
outcomes zero = 1
outcomes (suc turns) = 2 * outcomes turns

abbrev few : ℕ → Type 0
few n = n ≤ 401

guess-few : (day : ℕ) → few (guessed day)
unfolding guessed later_guess
guess-few day =
    cond-case few (ltb day 73416)
    (λ t. omega (arith, ltb-true day 73416 t))
    (λ f.
    cond-case few (ltb 146463 day)
    (λ t. omega arith)
    (λ g.
    let h = ltb-false 146463 day g in
    cond-case few (ltb day 109940) (λ t. omega (arith, ltb-true day 109940 t)) (λ t. omega arith)))

first-within : (day : ℕ) → first_asked (guessed day) ≤ 400
unfolding first_asked
first-within day =
    cond-case (λ (n : ℕ). n ≤ 400) (ltb border (guessed day))
    (λ t. omega (arith, guess-few day))
    (λ f. omega (arith, ltb-false border (guessed day) f))

module _ (day : ℕ) (numbers : List ℕ) (size : length numbers ≡ 401) (rising : Rising numbers) where
  -- what is known when an entry is told
  known-above : (low high a : ℕ) → Known day numbers low high → low ≤ a → a < high → day < get_or numbers a 0 → Known day numbers low a
  known-above low high a k l h d =
      record {
        ordered = l;
        within = omega (arith, k.within);
        before = k.before;
        beyond = λ i b c. omega (arith, rising a i b c);
      }

  known-not-above : (low high a : ℕ) → Known day numbers low high → low ≤ a → a < high → get_or numbers a 0 ≤ day
      → Known day numbers (a + 1) high
  known-not-above low high a k l h d =
      record {
        ordered = omega arith;
        within = k.within;
        before = λ i b. omega (arith, rising i a (omega arith) (omega (arith, k.within)));
        beyond = k.beyond;
      }

  abbrev state : ℕ → ℕ → ℕ → Bool → Search
  state low last asked first = record { day = day; low = low; last = last; asked = asked; first = first }

  -- the search has the right answer so many turns on
  abbrev Right : ℕ → Turn → Type 0
  Right turns t = driven turns numbers t ≡ answered (last_not_above day numbers)

  -- where the bounds meet
  right-met : (turns low high : ℕ) → Known day numbers low high → high ≤ low → Right turns (answer low)
  right-met turns low high k h =
      let e : high ≡ low = omega (arith, k.ordered) in
      driven-answer numbers turns low ∙ known-answer day numbers low (rw e at k)

  -- what a turn needs: where the entry is above the day, and where it is not
  right-told : (turns low last a : ℕ) (first : Bool) → Known day numbers low (suc last) → low ≤ a → a ≤ last
      → (Known day numbers low a → Right turns (above (state low last a first)))
      → (Known day numbers (a + 1) (suc last) → Right turns (not_above (state low last a first)))
      → Right (suc turns) (reading day low last a first)
  unfolding driven handed
  right-told turns low last a first k l h p q =
      rw (lt-ltb a (length numbers) (omega (arith, k.within)))
      (told-cases (Right turns) (state low last a first) (get_or numbers a 0)
      (λ n. p (known-above low (suc last) a k l (omega arith) n))
      (λ n. q (known-not-above low (suc last) a k l (omega arith) n)))

  -- what is left when an entry is above the day: the neighbour before it or the middle of those before it, where there are any
  right-above : (turns low last a : ℕ) (first : Bool) → Known day numbers low a
      → (low < a → Known day numbers low (suc (a - 1)) → (first && leb a border) ≡ true
      → Right turns (reading day low (a - 1) (a - 1) false))
      → (low < a → Known day numbers low (suc (a - 1)) → Right turns (between day low (a - 1)))
      → Right turns (above (state low last a first))
  unfolding above
  right-above turns low last a first k p q =
      cond-case (Right turns) (leb a low)
      (λ t. right-met turns low a k (leb-true a low t))
      (λ f.
      let l : low < a = leb-false a low f in
      let e : a ≡ suc (a - 1) = omega arith in
      let n : Known day numbers low (suc (a - 1)) = subst (Known day numbers low) e k in
      cond-case (Right turns) (first && leb a border) (p l n) (λ g. q l n))

  -- the same where it is not above the day
  right-not-above : (turns low last a : ℕ) (first : Bool) → Known day numbers (a + 1) (suc last)
      → (a < last → (first && leb border a) ≡ true → Right turns (reading day (a + 1) last (a + 1) false))
      → (a < last → Right turns (between day (a + 1) last))
      → Right turns (not_above (state low last a first))
  unfolding not_above answer
  right-not-above turns low last a first k p q =
      cond-case (Right turns) (leb last a)
      (λ t.
      let e : a + 1 ≡ suc a = omega arith in
      right-met turns (suc a) (suc last) (rw e at k) (omega (arith, leb-true last a t)))
      (λ f.
      let l : a < last = leb-false last a f in
      cond-case (Right turns) (first && leb border a) (p l) (λ g. q l))

  right-between : (turns low last : ℕ) → low ≤ last → Known day numbers low (suc last) → last - low + 2 ≤ outcomes turns
      → Right turns (between day low last)
  unfolding between outcomes
  right-between zero low last l k h = absurd (omega arith)
  right-between (suc turns) low last l k h =
      let a : ℕ = low + (last - low) / 2 in
      right-told turns low last a false k (omega arith) (omega arith)
      (λ n. right-above turns low last a false n (λ m o e. no e) (λ m o. right-between turns low (a - 1) (omega arith) o (omega arith)))
      (λ n. right-not-above turns low last a false n (λ m e. no e) (λ m. right-between turns (a + 1) last (omega arith) n (omega arith)))

  -- the second entry asked for, where the guess held at the first: 256 outcomes are told apart behind it
  right-second : (low last a : ℕ) → Known day numbers low (suc last) → low ≤ a → a ≤ last → a ≤ low + 255 → last ≤ a + 255
      → Right 9 (reading day low last a false)
  unfolding outcomes
  right-second low last a k l h p q =
      right-told 8 low last a false k l h
      (λ n. right-above 8 low last a false n (λ m o e. no e) (λ m o. right-between 8 low (a - 1) (omega arith) o (omega arith)))
      (λ n. right-not-above 8 low last a false n (λ m e. no e) (λ m. right-between 8 (a + 1) last (omega arith) n (omega arith)))

  nothing_known : Known day numbers 0 401
  nothing_known =
      record {
        ordered = omega arith;
        within = omega arith;
        before = λ i b. absurd (omega arith);
        beyond = λ i b c. absurd (omega arith);
      }

  -- the first entry: where the guess fails there, 512 outcomes are told apart
  right-first : (a : ℕ) → a ≤ 400 → Right 10 (reading day 0 400 a true)
  unfolding outcomes
  right-first a h =
      right-told 9 0 400 a true nothing_known (omega arith) h
      (λ k.
      right-above 9 0 400 a true k
      (λ m n e. right-second 0 (a - 1) (a - 1) n (omega arith) (omega arith) (omega (arith, leb-true a border e)) (omega arith))
      (λ m n. right-between 9 0 (a - 1) (omega arith) n (omega arith)))
      (λ k.
      right-not-above 9 0 400 a true k
      (λ m e. right-second (a + 1) 400 (a + 1) k (omega arith) (omega arith) (omega arith) (omega (arith, leb-true border a e)))
      (λ m. right-between 9 (a + 1) 400 (omega arith) k (omega arith)))

  -- "within ten such turns names the last entry not above the day, or none, for any 401 rising numbers"
  pub within-ten : driven 10 numbers (started day) ≡ answered (last_not_above day numbers)
  unfolding started
  within-ten = right-first (first_asked (guessed day)) (first-within day)
