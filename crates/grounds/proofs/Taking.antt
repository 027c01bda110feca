-- The choice named takes the value, and each section before the chosen one is named and does not.
-- Assumes nothing.
use mathlib.Core.Path.{◌≡◌, refl, ap, subst}
use Prim.Native.Nat.{ℕ, zero, suc, ◌+◌, ◌≤◌, ◌<◌}
use native.Mathlib.Omega.{arith}
use mathlib.Core.Bool.{true, false}
use mathlib.Core.List.{List, [], ◌∷◌}
use mathlib.Core.Option.{Option, none, some, none-ne-some, some-injective}
use borrow.Author.Tests.{eqb-true}
use lib.Dec.{T, eqb}
use Rattle.lists.specs.Lists.{is_some}
use Rattle.lists.proofs.Bools.{cond-case, by_cases, not_so, true-T}
use Rattle.formats.specs.Items.{Condition, Section}
use Rattle.formats.specs.WellFormed.{well_formed}
use Rattle.formats.specs.Choice.{Exact, zero_exact, less_than, counted, Reason, own_condition, only_section, not_below_zero, above_zero, below_zero, the_rest, as_general, fallback, reason_for, condition_holds, reason_holds, Choice, nothing, chosen, choose_from, choose_first, choose}
use Rattle.formats.specs.Minus.{is_own}
use Rattle.grounds.specs.declared.Tried.TheVariants as tried
use Rattle.grounds.specs.Numbers.{choice_number}
use Rattle.grounds.specs.Why.{choice_of, failure_of, tried_at}
use Rattle.grounds.specs.Because.{section_named, TakenBy, own, all, first_of_two, rest_of_two, above, below, rest_of_three, general, Rejects, own_false, fallback_false}
use Rattle.grounds.proofs.Going.{takes_at, Goes, GoesTo, goes_to}
use Rattle.grounds.proofs.Standing.{named-within, named-before, earlier-counts, counts-below}

-- a condition, or none
by_condition : {P : Type 0} (o : Option Condition) → (o ≡ none → is_some o ≡ false → P) → ((c : Condition) → o ≡ some c → is_some o ≡ true → P) → P
unfolding is_some
by_condition none f g = f refl refl
by_condition (some c) f g = g c refl refl

by_name : {P : Type 0} (o : Option Section) → (o ≡ none → P) → ((s : Section) → o ≡ some s → P) → P
by_name none f g = f refl
by_name (some s) f g = g s refl

-- ---- the choice
module _ (ss : List Section) (x : Exact) (s : Section) where
  -- without a condition, where n sections count
  fallback-taken : (n j : ℕ) → counted ss ≡ n → j < n → n ≤ 3 → s.condition ≡ none → reason_holds (fallback n j) s x ≡ true
      → TakenBy ss x j s (choice_of n (fallback n j))
  unfolding fallback choice_of reason_holds
  fallback-taken zero j e less most bare = λ h. absurd (omega arith)
  fallback-taken (suc zero) zero e less most bare = λ h. all e refl bare
  fallback-taken (suc zero) (suc j) e less most bare = λ h. absurd (omega arith)
  fallback-taken (suc (suc zero)) zero e less most bare = λ h. first_of_two e refl bare (not_so (less_than x zero_exact) (true-T h))
  fallback-taken (suc (suc zero)) (suc zero) e less most bare = λ h. rest_of_two e refl bare
  fallback-taken (suc (suc zero)) (suc (suc j)) e less most bare = λ h. absurd (omega arith)
  fallback-taken (suc (suc (suc zero))) zero e less most bare = λ h. above e refl bare h
  fallback-taken (suc (suc (suc zero))) (suc zero) e less most bare = λ h. below e refl bare h
  fallback-taken (suc (suc (suc zero))) (suc (suc zero)) e less most bare = λ h. rest_of_three e refl bare
  fallback-taken (suc (suc (suc zero))) (suc (suc (suc j))) e less most bare = λ h. absurd (omega arith)
  fallback-taken (suc (suc (suc (suc n)))) j e less most bare = λ h. absurd (omega arith)

  reason-taken : (j : ℕ) → j < counted ss → counted ss ≤ 3 → reason_holds (reason_for (counted ss) j s) s x ≡ true
      → TakenBy ss x j s (choice_of (counted ss) (reason_for (counted ss) j s))
  unfolding reason_for reason_holds condition_holds choice_of
  reason-taken j less most h =
      by_condition s.condition
      (λ bare has. rw has (fallback-taken (counted ss) j refl less most bare (rw has at h)))
      (λ c e has. rw has (own c e (rw e at (rw has at h))))

-- only a condition of its own is named so
pub own-named : (n : ℕ) (why : Reason) → is_own why ≡ eqb (choice_number (choice_of n why)) 0
unfolding choice_of
own-named n own_condition = refl
own-named n only_section = refl
own-named n not_below_zero = refl
own-named n above_zero = refl
own-named n below_zero = refl
own-named n the_rest = by_cases (eqb n 2) (λ h. rw h) (λ h. rw h)
own-named n as_general = refl

-- ---- the sections before it
tried-named : (ss : List Section) (i k : ℕ) (t : Section) → k < i → section_named ss k ≡ some t → tried_at ss i k ≡ failure_of t
unfolding section_named tried_at
tried-named [] i k t less e = absurd (none-ne-some t e)
tried-named (s ∷ ss) zero k t less e = absurd (omega arith)
tried-named (s ∷ ss) (suc i) zero t less e = ap failure_of (some-injective s t e)
tried-named (s ∷ ss) (suc i) (suc k) t less e = tried-named ss i k t (omega arith) e

pub tried-none : (ss : List Section) (i k : ℕ) → i ≤ k → tried_at ss i k ≡ tried.NotTried
unfolding tried_at
tried-none [] zero k less = refl
tried-none [] (suc i) k less = refl
tried-none (s ∷ ss) zero k less = refl
tried-none (s ∷ ss) (suc i) zero less = absurd (omega arith)
tried-none (s ∷ ss) (suc i) (suc k) less = tried-none ss i k (omega arith)

rejects : (ss : List Section) (x : Exact) (k : ℕ) (t : Section) → section_named ss k ≡ some t → reason_holds (reason_for (counted ss) k t) t x ≡ false
    → Rejects ss x k (failure_of t)
unfolding failure_of reason_for reason_holds condition_holds
rejects ss x k t e h =
    by_condition t.condition
    (λ bare has. rw has (fallback_false t e bare (rw has at h)))
    (λ c g has. rw has (own_false t c e g (rw g at (rw has at h))))

-- ---- both, of the section that a value goes to
pub record Went (ss : List Section) (x : Exact) (i : ℕ) (s : Section) (why : Reason) : Type 0 where
  pub named : section_named ss i ≡ some s
  pub choice : TakenBy ss x i s (choice_of (counted ss) why)
  pub few : i ≤ 2
  pub rejected : (k : ℕ) → k < i → Rejects ss x k (tried_at ss i k)

abbrev WentTo : List Section → Exact → Choice → Type 0
WentTo ss x nothing = Unit {0}
WentTo ss x (chosen i s why) = Went ss x i s why

module _ (ss : List Section) (x : Exact) (formed : T (well_formed ss)) where
  -- a section that counts
  goes-went : (i : ℕ) (s : Section) (why : Reason) → Goes (counted ss) 0 ss x i s why → Went ss x i s why
  goes-went i s why g =
      let n : ℕ = counted ss in
      let place : g.place ≡ i = omega (arith, g.at) in
      let named : section_named ss i ≡ some s = rw place at g.named in
      let bounds = counts-below ss formed i s named g.counts in
      record {
        named = named;
        choice = rw g.reason (reason-taken ss x s i bounds.0 bounds.1 (rw g.reason at g.holds));
        few = omega (arith, bounds);
        rejected = λ k less.
            by_name (section_named ss k)
            (λ e. absurd (named-before ss k (omega (arith, named-within ss i s named)) e))
            (λ t e.
            let zero_more : 0 + k ≡ k = omega arith in
            let fails : takes_at n x k t ≡ false = rw zero_more at (g.earlier k t (omega arith) e) in
            rw (tried-named ss i k t less e) (rejects ss x k t e (rw (earlier-counts ss formed k i t s e named less) at fails)));
      }

  to-went : (c : Choice) → GoesTo (counted ss) 0 ss x c → WentTo ss x c
  to-went nothing g = tt
  to-went (chosen i s why) g = goes-went i s why g

  first-went : (ts : List Section) → ts ≡ ss → counted ss ≡ 0 → WentTo ss x (choose_first ts)
  unfolding choose_first section_named choice_of
  first-went [] e h = tt
  first-went (s ∷ ts) e h =
      record { named = rw (← e) refl; choice = general h refl; few = omega arith; rejected = λ k less. absurd (omega arith) }

  pub chosen-went : (i : ℕ) (s : Section) (why : Reason) → choose ss x ≡ chosen i s why → Went ss x i s why
  unfolding choose
  chosen-went i s why e =
      subst (WentTo ss x) e
      (cond-case (WentTo ss x) (eqb (counted ss) 0) (λ h. first-went ss refl (eqb-true (counted ss) 0 h))
      (λ h. to-went (choose_from (counted ss) 0 ss x) (goes_to (counted ss) 0 ss x)))
