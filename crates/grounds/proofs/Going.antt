-- The section that a value goes to: it counts and takes the value, and no section before it does.
-- Assumes nothing.
use mathlib.Core.Path.{◌≡◌, refl}
use Prim.Native.Nat.{ℕ, zero, suc, ◌+◌, ◌<◌}
use native.Mathlib.Omega.{arith}
use mathlib.Core.Bool.{Bool, true, false, not, ◌&&◌, ◌||◌}
use mathlib.Core.List.{List, [], ◌∷◌}
use mathlib.Core.Option.{some, some-injective}
use lib.Dec.{eqb}
use Rattle.lists.proofs.Bools.{cond-case, and_parts}
use Rattle.formats.specs.Items.{Section}
use Rattle.formats.specs.Where.{is_text}
use Rattle.formats.specs.Choice.{Exact, Reason, reason_for, reason_holds, Choice, nothing, chosen, choose_from}
use Rattle.grounds.specs.Because.{section_named}

-- section s, at the place i, is neither text nor fourth
abbrev pub counts_at : ℕ → Section → Bool
counts_at i s = not (is_text s || eqb i 3)

-- it takes x, where n sections count
abbrev pub takes_at : ℕ → Exact → ℕ → Section → Bool
takes_at n x i s = counts_at i s && reason_holds (reason_for n i s) s x

-- a test fails at each of so many places, the first being i
abbrev pub NoneAt : (ℕ → Section → Bool) → ℕ → List Section → ℕ → Type 0
NoneAt f i ss p = (k : ℕ) (t : Section) → k < p → section_named ss k ≡ some t → f (i + k) t ≡ false

none_more : (f : ℕ → Section → Bool) (i : ℕ) (s : Section) (ss : List Section) (p : ℕ) → f i s ≡ false → NoneAt f (suc i) ss p → NoneAt f i (s ∷ ss) (suc p)
unfolding section_named
none_more f i s ss p h rest zero t less e =
    let here : i + 0 ≡ i = omega arith in
    let same : s ≡ t = some-injective s t e in
    rw (here, ← same) h
none_more f i s ss p h rest (suc k) t less e =
    let next : suc i + k ≡ i + suc k = omega arith in
    rw (← next) (rest k t (omega arith) e)

-- the section at `place` of those from the i-th on is the first that counts and takes x
pub record Goes (n i : ℕ) (ss : List Section) (x : Exact) (j : ℕ) (s : Section) (why : Reason) : Type 0 where
  pub place : ℕ
  pub at : j ≡ i + place
  pub named : section_named ss place ≡ some s
  pub counts : counts_at j s ≡ true
  pub reason : why ≡ reason_for n j s
  pub holds : reason_holds why s x ≡ true
  pub earlier : NoneAt (takes_at n x) i ss place

abbrev pub GoesTo : ℕ → ℕ → List Section → Exact → Choice → Type 0
GoesTo n i ss x nothing = Unit {0}
GoesTo n i ss x (chosen j s why) = Goes n i ss x j s why

-- behind a section that does not take it
later : (n i : ℕ) (s : Section) (ss : List Section) (x : Exact) → takes_at n x i s ≡ false → (c : Choice) → GoesTo n (suc i) ss x c → GoesTo n i (s ∷ ss) x c
unfolding section_named
later n i s ss x fails nothing g = tt
later n i s ss x fails (chosen j t why) g =
    record {
      place = suc g.place;
      at = omega (arith, g.at);
      named = g.named;
      counts = g.counts;
      reason = g.reason;
      holds = g.holds;
      earlier = none_more (takes_at n x) i s ss g.place fails g.earlier;
    }

pub goes_to : (n i : ℕ) (ss : List Section) (x : Exact) → GoesTo n i ss x (choose_from n i ss x)
unfolding choose_from section_named
goes_to n i [] x = tt
goes_to n i (s ∷ ss) x =
    cond-case (GoesTo n i (s ∷ ss) x) (takes_at n x i s)
    (λ t.
    let (counts, holds) = and_parts (counts_at i s) (reason_holds (reason_for n i s) s x) t in
    record {
      place = 0;
      at = omega arith;
      named = refl;
      counts = counts;
      reason = refl;
      holds = holds;
      earlier = λ k u h e. absurd (omega arith);
    })
    (λ t. later n i s ss x t (choose_from n (suc i) ss x) (goes_to n (suc i) ss x))
