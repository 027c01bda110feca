-- Where so many entries are not above the day and the others are, the last entry that is not above it is the last of these.
-- Assumes nothing.
use Prim.Native.Nat.{ℕ, zero, suc, ◌+◌, ◌≤◌, ◌<◌}
use native.Mathlib.Omega.{arith}
use mathlib.Core.Path.{◌≡◌, refl, sym, ap, ◌∙◌}
use mathlib.Core.List.{List, [], ◌∷◌}
use mathlib.Core.Option.{Option, none, some}
use borrow.Author.Tests.{le-leb, lt-leb}
use lib.ListN.{length, get_or}
use Rattle.searching.specs.Machine.{answer}
use Rattle.searching.specs.Search.{last_from, last_not_above, answered}

-- what is kept after c entries from place k on
kept_after : ℕ → Option ℕ → ℕ → Option ℕ
kept_after k kept zero = kept
kept_after k kept (suc c) = some (k + c)

kept_next : (k c : ℕ) → kept_after (suc k) (some k) c ≡ some (k + c)
unfolding kept_after
kept_next k zero = let e : k + 0 ≡ k = omega arith in rw e
kept_next k (suc c) = let e : suc k + c ≡ k + suc c = omega arith in rw e

last-from : (day k : ℕ) (kept : Option ℕ) (c : ℕ) (xs : List ℕ) → c ≤ length xs → ((i : ℕ) → i < c → get_or xs i 0 ≤ day)
    → ((i : ℕ) → c ≤ i → i < length xs → day < get_or xs i 0) → last_from day k kept xs ≡ kept_after k kept c
unfolding last_from kept_after
last-from day k kept zero [] h p q = refl
last-from day k kept (suc c) [] h p q = absurd (omega arith)
last-from day k kept zero (x ∷ xs) h p q =
    rw (lt-leb x day (q 0 (omega arith) (omega arith)))
    (last-from day (suc k) kept zero xs (omega arith) (λ i l. absurd (omega arith)) (λ i a b. q (suc i) (omega arith) (omega arith)))
last-from day k kept (suc c) (x ∷ xs) h p q =
    rw (le-leb x day (p 0 (omega arith)))
    (last-from day (suc k) (some k) c xs (omega arith) (λ i l. p (suc i) (omega arith)) (λ i a b. q (suc i) (omega arith) (omega arith))
    ∙ kept_next k c)

-- what is known of the entries: those before `low` are not above the day, those from `high` on are
pub record Known (day : ℕ) (numbers : List ℕ) (low high : ℕ) : Type 0 where
  pub ordered : low ≤ high
  pub within : high ≤ length numbers
  pub before : (i : ℕ) → i < low → get_or numbers i 0 ≤ day
  pub beyond : (i : ℕ) → high ≤ i → i < length numbers → day < get_or numbers i 0

-- where the bounds meet the answer is known
pub known-answer : (day : ℕ) (numbers : List ℕ) (c : ℕ) → Known day numbers c c → answer c ≡ answered (last_not_above day numbers)
unfolding answer answered last_not_above kept_after
known-answer day numbers zero k =
    sym (ap answered (last-from day 0 none zero numbers k.within k.before k.beyond))
known-answer day numbers (suc c) k =
    let e : 0 + c ≡ c = omega arith in
    sym (ap answered (last-from day 0 none (suc c) numbers k.within k.before k.beyond ∙ ap some e))
