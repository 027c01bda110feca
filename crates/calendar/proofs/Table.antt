-- What the table of first day numbers says of each of its years.
-- Assumes nothing.
use mathlib.Core.Path.{◌≡◌, ◌∙◌, sym, ap}
use mathlib.Core.List.{List}
use Prim.Native.Nat.{ℕ, ◌≤◌, ◌<◌}
use native.Mathlib.Omega.{arith}
use lib.ListN.{get_or}
use Rattle.calendar.specs.Year.{first_day}
use Rattle.calendar.specs.Tables.{first_days}
use Rattle.lists.specs.Tables.{values}
use Rattle.lists.proofs.Tables.{value-at}

-- what the table of first days says of each of its years
pub first-at : (l : List ℕ) (k : ℕ) → l ≡ first_days → k ≤ 400 → get_or l k 0 ≡ first_day k
unfolding first_days
first-at l k e h = ap (λ (x : List ℕ). get_or x k 0) e ∙ value-at first_day 401 k (omega arith)

-- two rules whose values are the same agree at each place
pub same-values : (f g : ℕ → ℕ) (n i : ℕ) → values f 0 n ≡ values g 0 n → i < n → f i ≡ g i
same-values f g n i e h = sym (value-at f n i h) ∙ ap (λ (x : List ℕ). get_or x i 0) e ∙ value-at g n i h
