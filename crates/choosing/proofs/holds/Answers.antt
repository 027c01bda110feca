-- `choosing::holds` meets its contract.
-- Assumes nothing.
use Prim.Native.Nat.{ℕ}
use native.Mathlib.Omega.{arith}
use mathlib.Core.Path.{◌≡◌}
use mathlib.Core.Bool.{false}
use lib.Dec.{eqb}
use borrow.Author.Tests.{ne_eqb}
use Rattle.tables.specs.Decode.{comparison_at}
use Rattle.choosing.specs.Comparing.{holds_for}
use Rattle.choosing.proofs.holds.Goals as goal

pub returns-in-1 : goal.returns-in-1
unfolding holds_for comparison_at
returns-in-1 c = rw c.in-1.is c.is_eq.ensures

pub returns-in-2 : goal.returns-in-2
unfolding holds_for comparison_at
returns-in-2 c = rw c.in-2.is c.is_lt.ensures

pub returns-in-3 : goal.returns-in-3
unfolding holds_for comparison_at
returns-in-3 c = rw c.in-3.is c.is_gt.ensures

pub returns-in-4 : goal.returns-in-4
unfolding holds_for comparison_at
returns-in-4 c = rw c.in-4.is c.is_le.ensures

pub returns-in-5 : goal.returns-in-5
unfolding holds_for comparison_at
returns-in-5 c = rw c.in-5.is c.is_ge.ensures

pub returns-in_default : goal.returns-in_default
unfolding holds_for comparison_at
returns-in_default c =
    let apart : (n : ℕ) → (c.args.operator ≡ n → ⊥) → eqb c.args.operator n ≡ false = λ n f. ne_eqb _ n f in
    simp (apart 1 (λ e. absurd (omega arith)), apart 2 (λ e. absurd (omega arith)), apart 3 (λ e. absurd (omega arith)), apart 4 (λ e. absurd (omega arith)), apart 5 (λ e. absurd (omega arith)))
    c.is_ne.ensures
