-- `figure_text::is_idle` meets its contract.
-- Assumes nothing.
use native.Mathlib.Omega.{arith}
use borrow.Author.Tests.{ne_eqb}
use Rattle.figure_text.proofs.Digits.{integer-idle, decimal-idle}
use Rattle.figure_text.proofs.is_idle.Goals as goal

pub returns-then-q-ge-UNITS_PLACE : goal.returns-then-q-ge-UNITS_PLACE
returns-then-q-ge-UNITS_PLACE c =
    let a = c.args in
    λ x are. rw (ne_eqb a.place 4 (λ e. omega arith)) (integer-idle are a.q (omega arith))

pub returns : goal.returns
returns c =
    let a = c.args in
    λ x are. rw (ne_eqb a.place 4 (λ e. omega arith)) (decimal-idle are a.q (omega arith) c.is_spent.ensures)
