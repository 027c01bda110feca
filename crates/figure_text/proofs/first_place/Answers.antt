-- `figure_text::first_place` meets its contract.
-- Assumes nothing.
use native.Mathlib.Omega.{arith}
use borrow.Author.Tests.{eq-eqb, ne_eqb}
use Rattle.figure_text.specs.Shown.{first_place}
use Rattle.figure_text.proofs.first_place.Goals as goal

pub returns-then-integers-eq0 : goal.returns-then-integers-eq0
unfolding first_place
returns-then-integers-eq0 c = rw (eq-eqb c.args.integers 0 (omega arith))

pub returns-else-integers-eq0 : goal.returns-else-integers-eq0
unfolding first_place
returns-else-integers-eq0 c = rw (ne_eqb c.args.integers 0 (λ e. omega arith))
