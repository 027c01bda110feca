-- `searching::answer` meets its contract.
-- Assumes nothing.
use mathlib.Core.Path.{◌≡◌}
use native.Mathlib.Omega.{arith}
use Rattle.searching.specs.Machine.{answer}
use Rattle.searching.proofs.Steps.{answer-found}
use Rattle.searching.proofs.answer.Goals as goal

pub returns-in-Some : goal.returns-in-Some
returns-in-Some c = let e = c.in-Some.ensures in rw e.1 (answer-found c.args.low (λ z. omega (arith, e.0, z)))

pub returns-in-None : goal.returns-in-None
unfolding answer
returns-in-None c = let e : c.args.low ≡ 0 = omega (arith, c.in-None.ensures) in rw e
