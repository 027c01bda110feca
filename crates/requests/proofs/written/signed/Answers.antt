-- `requests::written::signed` meets its contract.
-- Assumes nothing.
use native.Mathlib.Omega.{arith}
use mir.Syntax.{w64}
use lib.IntN.{pos}
use Rattle.figures.proofs.Sign.{minus_is, back}
use Rattle.requests.specs.Written.{signed_by}
use Rattle.requests.proofs.written.signed.Goals as goal

pub returns-then-negative : goal.returns-then-negative
unfolding signed_by
returns-then-negative c = rw c.if-negative.true (minus_is w64 (pos c.args.n) (omega arith))

pub returns-else-negative : goal.returns-else-negative
unfolding signed_by
returns-else-negative c = rw c.if-negative.false (back w64 (pos c.args.n) (omega arith))
