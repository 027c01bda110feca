-- `lexing::forms::quoted_literal` meets its contract.
-- Assumes nothing.
use native.Mathlib.Omega.{arith}
use Rattle.std.proofs.Common.{Some}
use Rattle.lexing.proofs.Scanning.{position-before}
use Rattle.lexing.proofs.Reading.{quoted-open, quoted-empty, quoted-read}
use Rattle.lexing.proofs.forms.quoted_literal.Goals as goal

pub returns-in_err-n : goal.returns-in_err-n
returns-in_err-n c = rw c.from_residual.ensures (quoted-open c.args.us.now (position-before 34 _ _ c.in_err-n.ensures))

pub returns-then-n-eq0 : goal.returns-then-n-eq0
returns-then-n-eq0 c = quoted-empty c.args.us.now _ (position-before 34 _ _ c.in_ok-n.ensures).0 (omega arith)

pub overflow_cast-result : goal.overflow_cast-result
overflow_cast-result c = omega (arith, position-before 34 c.args.us.now (Some c.in_ok-n.n) c.in_ok-n.ensures)

pub returns : goal.returns
returns c = let h = position-before 34 _ _ c.in_ok-n.ensures in quoted-read c.args.us.now _ h.0 c.if-n-eq0.false h.1
