-- `prepare_check::put_number` meets its contract.
-- Assumes nothing.
use native.Mathlib.Omega.{arith}
use Rattle.writing.proofs.Numerals.{numeral-short}
use Rattle.prepare_check.proofs.lines.put_number.Goals as goal

pub returns-clause-within : goal.returns-clause-within
returns-clause-within c = let e = c.put_numeral.ensures in omega (arith, e.next, numeral-short 1 c.args.n (omega arith))
