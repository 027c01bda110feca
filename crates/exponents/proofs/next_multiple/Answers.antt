-- `exponents::next_multiple` meets its contract.
-- Assumes nothing.
use native.Mathlib.Omega.{arith}
use Rattle.exponents.proofs.Multiples.{next-over}
use Rattle.exponents.proofs.next_multiple.Goals as goal

pub returns : goal.returns
returns c = next-over c.requires.0 (omega arith)
