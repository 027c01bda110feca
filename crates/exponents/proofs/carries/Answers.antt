-- `exponents::carries` meets its contract.
-- Assumes nothing.
use Prim.Native.Nat.{◌+◌}
use native.Mathlib.Omega.{arith}
use Rattle.figures.proofs.Digits.{figures-at}
use Rattle.exponents.proofs.Tells.{reaches}
use Rattle.exponents.proofs.carries.Goals as goal

pub returns : goal.returns
returns c n h e = rw (e, figures-at n (15 + c.args.integers) (omega (arith, c.requires))) (reaches (15 + c.args.integers) n h)
