-- `checking::thousands_at` meets its contract.
-- Assumes nothing.
use native.Mathlib.Omega.{arith}
use Rattle.checking.proofs.Heads.{thousands-some, thousands-none}
use Rattle.checking.proofs.thousands_at.Goals as goal

pub returns-then-given-most : goal.returns-then-given-most
returns-then-given-most c = thousands-some _ _

pub returns : goal.returns
returns c = thousands-none _ _ (omega arith)
