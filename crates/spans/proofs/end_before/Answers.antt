-- `spans::end_before` meets its contract.
-- Assumes nothing.
use native.Mathlib.Omega.{arith}
use Rattle.spans.proofs.Spanning.{before-some, before-none}
use Rattle.spans.proofs.end_before.Goals as goal

pub returns-then-n-last : goal.returns-then-n-last
returns-then-n-last c = before-some _ _ _ _ (omega (arith, c.if-n-last.true, c.requires)) c.semicolon_place.ensures

pub returns : goal.returns
returns c = before-none _ _ _ (omega (arith, c.if-n-last.false, c.requires))
