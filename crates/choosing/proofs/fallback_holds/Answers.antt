-- `choosing::fallback_holds` meets its contract.
-- Assumes nothing.
use native.Mathlib.Omega.{arith}
use Rattle.choosing.proofs.Choosing.{fallback-only, fallback-of-two, fallback-first, fallback-second, fallback-other}
use Rattle.choosing.proofs.fallback_holds.Goals as goal

pub returns-in-1 : goal.returns-in-1
returns-in-1 c s = fallback-only _ _ c.args.v s c.in-1.is

pub returns-in-2 : goal.returns-in-2
returns-in-2 c s = fallback-of-two _ _ c.args.v s c.in-2.is

pub returns-in-0 : goal.returns-in-0
returns-in-0 c s = fallback-first _ _ c.args.v s _ (λ e. absurd (omega arith)) (λ e. absurd (omega arith)) (omega arith) c.is_positive.ensures

pub returns-in-1-i : goal.returns-in-1-i
returns-in-1-i c s = fallback-second _ _ c.args.v s (λ e. absurd (omega arith)) (λ e. absurd (omega arith)) (λ e. absurd (omega arith)) (omega arith)

pub returns-in_default-i : goal.returns-in_default-i
returns-in_default-i c s =
    fallback-other _ _ c.args.v s (λ e. absurd (omega arith)) (λ e. absurd (omega arith)) (λ e. absurd (omega arith)) (λ e. absurd (omega arith))
