-- `checking::is_sized` meets its contract.
-- Assumes nothing.
use native.Mathlib.Omega.{arith}
use Rattle.std.proofs.lemmas.Bool.Decides.{nat_tests}
use Rattle.checking.proofs.Passing.{not-sized-so, sized-so}
use Rattle.checking.proofs.is_sized.Goals as goal

pub returns-then-length-eq0 : goal.returns-then-length-eq0
returns-then-length-eq0 c = not-sized-so _ (λ s. absurd (omega arith))

pub returns-then-not-contains : goal.returns-then-not-contains
returns-then-not-contains c = not-sized-so _ (λ s. let l = s.least in let m = s.most in absurd (grind (arith, nat_tests, c.if-not-contains.ensures)))

pub returns-then-length-n : goal.returns-then-length-n
returns-then-length-n c = not-sized-so _ (λ s. absurd (omega arith))

pub returns : goal.returns
returns c =
    sized-so _ _ _ c.section_count-n.ensures (grind (arith, nat_tests, c.if-not-contains.ensures)) (grind (arith, nat_tests, c.if-not-contains.ensures)) c.items_said-items.ensures.0
