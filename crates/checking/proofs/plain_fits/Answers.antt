-- `checking::plain_fits` meets its contract.
-- Assumes nothing.
use mathlib.Core.Path.{◌∙◌}
use Rattle.checking.proofs.Heads.{agree-told}
use Rattle.checking.proofs.Stands.{plain-misplaced, plain_second, plain-fourth, plain_other}
use Rattle.checking.proofs.plain_fits.Goals as goal

pub returns-then-kind-i : goal.returns-then-kind-i
returns-then-kind-i c = plain-misplaced _ _ _ _ _ _ _ c.if-kind-i.true

pub returns-then-i-eq1 : goal.returns-then-i-eq1
returns-then-i-eq1 c =
    rw c.excepted.ensures (agree-told c.args.flag _ ∙ plain_second _ _ _ _ _ _ _ c.if-kind-i.false c.if-i-eq1.true)

pub returns-then-i-eq3 : goal.returns-then-i-eq3
returns-then-i-eq3 c = plain-fourth _ _ _ _ _ _ _ c.if-kind-i.false c.if-i-eq3.true

pub returns : goal.returns
returns c = plain_other _ _ _ _ _ _ _ c.if-kind-i.false c.if-i-eq1.false c.if-i-eq3.false
