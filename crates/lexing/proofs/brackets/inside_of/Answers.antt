-- `lexing::brackets::inside_of` meets its contract.
-- Assumes nothing.
use mathlib.Core.Path.{refl}
use Rattle.lexing.proofs.Bracketing.{inside-colour, inside-none, inside-plain}
use Rattle.lexing.proofs.brackets.inside_of.Goals as goal

pub returns-in-Some : goal.returns-in-Some
returns-in-Some c = inside-colour c.args.inside.now _ c.in-Some.ensures _ refl

pub returns-in_err-form : goal.returns-in_err-form
returns-in_err-form c = rw c.from_residual.ensures (inside-none c.args.inside.now _ c.in_default.ensures refl _ c.in_err-form.ensures refl)

pub returns : goal.returns
returns c = inside-plain c.args.inside.now _ c.in_default.ensures refl _ c.in_ok-form.ensures _ refl
