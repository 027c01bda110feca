-- `lexing::brackets::bracketed_token` meets its contract.
-- Assumes nothing.
use mathlib.Core.Path.{refl}
use Rattle.lexing.proofs.Scanning.{position-before}
use Rattle.lexing.proofs.Bracketing.{bracket-open, bracket-read, bracket-none}
use Rattle.lexing.proofs.brackets.bracketed_token.Goals as goal

pub returns-in_err-n : goal.returns-in_err-n
returns-in_err-n c = rw c.from_residual.ensures (bracket-open c.args.us.now (position-before 93 _ _ c.in_err-n.ensures))

pub returns-in_err-inside : goal.returns-in_err-inside
returns-in_err-inside c =
    let h = position-before 93 _ _ c.in_ok-n.ensures in
    rw c.from_residual-in_err-inside.ensures (bracket-none c.args.us.now _ h.0 h.1 _ c.in_err-inside.ensures refl)

pub returns : goal.returns
returns c =
    let h = position-before 93 _ _ c.in_ok-n.ensures in
    bracket-read c.args.us.now _ h.0 h.1 _ c.in_ok-inside.ensures _ refl
