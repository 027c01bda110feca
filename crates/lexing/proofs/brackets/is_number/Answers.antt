-- `lexing::brackets::is_number` meets its contract.
-- Assumes nothing.
use mathlib.Core.Path.{sym, ap, ◌∙◌}
use mathlib.Core.Bool.{false}
use native.Mathlib.Omega.{arith}
use Rattle.formats.specs.Tokens.{equal, is_digit}
use Rattle.lexing.specs.Brackets.{is_pointed}
use Rattle.lexing.proofs.Scanning.{leading-prefix, rest_all}
use Rattle.lexing.proofs.Bracketing.{whole-none, whole-all, whole-pointed}
use Rattle.lexing.proofs.brackets.is_number.Goals as goal

pub returns-then-n-eq0 : goal.returns-then-n-eq0
returns-then-n-eq0 c =
    sym (whole-none equal false c.args.us.now _ (c.digits-n.ensures.count ∙ sym (leading-prefix is_digit c.args.us.now)) c.if-n-eq0.true)

pub returns-then-n-us : goal.returns-then-n-us
returns-then-n-us c =
    sym (whole-all equal false c.args.us.now _ (c.digits-n.ensures.count ∙ sym (leading-prefix is_digit c.args.us.now)) c.if-n-eq0.false c.if-n-us.true)

pub returns : goal.returns
returns c =
    let us = c.args.us.now in
    c.is_decimals.ensures ∙ ap is_pointed (rest_all us _)
    ∙ sym (whole-pointed equal false us _ (c.digits-n.ensures.count ∙ sym (leading-prefix is_digit us)) c.if-n-eq0.false (omega (arith, c.digits-n.ensures.within)))
