-- `lexing::forms::over_token` meets its contract.
-- Assumes nothing.
use mathlib.Core.Path.{◌≡◌, sym, ◌∙◌}
use Rattle.calendar.specs.Names.{units}
use Rattle.formats.specs.Tokens.{leading, is_digit}
use Rattle.lexing.proofs.Scanning.{leading-prefix, every-leading}
use Rattle.lexing.proofs.Placing.{over-place, over_none, over-fixed}
use Rattle.lexing.proofs.forms.over_token.Goals as goal

pub returns-then-starts_with_any : goal.returns-then-starts_with_any
unfolding units
returns-then-starts_with_any c = over-place c.args.form c.requires.1 c.requires.2 c.args.us.now _ c.starts_with_any.ensures c.if-starts_with_any.true

pub returns-then-count-eq0 : goal.returns-then-count-eq0
unfolding units
returns-then-count-eq0 c =
    over_none c.args.form c.requires.1 c.requires.2 c.args.us.now _ c.starts_with_any.ensures
    _ (c.digits-count.ensures.count ∙ sym (leading-prefix is_digit c.args.us.now)) c.if-starts_with_any.false c.if-count-eq0.true _ c.single_unit.ensures

pub returns : goal.returns
unfolding units
returns c =
    over-fixed c.args.form c.requires.1 c.requires.2 c.args.us.now _ c.starts_with_any.ensures
    _ (c.digits-count.ensures.count ∙ sym (leading-prefix is_digit c.args.us.now)) c.if-starts_with_any.false c.if-count-eq0.false _ c.number_of.ensures

pub number_of-requires : goal.number_of-requires
number_of-requires c =
    let us = c.args.us.now in
    let e : c.digits-count.result ≡ leading is_digit us = c.digits-count.ensures.count ∙ sym (leading-prefix is_digit us) in
    rw e (every-leading is_digit us)
