-- `lexing::brackets::colour_digits` meets its contract.
-- Assumes nothing.
use mathlib.Core.Path.{sym, ◌∙◌}
use Rattle.formats.specs.Tokens.{is_digit}
use Rattle.lists.proofs.Bools.{true-T}
use Rattle.lexing.proofs.Scanning.{every-all}
use Rattle.lexing.proofs.Bracketing.{digits-empty, digits-zero, digits-broken, digits-large, digits-read}
use Rattle.lexing.proofs.brackets.colour_digits.Goals as goal

pub returns-in_err-first : goal.returns-in_err-first
returns-in_err-first c = rw c.from_residual.ensures (digits-empty c.args.us.now c.in_err-first.ensures.value)

pub returns-then-branch-eq-ZERO : goal.returns-then-branch-eq-ZERO
returns-then-branch-eq-ZERO c = digits-zero c.args.us.now _ c.in_ok-first.ensures.value c.if-branch-eq-ZERO.true

pub returns-then-not-are_digits : goal.returns-then-not-are_digits
returns-then-not-are_digits c = digits-broken c.args.us.now _ c.in_ok-first.ensures.value (sym c.are_digits.ensures ∙ c.if-not-are_digits.true)

pub number_of-n-requires : goal.number_of-n-requires
number_of-n-requires c = true-T (every-all is_digit c.args.us.now ∙ sym c.are_digits.ensures ∙ c.if-not-are_digits.false)

pub returns-then-n-le-LAST_COLOUR : goal.returns-then-n-le-LAST_COLOUR
returns-then-n-le-LAST_COLOUR c =
    digits-read c.args.us.now _ c.in_ok-first.ensures.value _ c.number_of-n.ensures c.if-branch-eq-ZERO.false
    (sym c.are_digits.ensures ∙ c.if-not-are_digits.false) c.if-n-le-LAST_COLOUR.true

pub returns : goal.returns
returns c = digits-large c.args.us.now _ c.in_ok-first.ensures.value _ c.number_of-n.ensures c.if-n-le-LAST_COLOUR.false
