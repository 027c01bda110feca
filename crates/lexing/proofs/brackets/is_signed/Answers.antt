-- `lexing::brackets::is_signed` meets its contract.
-- Assumes nothing.
use mathlib.Core.Path.{sym, ◌∙◌}
use Rattle.calendar.specs.Names.{units}
use Rattle.formats.proofs.Lexing.{word-most}
use Rattle.lexing.proofs.Scanning.{rest_all}
use Rattle.lexing.proofs.Bracketing.{signed-minus, signed-plain}
use Rattle.lexing.proofs.brackets.is_signed.Goals as goal

pub slice_bounds-is_number-count : goal.slice_bounds-is_number-count
unfolding units
slice_bounds-is_number-count c = word-most (units "-") c.args.us.now (sym c.starts_with.ensures ∙ c.if-starts_with.true)

pub slice_bounds-is_number-start : goal.slice_bounds-is_number-start
unfolding units
slice_bounds-is_number-start c = word-most (units "-") c.args.us.now (sym c.starts_with.ensures ∙ c.if-starts_with.true)

pub returns-then-starts_with : goal.returns-then-starts_with
unfolding units
returns-then-starts_with c =
    let us = c.args.us.now in
    c.is_number.ensures ∙ rw (rest_all us 1) (signed-minus us (sym c.starts_with.ensures ∙ c.if-starts_with.true))

pub returns : goal.returns
unfolding units
returns c = c.is_number-2.ensures ∙ signed-plain c.args.us.now (sym c.starts_with.ensures ∙ c.if-starts_with.false)
