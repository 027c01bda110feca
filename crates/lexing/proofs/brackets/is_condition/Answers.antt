-- `lexing::brackets::is_condition` meets its contract.
-- Assumes nothing.
use mathlib.Core.Path.{sym, ◌∙◌}
use Rattle.calendar.specs.Names.{units}
use Rattle.lexing.specs.Brackets.{is_wide, is_narrow}
use Rattle.lexing.proofs.Scanning.{rest_all}
use Rattle.lexing.proofs.Bracketing.{condition-wide, condition-narrow, condition-none, wide-most, narrow-most}
use Rattle.lexing.proofs.brackets.is_condition.Goals as goal

pub slice_bounds-is_signed-count : goal.slice_bounds-is_signed-count
unfolding is_wide units
slice_bounds-is_signed-count c = wide-most c.args.inside.now (sym c.starts_with_any.ensures ∙ c.if-starts_with_any.true)

pub slice_bounds-is_signed-start : goal.slice_bounds-is_signed-start
unfolding is_wide units
slice_bounds-is_signed-start c = wide-most c.args.inside.now (sym c.starts_with_any.ensures ∙ c.if-starts_with_any.true)

pub returns-then-starts_with_any : goal.returns-then-starts_with_any
unfolding is_wide units
returns-then-starts_with_any c =
    let us = c.args.inside.now in
    c.is_signed.ensures ∙ rw (rest_all us 2) (condition-wide us _ c.starts_with_any.ensures c.if-starts_with_any.true)

pub slice_bounds-is_signed-count-then-starts_with_any-2 : goal.slice_bounds-is_signed-count-then-starts_with_any-2
unfolding is_narrow units
slice_bounds-is_signed-count-then-starts_with_any-2 c = narrow-most c.args.inside.now (sym c.starts_with_any-2.ensures ∙ c.if-starts_with_any-2.true)

pub slice_bounds-is_signed-start-then-starts_with_any-2 : goal.slice_bounds-is_signed-start-then-starts_with_any-2
unfolding is_narrow units
slice_bounds-is_signed-start-then-starts_with_any-2 c = narrow-most c.args.inside.now (sym c.starts_with_any-2.ensures ∙ c.if-starts_with_any-2.true)

pub returns-then-starts_with_any-2 : goal.returns-then-starts_with_any-2
unfolding is_wide is_narrow units
returns-then-starts_with_any-2 c =
    let us = c.args.inside.now in
    c.is_signed-then-starts_with_any-2.ensures
    ∙ rw (rest_all us 1) (condition-narrow us _ _ c.starts_with_any.ensures c.if-starts_with_any.false c.starts_with_any-2.ensures c.if-starts_with_any-2.true)

pub returns : goal.returns
unfolding is_wide is_narrow units
returns c =
    condition-none c.args.inside.now (sym c.starts_with_any.ensures ∙ c.if-starts_with_any.false) (sym c.starts_with_any-2.ensures ∙ c.if-starts_with_any-2.false)
