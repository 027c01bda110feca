-- `lexing::brackets::numbered_colour` meets its contract.
-- Assumes nothing.
use mathlib.Core.Path.{sym, ap, ◌∙◌}
use Rattle.calendar.specs.Names.{units}
use Rattle.formats.specs.Tokens.{colour_digits}
use Rattle.formats.proofs.Lexing.{word-most}
use Rattle.lexing.proofs.Scanning.{rest_all}
use Rattle.lexing.proofs.Bracketing.{numbered-read, numbered-none}
use Rattle.lexing.proofs.brackets.numbered_colour.Goals as goal

pub slice_bounds-colour_digits-count : goal.slice_bounds-colour_digits-count
unfolding units
slice_bounds-colour_digits-count c = word-most (units "Color") c.args.inside.now (sym c.starts_with.ensures ∙ c.if-starts_with.true)

pub slice_bounds-colour_digits-start : goal.slice_bounds-colour_digits-start
unfolding units
slice_bounds-colour_digits-start c = word-most (units "Color") c.args.inside.now (sym c.starts_with.ensures ∙ c.if-starts_with.true)

pub returns-then-starts_with : goal.returns-then-starts_with
unfolding units
returns-then-starts_with c =
    let us = c.args.inside.now in
    numbered-read us (sym c.starts_with.ensures ∙ c.if-starts_with.true) _ (c.colour_digits.ensures ∙ ap colour_digits (rest_all us 5))

pub returns : goal.returns
unfolding units
returns c = numbered-none c.args.inside.now (sym c.starts_with.ensures ∙ c.if-starts_with.false)
