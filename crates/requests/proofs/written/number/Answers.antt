-- `requests::written::number` meets its contract.
-- Assumes nothing.
use mathlib.Core.List.{[], ◌∷◌}
use mathlib.Core.Path.{sym, ◌∙◌}
use native.Mathlib.Omega.{arith}
use Rattle.calendar.specs.Names.{units}
use Rattle.formats.proofs.Lexing.{word-most}
use Rattle.lexing.proofs.Scanning.{rest_all}
use Rattle.requests.proofs.Valuing.{number-minus, number-plain}
use Rattle.requests.proofs.written.number.Goals as goal

pub slice_bounds-unsigned-count : goal.slice_bounds-unsigned-count
slice_bounds-unsigned-count c = omega (arith, word-most (45 ∷ []) c.args.us.now (sym c.starts_with.ensures ∙ c.if-starts_with.true))

pub slice_bounds-unsigned-start : goal.slice_bounds-unsigned-start
slice_bounds-unsigned-start c = omega (arith, word-most (45 ∷ []) c.args.us.now (sym c.starts_with.ensures ∙ c.if-starts_with.true))

pub returns-then-starts_with : goal.returns-then-starts_with
unfolding units
returns-then-starts_with c =
    let us = c.args.us.now in
    rw (rest_all us 1) at c.unsigned.ensures ∙ number-minus us (sym c.starts_with.ensures ∙ c.if-starts_with.true)

pub returns : goal.returns
unfolding units
returns c =
    let us = c.args.us.now in
    c.unsigned-2.ensures ∙ number-plain us (sym c.starts_with.ensures ∙ c.if-starts_with.false)
