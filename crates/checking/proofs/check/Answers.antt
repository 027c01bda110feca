-- `checking::check` meets its contract.
-- Assumes nothing.
use mathlib.Core.Path.{sym, ◌∙◌}
use Rattle.lists.proofs.Bools.{true-T}
use Rattle.checking.proofs.Passing.{sized-facts, not-sized, not_good, all-good}
use Rattle.checking.proofs.check.Goals as goal

pub returns-then-not-is_sized : goal.returns-then-not-is_sized
returns-then-not-is_sized c = not-sized _ (sym c.is_sized.ensures ∙ c.if-not-is_sized.true)

pub rows_fit-requires : goal.rows_fit-requires
rows_fit-requires c = sized-facts _ (true-T (sym c.is_sized.ensures ∙ c.if-not-is_sized.false))

pub returns-then-not-rows_fit : goal.returns-then-not-rows_fit
returns-then-not-rows_fit c = not_good _ (sym c.is_sized.ensures ∙ c.if-not-is_sized.false) (sym c.rows_fit.ensures ∙ c.if-not-rows_fit.true)

pub places_fit-requires : goal.places_fit-requires
places_fit-requires c = sized-facts _ (true-T (sym c.is_sized.ensures ∙ c.if-not-is_sized.false))

pub returns : goal.returns
returns c = c.places_fit.ensures ∙ all-good _ (sym c.is_sized.ensures ∙ c.if-not-is_sized.false) (sym c.rows_fit.ensures ∙ c.if-not-rows_fit.false)
