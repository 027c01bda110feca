-- `choosing::takes` meets its contract.
-- Assumes nothing.
use mathlib.Core.Path.{sym, ◌∙◌}
use Rattle.choosing.proofs.Choosing.{takes-own, takes-fallback}
use Rattle.choosing.proofs.takes.Goals as goal

pub returns-then-has_condition : goal.returns-then-has_condition
returns-then-has_condition c = takes-own _ _ _ _ _ (sym c.has_condition.ensures ∙ c.if-has_condition.true) c.condition_holds.ensures

pub returns : goal.returns
returns c = takes-fallback _ _ _ _ _ (sym c.has_condition.ensures ∙ c.if-has_condition.false) (c.fallback_holds.ensures _)
