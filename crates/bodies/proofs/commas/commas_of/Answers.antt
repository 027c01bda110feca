-- `bodies::commas::commas_of` meets its contract.
-- Assumes nothing.
use mathlib.Core.Path.{sym, ◌∙◌}
use Rattle.bodies.proofs.Uses.{commas-none}
use Rattle.bodies.proofs.commas.commas_of.Goals as goal

pub returns : goal.returns
returns c = λ code. commas-none _ (sym (c.requires.1 code) ∙ c.if-facts.false)
