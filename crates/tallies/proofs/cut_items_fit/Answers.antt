-- `tallies::cut_items_fit` meets its contract.
-- Assumes nothing.
use mathlib.Core.Path.{◌∙◌}
use Rattle.tallies.proofs.Exponents.{cut-refused}
use Rattle.tallies.proofs.cut_items_fit.Goals as goal

pub returns : goal.returns
returns c =
    cut-refused c.args.t c.requires (λ e. c.if-kind-eq-SCIENTIFIC.false (c.cut_kind-kind.ensures ∙ e)) (λ e. c.if-kind-eq-FRACTION.false (c.cut_kind-kind.ensures ∙ e))
