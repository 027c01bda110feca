-- `drafting::drafts::solidus_kept` meets its contract.
-- Assumes nothing.
use mathlib.Core.Path.{sym, ◌∙◌}
use Rattle.marks.specs.Marks.{tokens_in}
use Rattle.drafting.proofs.Drafting.{facts-fraction}
use Rattle.drafting.proofs.drafts.solidus_kept.Goals as goal

pub returns-then-f : goal.returns-then-f
returns-then-f c code u e =
    let a = c.args in
    rw c.if-f.true (c.fraction_fits.ensures code u (sym (facts-fraction a.f (tokens_in code a.body.now) e) ∙ c.if-f.true))
