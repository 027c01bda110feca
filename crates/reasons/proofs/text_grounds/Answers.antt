-- `reasons::text_grounds` meets its contract.
-- Assumes nothing.
use mathlib.Core.Path.{sym, ap, ◌∙◌}
use Rattle.grounds.specs.Why.{text_grounds}
use Rattle.choosing.proofs.Finding.{text-itself, text_at}
use Rattle.reasons.proofs.text_grounds.Goals as goal

pub returns-in-None : goal.returns-in-None
unfolding text_grounds
returns-in-None c = c.untried.ensures ∙ sym (ap text_grounds (text-itself _ (sym c.in-None.is ∙ c.choose_text.ensures)))

pub returns-in-Some : goal.returns-in-Some
unfolding text_grounds
returns-in-Some c = c.untried-in-Some.ensures ∙ sym (ap text_grounds (text_at _ _ (sym c.in-Some.is ∙ c.choose_text.ensures)).0)
