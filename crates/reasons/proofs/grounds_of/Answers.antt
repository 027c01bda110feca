-- `reasons::grounds_of` meets its contract.
-- Assumes nothing.
use mathlib.Core.Path.{sym, ap, ◌∙◌}
use Rattle.grounds.specs.Why.{grounds_of}
use Rattle.reasons.proofs.grounds_of.Goals as goal

pub returns-in-Instant : goal.returns-in-Instant
unfolding grounds_of
returns-in-Instant c = c.instant_grounds.ensures ∙ sym (ap (grounds_of _) c.in-Instant.is)

pub returns-in-Text : goal.returns-in-Text
unfolding grounds_of
returns-in-Text c = c.text_grounds.ensures ∙ sym (ap (grounds_of _) c.in-Text.is)
