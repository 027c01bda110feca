-- `reasons::chosen_grounds` meets its contract.
-- Assumes nothing.
use Rattle.reasons.proofs.Choices.{grounds-told}
use Rattle.reasons.proofs.chosen_grounds.Goals as goal

pub returns : goal.returns
returns c =
    λ x why e. grounds-told _ x _ why _ _ e c.counted-counted.ensures c.has_condition.ensures c.choice_of-choice.ensures c.tried_at-first.ensures c.tried_at-second.ensures
