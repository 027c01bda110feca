-- `planning::number_digits` meets its contract.
-- Assumes nothing.
use Rattle.planning.proofs.Sections.{number-words, number-roundable, number_digits, number-exactly}
use Rattle.planning.proofs.number_digits.Goals as goal

pub round-requires : goal.round-requires
round-requires c =
    let p = c.requires in
    number-roundable (number-words c.args.section p.2 c.head-h.ensures.words) p.0 c.saturating_sub-up.ensures

pub returns-clause-digits : goal.returns-clause-digits
returns-clause-digits c =
    let p = c.requires in
    λ n ev. number_digits (number-words c.args.section p.2 c.head-h.ensures.words) p.2 _ n ev c.saturating_sub-up.ensures c.saturating_sub.ensures c.round.ensures.digits

pub returns-clause-exact : goal.returns-clause-exact
returns-clause-exact c =
    let p = c.requires in
    λ n ev. number-exactly (number-words c.args.section p.2 c.head-h.ensures.words) p.2 _ n ev c.saturating_sub-up.ensures c.saturating_sub.ensures c.round.ensures.exact
