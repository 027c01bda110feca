-- `requests::digits::number_behind` meets its contract. The invariant: the number of all digits is the number of those left behind what was counted, up to the limit.
-- Assumes nothing.
use borrow.Author.Rules.{rules}
use Rattle.requests.proofs.Numerals.{digit-bounds, counting-step, counting-end}
use Rattle.requests.proofs.digits.number_behind.Goals as goal

pub digit_of-requires : goal.digit_of-requires
digit_of-requires c = digit-bounds c.args.us.now c.loop-u.u-index c.requires.2 (search rules)

pub loop-u-preserved : goal.loop-u-preserved
loop-u-preserved c = counting-step _ _ _ _ _ c.loop-u.invariant (search rules) _ _ c.digit_of.ensures.0 c.min-n.ensures

pub returns : goal.returns
returns c = counting-end _ _ _ _ _ c.loop-u.invariant (search rules)
