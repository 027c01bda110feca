-- `reasons::scaling_of` meets its contract.
-- Assumes nothing.
use Rattle.std.proofs.Common.{rules}
use Rattle.table_words.proofs.Bodies.{section-limits}
use Rattle.planning.proofs.Sections.{number-words}
use Rattle.reasons.proofs.Cuts.{scaling-is}
use Rattle.reasons.proofs.scaling_of.Goals as goal

pub returns : goal.returns
returns c =
    let p = c.requires in
    let z = c.args.section in
    scaling-is (number-words z p.1 c.head-h.ensures.words) (section-limits _ _ z.table.passes z.there).thousands-most p.0 (search rules) (search rules)
