-- `numbering::number_fraction` meets its contract.
-- Assumes nothing.
use Rattle.numbering.proofs.Numbering.{fraction-numbered}
use Rattle.numbering.proofs.number_fraction.Goals as goal

pub returns : goal.returns
returns c = λ is some e.
    fraction-numbered is some c.args.words.now c.cut_start-cut.result c.number_front.result c.number_front.new.words e c.cut_start-cut.ensures c.number_front.ensures
