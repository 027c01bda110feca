-- `choosing::choose` meets its contract.
-- Assumes nothing.
use mathlib.Core.Path.{sym, ◌∙◌}
use Rattle.table_words.proofs.Heads.{long}
use Rattle.choosing.proofs.Standing.{single-told}
use Rattle.choosing.proofs.choose.Goals as goal

pub section-requires : goal.section-requires
section-requires c = (long _ c.args.table.passes).least

pub returns-then-section_count-eq1 : goal.returns-then-section_count-eq1
returns-then-section_count-eq1 c =
    single-told _ c.args.table.passes c.section_count.ensures.count _ c.if-section_count-eq1.true
    (rw (← c.section.ensures.section) (sym c.has_condition.ensures ∙ c.if-has_condition.false))
