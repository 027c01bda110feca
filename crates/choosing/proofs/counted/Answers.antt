-- `choosing::counted` meets its contract.
-- Assumes nothing.
use mathlib.Core.Path.{sym, ◌∙◌}
use borrow.Author.Tests.{lt-ltb, le-ltb}
use Rattle.choosing.proofs.Standing.{counted-told}
use Rattle.choosing.proofs.counted.Goals as goal

pub returns-then-n-gt3 : goal.returns-then-n-gt3
returns-then-n-gt3 c = sym (counted-told _ c.args.table.passes c.section_count-n.ensures.count ∙ rw (lt-ltb 3 _ c.if-n-gt3.true))

pub returns-then-is_text : goal.returns-then-is_text
returns-then-is_text c =
    sym (counted-told _ c.args.table.passes c.section_count-n.ensures.count
    ∙ rw (le-ltb 3 _ c.if-n-gt3.false, ← c.section.ensures.section, sym c.is_text.ensures ∙ c.if-is_text.true))

pub returns : goal.returns
returns c =
    sym (counted-told _ c.args.table.passes c.section_count-n.ensures.count
    ∙ rw (le-ltb 3 _ c.if-n-gt3.false, ← c.section.ensures.section, sym c.is_text.ensures ∙ c.if-is_text.false))
