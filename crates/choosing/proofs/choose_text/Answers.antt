-- `choosing::choose_text` meets its contract.
-- Assumes nothing.
use native.Mathlib.Omega.{arith}
use mathlib.Core.Path.{◌≡◌, sym, ◌∙◌}
use borrow.Author.Tests.{eq-eqb, ne_eqb}
use Rattle.choosing.proofs.Standing.{text-told}
use Rattle.choosing.proofs.choose_text.Goals as goal

pub returns-then-n-eq4 : goal.returns-then-n-eq4
returns-then-n-eq4 c =
    let four : c.section_count-n.result ≡ 4 = omega arith in
    sym (text-told _ c.args.table.passes c.section_count-n.ensures.count ∙ rw (eq-eqb _ 4 four))

pub returns-then-is_text : goal.returns-then-is_text
returns-then-is_text c =
    sym (text-told _ c.args.table.passes c.section_count-n.ensures.count
    ∙ rw (ne_eqb _ 4 c.if-n-eq4.false, ← c.section.ensures.section, sym c.is_text.ensures ∙ c.if-is_text.true))

pub returns : goal.returns
returns c =
    sym (text-told _ c.args.table.passes c.section_count-n.ensures.count
    ∙ rw (ne_eqb _ 4 c.if-n-eq4.false, ← c.section.ensures.section, sym c.is_text.ensures ∙ c.if-is_text.false))
