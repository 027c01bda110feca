-- `scientific_rows::parts_row` meets its contract.
-- Assumes nothing.
use mathlib.Core.Path.{sym, ◌∙◌}
use Rattle.tables.specs.Words.{entries_in}
use Rattle.scientific_rows.proofs.ScientificRows.{no-argument, no-exponent, both-filled, parts-told}
use Rattle.scientific_rows.proofs.parts_row.Goals as goal

pub returns-then-a-ne0 : goal.returns-then-a-ne0
returns-then-a-ne0 c t x = let a = c.args in no-argument (entries_in a.mantissa.now) (entries_in a.exponent.now) t a.a x c.if-a-ne0.true

pub returns-then-not-is_exponent : goal.returns-then-not-is_exponent
returns-then-not-is_exponent c t x =
    let a = c.args in
    no-exponent (entries_in a.mantissa.now) (entries_in a.exponent.now) t a.a x (sym c.is_exponent.ensures ∙ c.if-not-is_exponent.true)

pub returns-then-are_filled : goal.returns-then-are_filled
returns-then-are_filled c t x =
    let a = c.args in
    both-filled (entries_in a.mantissa.now) (entries_in a.exponent.now) t a.a x (sym c.are_filled.ensures ∙ c.if-are_filled.true)

pub returns : goal.returns
returns c t x =
    let a = c.args in
    parts-told (entries_in a.mantissa.now) (entries_in a.exponent.now) t a.a x c.if-a-ne0.false
    (sym c.is_exponent.ensures ∙ c.if-not-is_exponent.false) (sym c.are_filled.ensures ∙ c.if-are_filled.false) _ c.mantissa_row.ensures
