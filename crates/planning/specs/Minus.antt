-- The added minus, as the code finds it.
-- Assumes nothing.
use Rattle.std.specs.Prelude.{Bool, false, cond, eqb, length}
use Rattle.formats.specs.Where.{has_condition}
use Rattle.formats.specs.Choice.{counted}
use Rattle.formats.specs.Minus.{exception_a, first_has_condition}
use Rattle.table_words.specs.declared.TableSection.{TableSection}
use Rattle.table_words.specs.Tabled.{sections_of, section_of}

-- the added minus of a number: below 0, in a section that has an item, where no exception holds it back
unfoldable pub minus_told : Bool → Bool → Bool → Bool → Bool
minus_told negative empty excepted nought = cond empty false (cond excepted false (cond nought false negative))

-- in a table's section
abbrev pub minus_in : TableSection → Bool → Bool → Bool
minus_in z negative nought =
    minus_told negative (eqb (length (section_of z).items) 0)
    (exception_a (counted (sections_of z.table)) z.place (has_condition (section_of z)) (first_has_condition (sections_of z.table))) nought
