-- "Limits (6)" (R51 to R53, R130, R134): "20 integer places, 15 decimal places, 5 percents, 5 dividing commas, condition numbers of 9 digits before and
-- 6 after the point, elapsed runs of 9." "more than 3 exponent places is 6", "more than 20 numerator places, 3 places below or a fixed number above
-- 999 is 6"
-- Assumes nothing.
use Rattle.std.specs.Prelude.{Bool, true, not, ◌&&◌, ◌||◌, length, leb}
use Rattle.std.proofs.Math.Option.{Option, none, some}
use Rattle.lists.specs.Lists.{every, count}
use Rattle.formats.specs.Tokens.{Written}
use Rattle.formats.specs.Items.{Item, item_row, Section, is_percent, is_elapsed, is_fixed, integer_places, decimal_places, places_behind, whole_items, main_items}
use Rattle.formats.specs.Kinds.{Parts, section_of}

unfoldable pub elapsed_short : Item → Bool
elapsed_short i = not (is_elapsed i) || leb (item_row i).argument 9

unfoldable pub fixed_small : Item → Bool
fixed_small i = not (is_fixed i) || leb (item_row i).argument 999

-- the limits on a section, whether a code or a table gives it; 20 integer places, and of a fraction 20 numerator places too (R51, R53, R130, R134)
unfoldable pub section_within : Section → Bool
section_within s =
    leb (integer_places (whole_items s.items)) 20
    && leb (integer_places (main_items s.items)) 20
    && leb (decimal_places s.items) 15
    && leb (places_behind s.items) 3
    && leb (count is_percent s.items) 5
    && leb s.thousands 5
    && every elapsed_short s.items
    && every fixed_small s.items

-- the limits on a condition's digits, as written (R52)
unfoldable pub written_within : Option Written → Bool
written_within none = true
written_within (some w) = leb (length w.whole) 9 && leb (length w.decimals) 6

-- a section of a code passes no limit, else 6
unfoldable pub within_limits : Parts → Bool
within_limits p = written_within p.condition && section_within (section_of p)
