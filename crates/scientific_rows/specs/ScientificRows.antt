-- The items of a scientific section: their rules and limits, and those of its items before the E and behind it.
-- Assumes nothing.
use Rattle.std.specs.Prelude.{◌≡◌, Bool, true, false, not, ◌&&◌, List, Option, MatchOption, leb, eqb}
use Rattle.lists.specs.Lists.{any, count}
use Rattle.formats.specs.Items.{is_point, is_percent, is_space, integer_places, decimal_places, places_behind}
use Rattle.tables.specs.Words.{Entry}
use Rattle.tables.specs.Decode.{items_at}
use Rattle.tallies.specs.Tally.{items_of}
use Rattle.number_rows.specs.NumberRows.{number_items}
use Rattle.scientific_rows.specs.declared.ScientificRow.{ScientificRow}

-- the rules for the items, and the limits of the places
unfoldable pub scientific_items : List Entry → Bool
scientific_items es =
    let is = items_at es in
    items_of 5 es && (leb (integer_places is) 20 && (leb (decimal_places is) 15 && leb (places_behind is) 3))

-- what is told of items that keep them
pub record ScientificCounts (es : List Entry) (r : ScientificRow) : Type 0 where
  pub fits : scientific_items es ≡ true
  pub decimals : r.decimals ≡ decimal_places (items_at es)

-- what is told of items: nothing where they do not
abbrev pub ScientificTold : List Entry → Option ScientificRow → Type 0
ScientificTold es r = MatchOption r (scientific_items es ≡ false) (ScientificCounts es)

-- ---- before the E: a number section's items with an integer place, and without a percent
unfoldable pub mantissa_items : List Entry → Bool
mantissa_items es = let is = items_at es in number_items es && eqb (count is_percent is) 0 && leb 1 (integer_places is)

pub record MantissaCounts (es : List Entry) (r : ScientificRow) : Type 0 where
  pub fits : mantissa_items es ≡ true
  pub decimals : r.decimals ≡ decimal_places (items_at es)

abbrev pub MantissaTold : List Entry → Option ScientificRow → Type 0
MantissaTold es r = MatchOption r (mantissa_items es ≡ false) (MantissaCounts es)

-- ---- behind it: 1 to 3 places, and neither a percent, a point nor a place `?`
unfoldable pub exponent_items : List Entry → Bool
exponent_items es =
    let is = items_at es in
    (number_items es && eqb (count is_percent is) 0 && leb (integer_places is) 3) && (not (any is_point is) && not (any is_space is))
