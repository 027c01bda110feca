-- The items of a fraction: their rules and limits, and those of its parts.
-- Assumes nothing.
use Rattle.std.specs.Prelude.{ℕ, Bool, false, not, ◌&&◌, ◌||◌, List, [], ◌∷◌, length, leb, eqb}
use Rattle.values.specs.Ranges.{between}
use Rattle.lists.specs.Lists.{any, count}
use Rattle.formats.specs.Items.{is_point, is_percent, integer_places, places_behind, start_places, whole_items, main_items, literal_follows}
use Rattle.tables.specs.Words.{Entry}
use Rattle.tables.specs.Decode.{items_at}
use Rattle.tallies.specs.Tally.{items_of}
use Rattle.number_rows.specs.NumberRows.{number_items}
use Rattle.scans.specs.Scans.{has_tag}

-- the rules for the items, and the limits of the places
unfoldable pub fraction_items : List Entry → Bool
fraction_items es =
    let is = items_at es in
    items_of 6 es && (leb (integer_places (whole_items is)) 20 && (leb (integer_places (main_items is)) 20 && leb (places_behind is) 3))

-- ---- before the numerator: no place; or a number section's items with a literal behind the last place, and neither point nor percent
unfoldable pub whole_fits : List Entry → Bool
whole_fits es =
    let is = items_at es in
    items_of 0 es || ((number_items es && eqb (count is_percent is) 0) && (not (any is_point is) && literal_follows is))

-- ---- behind the solidus: a fixed number and no place; or 1 to 3 places that stand together at the start
unfoldable pub fixed_fits : List Entry → Bool
fixed_fits [] = false
fixed_fits (e ∷ es) = eqb e.tag 25 && (between 1 999 e.argument && items_of 0 es)

unfoldable pub run_fits : List Entry → Bool
run_fits es =
    let is = items_at es in
    (number_items es && eqb (count is_percent is) 0 && leb (integer_places is) 3) && (not (any is_point is) && eqb (length (start_places is)) (integer_places is))

-- ---- the parts before the numerator, of the numerator and behind the solidus with this argument. One fill stands in all
abbrev pub parts_fit : List Entry → List Entry → ℕ → List Entry → Bool
parts_fit whole numerator a denominator =
    eqb a 0
    && (number_items numerator
    && (whole_fits whole && ((fixed_fits denominator || run_fits denominator) && not (has_tag whole 3 && has_tag denominator 3))))
