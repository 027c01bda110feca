-- The sections that a table's words stand for (R90 to R94, R105, R106).
-- Assumes nothing.
use Rattle.std.specs.Prelude.{ℕ, ◌+◌, ◌-◌, ◌*◌, ◌/◌, ◌%◌, ◌^◌, Bool, cond, List, [], ◌∷◌, map, get_or, eqb}
use Rattle.std.proofs.Math.Option.{Option, none, some}
use Rattle.lists.specs.Lists.{count}
use Rattle.formats.specs.Tokens.{zero_place, hash_place, space_place, hours, minutes, seconds, HalfDay, short, long, e_plus, e_minus, Comparison, equal, less, greater, at_most, at_least, unequal}
use Rattle.formats.specs.Items.{Item, literal, blank, fill, place, point, percent, general, at, year, month, day, hour, minute, second, part, elapsed, half, exponent, solidus, fixed, Condition, Section, number_kind, same_kind, items_kind, is_percent}
use Rattle.tables.specs.Words.{Head, Entry, Row, rows_in}

-- a word of no comparison, which the rules refuse, is read as the last
unfoldable pub comparison_at : ℕ → Comparison
comparison_at o =
    cond (eqb o 1) equal (cond (eqb o 2) less (cond (eqb o 3) greater (cond (eqb o 4) at_most (cond (eqb o 5) at_least unequal))))

unfoldable pub two_words : ℕ → ℕ → ℕ
two_words low high = low + 65536 * high

unfoldable pub whole_at : Head → ℕ
whole_at h = two_words h.whole_low h.whole_high

unfoldable pub millionths_at : Head → ℕ
millionths_at h = two_words h.millionths_low h.millionths_high

unfoldable pub condition_at : Head → Option Condition
condition_at h =
    cond (eqb h.operator 0) none
    (some (record {
      comparison = comparison_at h.operator;
      negative = eqb h.negative 1;
      millionths = whole_at h * 10 ^ 6 + millionths_at h;
    }))

unfoldable pub half_at : ℕ → HalfDay
half_at a = cond (eqb a 1) short long

-- the items in the order of their tags (`tag_of`: Encode.antt) from 0 to 25, with the argument a; 0 is the tag of no item
abbrev pub items_by_tag : ℕ → List Item
items_by_tag a =
    half (half_at a) ∷ literal a ∷ blank a ∷ fill a ∷ place zero_place ∷ place hash_place ∷ place space_place ∷ point ∷ percent ∷ general ∷ at
    ∷ year a ∷ month a ∷ day a ∷ hour a ∷ minute a ∷ second a ∷ part a ∷ elapsed hours a ∷ elapsed minutes a ∷ elapsed seconds a
    ∷ half (half_at a) ∷ exponent e_plus ∷ exponent e_minus ∷ solidus ∷ fixed a ∷ []

-- an item from its tag and argument; a tag of no item, which the rules refuse, is read as 21
unfoldable pub item_at : Entry → Item
item_at e = get_or (items_by_tag e.argument) e.tag (half (half_at e.argument))

unfoldable pub items_at : List Entry → List Item
items_at es = map item_at es

-- flag 1 is set (R92)
unfoldable pub grouped_at : ℕ → Bool
grouped_at flags = eqb (flags % 2) 1

-- the dividing commas that a shift tells beside the percents
unfoldable pub thousands_at : ℕ → ℕ → ℕ
thousands_at shift percents = (15 + 2 * percents - shift) / 3

-- a section that is no number section divides by nothing
unfoldable pub section_at : Row → Section
section_at r =
    let items = items_at r.entries in
    record {
      colour = r.head.colour;
      condition = condition_at r.head;
      grouped = grouped_at r.head.flags;
      thousands = cond (same_kind (items_kind items) number_kind) (thousands_at r.head.shift (count is_percent items)) 0;
      items = items;
    }

unfoldable pub decode : List ℕ → List Section
decode ws = map section_at (rows_in ws)
