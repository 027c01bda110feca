-- The table made from sections (R89 to R94, R101).
-- Assumes nothing.
use Rattle.std.specs.Prelude.{ℕ, suc, ◌+◌, ◌-◌, ◌*◌, ◌/◌, ◌%◌, ◌^◌, Bool, true, false, cond, List, [], ◌∷◌, ◌++◌, length}
use Rattle.std.proofs.Math.Option.{Option, none, some}
use Rattle.lists.specs.Lists.{any, count}
use Rattle.formats.specs.Tokens.{place_index, elapsed_index, exponent_index, Comparison, equal, less, greater, at_most, at_least, unequal}
use Rattle.formats.specs.Items.{Item, literal, blank, fill, place, point, percent, general, at, year, month, day, hour, minute, second, part, elapsed, half, exponent, solidus, fixed, item_row, Condition, Section, Kind, text_kind, general_kind, date_kind, scientific_kind, fraction_kind, number_kind, literal_kind, shows_places, same_kind, kind_of, is_place, is_percent, is_half, integer_places, decimal_places, places_behind, whole_items, main_items}
use Rattle.formats.specs.Where.{has_condition}
use Rattle.formats.specs.Choice.{counted}
use Rattle.formats.specs.Minus.{first_has_condition, exception_a}
use Rattle.formats.specs.Text.{along, self, first_of}
use Rattle.tables.specs.Words.{Head, Entry, Row, table_words}

-- "kind (0 literal, 1 General, 2 number, 3 text, 4 date-time)", "kind 5" scientific, "kind 6" fraction (R90, R131, R136)
unfoldable pub kind_word : Kind → ℕ
kind_word literal_kind = 0
kind_word general_kind = 1
kind_word number_kind = 2
kind_word text_kind = 3
kind_word date_kind = 4
kind_word scientific_kind = 5
kind_word fraction_kind = 6

-- "operator (0 none [..]; then 1 to 6 in the order above)": `= < > <= >= <>` (R90)
unfoldable pub comparison_word : Comparison → ℕ
comparison_word equal = 1
comparison_word less = 2
comparison_word greater = 3
comparison_word at_most = 4
comparison_word at_least = 5
comparison_word unequal = 6

unfoldable pub operator_word : Option Condition → ℕ
operator_word none = 0
operator_word (some c) = comparison_word c.comparison

unfoldable pub bit : Bool → ℕ
bit true = 1
bit false = 0

-- "negative 0/1 (0 at zero)" (R90)
unfoldable pub negative_word : Option Condition → ℕ
negative_word none = 0
negative_word (some c) = bit c.negative

-- "condition's whole part [..], millionths" (R90)
unfoldable pub whole_part : Option Condition → ℕ
whole_part none = 0
whole_part (some c) = c.millionths / 10 ^ 6

unfoldable pub millionths_part : Option Condition → ℕ
millionths_part none = 0
millionths_part (some c) = c.millionths % 10 ^ 6

-- a number in two words
unfoldable pub low_word : ℕ → ℕ
low_word n = n % 65536

unfoldable pub high_word : ℕ → ℕ
high_word n = n / 65536

-- "shift (number: 15 + 2 percents - 3 commas; else 0)" (R91)
unfoldable pub shift_word : Section → ℕ
shift_word s = cond (same_kind (kind_of s) number_kind) (15 + 2 * count is_percent s.items - 3 * s.thousands) 0

-- "flags (1 grouping, 2 no minus by (a), 4 twelve-hour)" (R92)
unfoldable pub flags_word : Bool → Bool → Bool → ℕ
flags_word grouping no_minus twelve = bit grouping + 2 * bit no_minus + 4 * bit twelve

-- section i of N has no minus by (a), where the first section has a condition or none
unfoldable pub no_minus : ℕ → ℕ → Bool → Section → Bool
no_minus n i first_has s = exception_a n i (has_condition s) first_has

unfoldable pub has_half : List Item → Bool
has_half is = any is_half is

-- "decimal places" of a number or scientific section, else 0 (R93, R131)
unfoldable pub decimals_word : Section → ℕ
decimals_word s = cond (shows_places (kind_of s)) (decimal_places s.items) 0

unfoldable pub head_of : ℕ → ℕ → Bool → Section → Head
head_of n i first_has s =
    record {
      kind = kind_word (kind_of s);
      colour = s.colour;
      operator = operator_word s.condition;
      negative = negative_word s.condition;
      whole_low = low_word (whole_part s.condition);
      whole_high = high_word (whole_part s.condition);
      millionths_low = low_word (millionths_part s.condition);
      millionths_high = high_word (millionths_part s.condition);
      shift = shift_word s;
      flags = flags_word s.grouped (no_minus n i first_has s) (has_half s.items);
      decimals = decimals_word s;
      items = length s.items;
    }

abbrev pub entry : ℕ → ℕ → Entry
entry t a = record { tag = t; argument = a }

-- an item's first word: "1 literal, 2 blank, 3 fill [..]; 4, 5, 6 places `0 # ?` [..]; 7 point, 8 percent, 9 General, 10 at [..]; 11 year,
-- 12 month, 13 day, 14 hour, 15 minute, 16 second, 17 part of a second, 18 to 20 elapsed h, m, s [..]; 21 half-day", "22 (E+, 0) and 23
-- (E-, 0)", "24 (solidus, 0) and 25 (fixed denominator, the number)" (R94, R131, R136)
abbrev pub tag_of : Item → ℕ
tag_of (literal u) = 1
tag_of (blank u) = 2
tag_of (fill u) = 3
tag_of (place p) = 4 + place_index p
tag_of point = 7
tag_of percent = 8
tag_of general = 9
tag_of at = 10
tag_of (year n) = 11
tag_of (month n) = 12
tag_of (day n) = 13
tag_of (hour n) = 14
tag_of (minute n) = 15
tag_of (second n) = 16
tag_of (part n) = 17
tag_of (elapsed e n) = 18 + elapsed_index e
tag_of (half h) = 21
tag_of (exponent m) = 22 + exponent_index m
tag_of solidus = 24
tag_of (fixed n) = 25

-- an item's second word: a place has its power, "(power + 16)", where q is the power of its digit and 15; a half-day mark is "1 A/P,
-- 2 AM/PM"; any other has its unit, its run length or its number, and 0 where it has none (R94, R131, R136)
abbrev pub argument_of : ℕ → Item → ℕ
argument_of q i = cond (is_place i) (suc q) (cond (is_half i) (suc (item_row i).variant) (item_row i).argument)

-- an item's two words (R94)
unfoldable pub entry_of : ℕ → Item → Entry
entry_of q i = entry (tag_of i) (argument_of q i)

abbrev pub entries_from : ℕ → ℕ → List Item → List Entry
entries_from anew q is = along self entry_of anew q is

-- "the last integer place having 0 and the first decimal place -1" (R101), "exponent places down to power 0" (R131)
unfoldable pub run_entries : List Item → List Entry
run_entries is = entries_from (first_of (places_behind is)) (first_of (integer_places is)) is

-- "numerator and denominator places each run down to power 0" (R136): the integer places of a fraction stand apart from these
unfoldable pub entries_of : List Item → List Entry
entries_of is = run_entries (whole_items is) ++ run_entries (main_items is)

unfoldable pub row_of : ℕ → ℕ → Bool → Section → Row
row_of n i first_has s = record { head = head_of n i first_has s; entries = entries_of s.items }

unfoldable pub rows_from : ℕ → ℕ → Bool → List Section → List Row
rows_from n i first_has [] = []
rows_from n i first_has (s ∷ ss) = row_of n i first_has s ∷ rows_from n (suc i) first_has ss

unfoldable pub rows_of : List Section → List Row
rows_of ss = rows_from (counted ss) 0 (first_has_condition ss) ss

-- the table's words
unfoldable pub encode : List Section → List ℕ
encode ss = table_words (rows_of ss)
