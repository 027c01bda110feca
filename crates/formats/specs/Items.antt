-- A section as it is understood (R30 to R33, R41, R42, R45, R127, R129, R132, R134): what a code's section and a table's section both stand for.
-- Assumes nothing.
use Rattle.std.specs.Prelude.{ℕ, suc, Bool, true, false, cond, not, ◌&&◌, ◌||◌, List, [], ◌∷◌, ◌++◌, drop, leb, ltb, eqb}
use Rattle.std.proofs.Math.Option.{Option, none, some}
use Rattle.values.specs.Ranges.{between}
use Rattle.lists.specs.Lists.{every, any, count, is_empty}
use Rattle.formats.specs.Tokens.{Place, place_index, Elapsed, hours, minutes, seconds, elapsed_index, HalfDay, half_index, ExponentMark, exponent_index, Comparison, letter_y, letter_m, letter_d, letter_h, letter_s, run_allowed}

-- a date or time item has the length of its run
pub data Item : Type 0 where
  literal blank fill : ℕ → Item
  place : Place → Item
  point percent general at : Item
  year month day hour minute second part : ℕ → Item
  elapsed : Elapsed → ℕ → Item
  half : HalfDay → Item
  exponent : ExponentMark → Item
  solidus : Item
  fixed : ℕ → Item

-- compared with a value: a number of millionths with its sign, which is false at zero
pub record Condition : Type 0 where
  pub comparison : Comparison
  pub negative : Bool
  pub millionths : ℕ

-- a section (R45); no colour is 0; it divides by 1,000 as often as `thousands` says; its kind is the one that its items give
pub record Section : Type 0 where
  pub colour : ℕ
  pub condition : Option Condition
  pub grouped : Bool
  pub thousands : ℕ
  pub items : List Item

pub data Kind : Type 0 where
  text_kind general_kind date_kind scientific_kind fraction_kind number_kind literal_kind : Kind

-- what is to be known of a kind
pub record KindRow : Type 0 where
  -- a number of its own, by which kinds are told apart
  pub number : ℕ
  pub takes_number : Bool
  pub takes_instant : Bool
  -- General is what it shows of a number
  pub shows_general : Bool
  -- its places show the digits of a rounded number, or of a fraction's numbers
  pub shows_places : Bool

-- a row with its fields in their order
abbrev kind : ℕ → Bool → Bool → Bool → Bool → KindRow
kind n takes_n takes_i as_general by_places =
    record { number = n; takes_number = takes_n; takes_instant = takes_i; shows_general = as_general; shows_places = by_places }

-- the kinds, numbered as they are declared: "Number sections and General refuse instants; date-time refuses numbers (11). Literal sections take
-- both." "scientific sections (instants are 11)", "fraction sections (instants are 11)". A text section is chosen only where N = 0: "a number
-- appears as General wherever `@` stands; an instant is 11". (R59, R62)
abbrev pub kind_row : Kind → KindRow
kind_row text_kind = kind 0 true false true false
kind_row general_kind = kind 1 true false true false
kind_row date_kind = kind 2 false true false false
kind_row scientific_kind = kind 3 true false false true
kind_row fraction_kind = kind 4 true false false true
kind_row number_kind = kind 5 true false false true
kind_row literal_kind = kind 6 true true false false

abbrev pub shows_places : Kind → Bool
shows_places k = (kind_row k).shows_places

abbrev pub same_kind : Kind → Kind → Bool
same_kind j k = eqb (kind_row j).number (kind_row k).number

-- the runs that the rule for m looks at
pub data Run : Type 0 where
  hour_run second_run other_run no_run : Run

abbrev pub is_hour_run : Run → Bool
is_hour_run hour_run = true
is_hour_run second_run = false
is_hour_run other_run = false
is_hour_run no_run = false

abbrev pub is_second_run : Run → Bool
is_second_run hour_run = false
is_second_run second_run = true
is_second_run other_run = false
is_second_run no_run = false

unfoldable pub run_of_elapsed : Elapsed → Run
run_of_elapsed hours = hour_run
run_of_elapsed minutes = other_run
run_of_elapsed seconds = second_run

-- "A unit may be any number to 65,535." (R1)
abbrev pub is_unit : ℕ → Bool
is_unit u = ltb u 65536

-- what is to be known of an item beside its text
pub record ItemRow : Type 0 where
  -- a number of its own, by which items are told apart
  pub number : ℕ
  -- which place, elapsed unit, half-day mark or E it is, counted from 0; 0 where there is but one
  pub variant : ℕ
  -- its unit, the length of its run, or the fixed number; 0 where it has none of these
  pub argument : ℕ
  -- the arguments that it may have
  pub takes : ℕ → Bool
  -- the kind that it makes of its body
  pub makes : Option Kind
  -- the kinds whose bodies may hold it
  pub held_by : Kind → Bool
  -- what the rule for m sees of it
  pub run : Run

-- a row with its fields in their order
abbrev row : ℕ → ℕ → ℕ → (ℕ → Bool) → Option Kind → (Kind → Bool) → Run → ItemRow
row n v a t m h r = record { number = n; variant = v; argument = a; takes = t; makes = m; held_by = h; run = r }

abbrev no_argument : ℕ → Bool
no_argument a = eqb a 0

abbrev any_kind : Kind → Bool
any_kind k = true

-- the kinds with a point
abbrev has_point : Kind → Bool
has_point k = same_kind number_kind k || same_kind scientific_kind k

-- the items, numbered as they are declared. A body holds its kind's items, "with literals, blanks and fills anywhere". (R31)
abbrev pub item_row : Item → ItemRow
item_row (literal u) = row 0 0 u is_unit none any_kind no_run
item_row (blank u) = row 1 0 u is_unit none any_kind no_run
item_row (fill u) = row 2 0 u is_unit none any_kind no_run
item_row (place p) = row 3 (place_index p) 0 no_argument (some number_kind) shows_places no_run
item_row point = row 4 0 0 no_argument none has_point no_run
item_row percent = row 5 0 0 no_argument none (same_kind number_kind) no_run
item_row general = row 6 0 0 no_argument (some general_kind) (same_kind general_kind) no_run
item_row at = row 7 0 0 no_argument (some text_kind) (same_kind text_kind) no_run
item_row (year n) = row 8 0 n (run_allowed letter_y) (some date_kind) (same_kind date_kind) other_run
item_row (month n) = row 9 0 n (run_allowed letter_m) (some date_kind) (same_kind date_kind) other_run
item_row (day n) = row 10 0 n (run_allowed letter_d) (some date_kind) (same_kind date_kind) other_run
item_row (hour n) = row 11 0 n (run_allowed letter_h) (some date_kind) (same_kind date_kind) hour_run
item_row (minute n) = row 12 0 n (between 1 2) (some date_kind) (same_kind date_kind) other_run
item_row (second n) = row 13 0 n (run_allowed letter_s) (some date_kind) (same_kind date_kind) second_run
item_row (part n) = row 14 0 n (between 1 3) none (same_kind date_kind) no_run
item_row (elapsed e n) = row 15 (elapsed_index e) n (between 1 9) (some date_kind) (same_kind date_kind) (run_of_elapsed e)
item_row (half h) = row 16 (half_index h) 0 no_argument none (same_kind date_kind) no_run
item_row (exponent m) = row 17 (exponent_index m) 0 no_argument (some scientific_kind) (same_kind scientific_kind) no_run
item_row solidus = row 18 0 0 no_argument (some fraction_kind) (same_kind fraction_kind) no_run
item_row (fixed n) = row 19 0 n (between 1 999) (some fraction_kind) (same_kind fraction_kind) no_run

abbrev pub item_number : Item → ℕ
item_number i = (item_row i).number

abbrev pub is_literal : Item → Bool
is_literal i = eqb (item_number i) 0

abbrev pub is_fill : Item → Bool
is_fill i = eqb (item_number i) 2

abbrev pub is_place : Item → Bool
is_place i = eqb (item_number i) 3

-- a place `?`
abbrev pub is_space : Item → Bool
is_space i = is_place i && eqb (item_row i).variant 2

abbrev pub is_point : Item → Bool
is_point i = eqb (item_number i) 4

abbrev pub is_percent : Item → Bool
is_percent i = eqb (item_number i) 5

abbrev pub is_general : Item → Bool
is_general i = eqb (item_number i) 6

abbrev pub is_month : Item → Bool
is_month i = eqb (item_number i) 9

abbrev pub is_hour : Item → Bool
is_hour i = eqb (item_number i) 11

abbrev pub is_minute : Item → Bool
is_minute i = eqb (item_number i) 12

abbrev pub is_second : Item → Bool
is_second i = eqb (item_number i) 13

abbrev pub is_part : Item → Bool
is_part i = eqb (item_number i) 14

abbrev pub is_elapsed : Item → Bool
is_elapsed i = eqb (item_number i) 15

abbrev pub is_half : Item → Bool
is_half i = eqb (item_number i) 16

abbrev pub is_exponent : Item → Bool
is_exponent i = eqb (item_number i) 17

abbrev pub is_solidus : Item → Bool
is_solidus i = eqb (item_number i) 18

abbrev pub is_fixed : Item → Bool
is_fixed i = eqb (item_number i) 19

-- a section is cut at its E or at its solidus: the places behind it show a number of their own
abbrev pub is_cut : Item → Bool
is_cut i = is_exponent i || is_solidus i

-- an elapsed item that counts this unit
abbrev pub is_elapsed_of : Elapsed → Item → Bool
is_elapsed_of e i = is_elapsed i && eqb (item_row i).variant (elapsed_index e)

-- a literal's, blank's or fill's unit is a unit; runs have the lengths that their tokens may have
unfoldable pub item_in_range : Item → Bool
item_in_range i = (item_row i).takes (item_row i).argument

unfoldable pub run_of : Item → Run
run_of i = (item_row i).run

-- what makes nothing of its body makes no kind of it
abbrev pub is_kind : Kind → Option Kind → Bool
is_kind k none = false
is_kind k (some j) = same_kind k j

unfoldable pub item_makes : Kind → Item → Bool
item_makes k i = is_kind k (item_row i).makes

-- the kind of a body, by whether a part of it makes it of a kind: "with an `@` [..] text; with `General`, General; with a date
-- token, date-time; [..] with a place, number; with literals [..] only or empty, literal"; with an E it is scientific, unless `@`, General
-- or a date token is in it; with a solidus a fraction, unless one of these or an E is in it (R30, R127, R132)
unfoldable pub kind_from : (Kind → Bool) → Kind
kind_from made =
    cond (made text_kind) text_kind
    (cond (made general_kind) general_kind
    (cond (made date_kind) date_kind
    (cond (made scientific_kind) scientific_kind
    (cond (made fraction_kind) fraction_kind
    (cond (made number_kind) number_kind literal_kind)))))

unfoldable pub items_kind : List Item → Kind
items_kind is = kind_from (λ (k : Kind). any (item_makes k) is)

unfoldable pub kind_of : Section → Kind
kind_of s = items_kind s.items

-- "A body holds only what is named here for its kind, with literals, blanks and fills anywhere." (R31, R32)
unfoldable pub item_allowed : Kind → Item → Bool
item_allowed k i = (item_row i).held_by k

-- the plain equivalent of the elapsed item of this variant: an hour run of elapsed hours, a minute run of elapsed minutes, a second run
-- of elapsed seconds
abbrev pub is_plain : ℕ → Item → Bool
is_plain variant i =
    cond (eqb variant (elapsed_index hours)) (is_hour i) (cond (eqb variant (elapsed_index minutes)) (is_minute i) (is_second i))

-- an elapsed item has no plain equivalent anywhere among the items
unfoldable pub no_plain : List Item → Item → Bool
no_plain is i = not (is_elapsed i && any (is_plain (item_row i).variant) is)

-- the items before the E or solidus, all where there is none; and those from it on (R127, R132)
unfoldable pub before_cut : List Item → List Item
before_cut [] = []
before_cut (i ∷ is) = let r = before_cut is in cond (is_cut i) [] (i ∷ r)

unfoldable pub from_cut : List Item → List Item
from_cut [] = []
from_cut (i ∷ is) = let r = from_cut is in cond (is_cut i) (i ∷ is) r

-- the integer places stand before the point, the decimal places behind it, both before the E or solidus (R33, R127)
unfoldable pub integer_places : List Item → ℕ
integer_places [] = 0
integer_places (i ∷ is) = let r = integer_places is in cond (is_point i || is_cut i) 0 (cond (is_place i) (suc r) r)

unfoldable pub decimal_places : List Item → ℕ
decimal_places [] = 0
decimal_places (i ∷ is) =
    let r = decimal_places is in cond (is_point i) (count is_place (before_cut is)) (cond (is_cut i) 0 r)

-- "all places behind the E are exponent places"; those behind a solidus are the denominator's (R127, R132)
unfoldable pub places_behind : List Item → ℕ
places_behind is = count is_place (from_cut is)

-- "one `E+` or `E-` somewhere after an integer place, with 1 to 3 exponent places `0` or `#` behind it"; "a second E, a point or `?` behind
-- the E, [..] no exponent place or no integer place in such a section is 4" (R127, R129)
unfoldable pub exponent_fits : List Item → Bool
exponent_fits is =
    not (any is_exponent is)
    || (leb (count is_exponent is) 1
    && leb 1 (integer_places is)
    && leb 1 (places_behind is)
    && not (any is_point (from_cut is))
    && not (any is_space (from_cut is)))

-- ---- fractions (R132): "optional integer places followed by at least one literal, then an unbroken run of places, `/` directly after it, then
-- directly another such run or a fixed whole number"
-- the longest run of places at the end of items, and the items before it
unfoldable pub end_places : List Item → List Item
end_places [] = []
end_places (i ∷ is) = let r = end_places is in cond (every is_place (i ∷ is)) (i ∷ is) r

unfoldable pub before_end : List Item → List Item
before_end [] = []
before_end (i ∷ is) = let r = before_end is in cond (every is_place (i ∷ is)) [] (i ∷ r)

-- the longest run of places at the start of items, and the items behind it
unfoldable pub start_places : List Item → List Item
start_places [] = []
start_places (i ∷ is) = let r = start_places is in cond (is_place i) (i ∷ r) []

unfoldable pub behind_start : List Item → List Item
behind_start [] = []
behind_start (i ∷ is) = let r = behind_start is in cond (is_place i) r (i ∷ is)

-- the numerator's places, and what stands before them: the items of the integer part
unfoldable pub numerator_items : List Item → List Item
numerator_items is = end_places (before_cut is)

unfoldable pub whole_items : List Item → List Item
whole_items is = cond (any is_solidus is) (before_end (before_cut is)) []

-- the items without those of the integer part of a fraction: of any other section all of them
unfoldable pub main_items : List Item → List Item
main_items is = cond (any is_solidus is) (numerator_items is ++ from_cut is) is

-- "integer places followed by at least one literal": a literal stands behind the last place
unfoldable pub literal_follows : List Item → Bool
literal_follows [] = true
literal_follows (i ∷ is) = let r = literal_follows is in cond (is_place i && not (any is_place is)) (any is_literal is) r

-- what stands behind the solidus: directly a fixed number or a run of places, and neither of them again
unfoldable pub denominator_fits : List Item → Bool
denominator_fits [] = false
denominator_fits (i ∷ is) =
    cond (is_fixed i) (not (any is_place is)) (is_place i && not (any is_place (behind_start is)))
    && not (any is_fixed is)

unfoldable pub fraction_fits : List Item → Bool
fraction_fits is =
    not (any is_solidus is || any is_fixed is)
    || (eqb (count is_solidus is) 1
    && not (is_empty (numerator_items is))
    && literal_follows (whole_items is)
    && not (any is_fixed (before_cut is))
    && denominator_fits (drop 1 (from_cut is)))

-- the rules for items: what their kind may hold; "General (once"; "at most one point"; "At most one elapsed token, and not
-- beside its plain equivalent"; those for an E and for a solidus (R31 to R33, R41, R127, R129, R132, R134)
unfoldable pub items_fit : List Item → Bool
items_fit is =
    every (item_allowed (items_kind is)) is
    && leb (count is_general is) 1
    && leb (count is_point is) 1
    && leb (count is_elapsed is) 1
    && every (no_plain is) is
    && exponent_fits is
    && fraction_fits is

-- the first of two that is a run
unfoldable pub nearer : Run → Run → Run
nearer no_run r = r
nearer hour_run r = hour_run
nearer second_run r = second_run
nearer other_run r = other_run

unfoldable pub first_run : List Item → Run
first_run [] = no_run
first_run (i ∷ is) = nearer (run_of i) (first_run is)

-- "m or mm is minutes when the nearest earlier date or time run or elapsed token is hours, or the nearest later one is s, ss or
-- elapsed seconds", "else the month" (R42, R125)
unfoldable pub means_minutes : Run → Run → Bool
means_minutes earlier later = is_hour_run earlier || is_second_run later

-- a run of m of this length as an item
unfoldable pub month_or_minute : Bool → ℕ → Item
month_or_minute is_minutes n = cond (is_minutes && leb n 2) (minute n) (month n)

-- an item by the rule for m, between its nearest earlier and its nearest later run
unfoldable pub settled_item : Run → Run → Item → Item
settled_item earlier later i = cond (is_month i || is_minute i) (month_or_minute (means_minutes earlier later) (item_row i).argument) i

unfoldable pub settled_from : Run → List Item → List Item
settled_from earlier [] = []
settled_from earlier (i ∷ is) =
    settled_item earlier (first_run is) i ∷ settled_from (nearer (run_of i) earlier) is

-- the items with every m run of 1 or 2 as the rule for m says
unfoldable pub settled : List Item → List Item
settled is = settled_from no_run is
