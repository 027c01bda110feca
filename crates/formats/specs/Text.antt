-- "Figures" (R69 to R74, R135) and "Days" (R85 to R88): the text of each item, and of a section.
-- Assumes nothing.
use Rattle.std.specs.Prelude.{ℕ, zero, suc, ◌+◌, ◌-◌, ◌/◌, ◌%◌, ◌^◌, Bool, true, false, cond, ◌&&◌, leb, ltb, eqb}
use mathlib.Core.List.{List, [], ◌∷◌, ◌++◌, flatten}
use Rattle.figures.specs.Digits.{digit, digit_unit, digit_units, numeral}
use Rattle.calendar.specs.Date.{Date}
use Rattle.calendar.specs.Clock.{Clock, twelve_hour, afternoon, elapsed_hours, elapsed_minutes, elapsed_seconds}
use Rattle.calendar.specs.Names.{units, month_name, weekday_name, short_name, first_letter}
use Rattle.formats.specs.Tokens.{Place, zero_place, hash_place, space_place, Elapsed, hours, minutes, seconds, HalfDay, short, long, ExponentMark, e_plus, e_minus}
use Rattle.formats.specs.Items.{Item, literal, blank, fill, place, point, percent, general, at, year, month, day, hour, minute, second, part, elapsed, half, exponent, solidus, fixed, is_place, is_cut}

-- all that the items of a section show
pub record Context : Type 0 where
  pub figures : ℕ
  pub grouped : Bool
  pub integer_places : ℕ
  pub standing : List ℕ
  pub date : Date
  pub clock : Clock
  pub twelve : Bool
  pub elapsed : ℕ
  -- the exponent is below 0
  pub below : Bool

-- "The rounded number is forty digits by value, 25 before the point and 15 after." (R69) It is a count of 10^-15, and each of its digits is
-- told by its power of ten and 15, from the first down.
abbrev pub first_digit : ℕ
first_digit = 39

abbrev pub last_integer : ℕ
last_integer = 15

abbrev pub first_decimal : ℕ
first_decimal = 14

-- "An insignificant integer zero has no nonzero integer digit before it, an insignificant decimal zero no nonzero digit after it." (R71)
unfoldable pub insignificant : ℕ → ℕ → Bool
insignificant n q = cond (leb last_integer q) (eqb (n / 10 ^ q) 0) (eqb (n % 10 ^ suc q) 0)

-- "An insignificant zero shows 0 under `0`, nothing under `#`, a space under `?`." (R72)
unfoldable pub idle_units : Place → List ℕ
idle_units zero_place = 48 ∷ []
idle_units hash_place = []
idle_units space_place = 32 ∷ []

-- the digit of 10^3, 10^6 and so on
unfoldable pub ends_group : ℕ → Bool
ends_group q = ltb last_integer q && eqb ((q - last_integer) % 3) 0

-- "the digit or 0 [..] is followed by a comma, such a space by a space" (R73)
unfoldable pub with_separator : List ℕ → List ℕ
with_separator [] = []
with_separator (u ∷ us) = u ∷ cond (eqb u 32) 32 44 ∷ us

-- what a place shows of the digit q
unfoldable pub figure_units : ℕ → Bool → Place → ℕ → List ℕ
figure_units n grouped p q =
    let us = cond (insignificant n q) (idle_units p) (digit_unit (digit n q) ∷ []) in
    cond (grouped && ends_group q) (with_separator us) us

-- the significant digits from q + count - 1 down to q
unfoldable pub extra_units : ℕ → Bool → ℕ → ℕ → List ℕ
extra_units n grouped q zero = []
extra_units n grouped q (suc count) = figure_units n grouped hash_place (q + count) ++ extra_units n grouped q count

-- the significant digits before the digit q
abbrev pub units_beyond : Context → ℕ → List ℕ
units_beyond c q = extra_units c.figures c.grouped (suc q) (first_digit - q)

-- the digit q is that of the first integer place
abbrev pub at_first_integer : Context → ℕ → Bool
at_first_integer c q = ltb 0 c.integer_places && eqb (suc q) (last_integer + c.integer_places)

-- "Integer digits beyond the places go in at the first integer place, or before the point if there is none." (R70)
unfoldable pub place_units : Context → Place → ℕ → List ℕ
place_units c p q = cond (at_first_integer c q) (units_beyond c q) [] ++ figure_units c.figures c.grouped p q

-- "The point always shows." (R74)
unfoldable pub point_units : Context → List ℕ
point_units c = cond (eqb c.integer_places 0) (units_beyond c first_decimal) [] ++ (46 ∷ [])

-- a year: its last two digits, or all of it (R85)
unfoldable pub year_units : ℕ → ℕ → List ℕ
year_units n y = cond (eqb n 2) (numeral 2 (y % 100)) (numeral 4 y)

-- a month or a day: one or two digits, the short name, the name, and for months the first letter (R85)
unfoldable pub named_units : ℕ → ℕ → List ℕ → List ℕ
named_units n number name =
    cond (leb n 2) (numeral n number)
    (cond (eqb n 3) (short_name name)
    (cond (eqb n 4) name (first_letter name)))

-- "A half-day mark sets a 12-hour clock" (R87)
unfoldable pub hour_shown : Bool → ℕ → ℕ
hour_shown twelve h = cond twelve (twelve_hour h) h

-- "a part of a second and shows its point" (R86): times are cut
unfoldable pub part_units : ℕ → ℕ → List ℕ
part_units n thousandth = 46 ∷ digit_units n (thousandth / 10 ^ (3 - n))

-- "Elapsed tokens count all whole units since day 0" (R88)
unfoldable pub elapsed_count : Elapsed → ℕ → ℕ
elapsed_count hours total = elapsed_hours total
elapsed_count minutes total = elapsed_minutes total
elapsed_count seconds total = elapsed_seconds total

-- a half-day mark, before noon or from noon on (R87)
unfoldable pub half_units : HalfDay → Bool → List ℕ
half_units short true = units "P"
half_units short false = units "A"
half_units long true = units "PM"
half_units long false = units "AM"

-- "`E-` shows only a minus, `E+` at 0 a plus" (R128): a capital E and its sign
unfoldable pub exponent_units : ExponentMark → Bool → List ℕ
exponent_units e_plus true = units "E-"
exponent_units e_plus false = units "E+"
exponent_units e_minus true = units "E-"
exponent_units e_minus false = units "E"

-- an item's text (R74); q tells the digit of a place
unfoldable pub item_units : Context → ℕ → Item → List ℕ
item_units c q (literal u) = u ∷ []
item_units c q (blank u) = 32 ∷ []
item_units c q (fill u) = []
item_units c q (place p) = place_units c p q
item_units c q point = point_units c
item_units c q percent = units "%"
item_units c q general = c.standing
item_units c q at = c.standing
item_units c q (year n) = year_units n c.date.year
item_units c q (month n) = named_units n c.date.month (month_name c.date.month)
item_units c q (day n) = named_units n c.date.day_of_month (weekday_name c.date.weekday)
item_units c q (hour n) = numeral n (hour_shown c.twelve c.clock.hour)
item_units c q (minute n) = numeral n c.clock.minute
item_units c q (second n) = numeral n c.clock.second
item_units c q (part n) = part_units n c.clock.thousandth
item_units c q (elapsed e n) = numeral n (elapsed_count e c.elapsed)
item_units c q (half h) = half_units h (afternoon c.clock.hour)
item_units c q (exponent m) = exponent_units m c.below
item_units c q solidus = units "/"
item_units c q (fixed n) = numeral 1 n

-- the digit after an item: each place has the next lower power, and behind an E or solidus the digit is `anew`
unfoldable pub digit_after : ℕ → ℕ → Item → ℕ
digit_after anew q i = cond (is_cut i) anew (cond (is_place i) (q - 1) q)

-- one pass over a section's items, or over what stands for them, that tells each its digit: a text, a table's words and the rules for
-- them are made of it
unfoldable pub along : {A B : Type 0} → (A → Item) → (ℕ → A → B) → ℕ → ℕ → List A → List B
along item f anew q [] = []
along item f anew q (x ∷ xs) = f q x ∷ along item f anew (digit_after anew q (item x)) xs

abbrev pub self : Item → Item
self i = i

-- the digit of the first place: so the last integer place has the last integer digit, the first decimal place the first decimal digit
abbrev pub first_of : ℕ → ℕ
first_of integer_places = first_decimal + integer_places

-- the text of each item
abbrev pub item_pieces : Context → ℕ → List Item → List (List ℕ)
item_pieces c q is = along self (item_units c) (first_of c.integer_places) q is

unfoldable pub items_units : Context → ℕ → List Item → List ℕ
items_units c q is = flatten (item_pieces c q is)

-- the items of a section, or of the part of a section that this context is of
unfoldable pub section_units : Context → List Item → List ℕ
section_units c is = items_units c (first_of c.integer_places) is
