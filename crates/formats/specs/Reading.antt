-- The reading (R108, R109); what is left of choice and minus (R59, R61, R62, R65, R66); which figures are shown (R67, R68, R78, R79, R126, R128, R133, R135), and
-- whether they are exact (R137, R138).
-- "A reading of an accepted code, or of a table that passes, takes a value and the text room's length. It gives the first of
-- showing's refusals after 8 that applies, or 0 with text, colour and section." "A reading gives it too": whether what is shown is exact.
-- Assumes nothing.
use Rattle.std.specs.Prelude.{ℕ, ◌-◌, ◌*◌, ◌%◌, ◌^◌, min, Bool, true, false, cond, not, ◌&&◌, ◌||◌, length, take, drop, replicate, leb, eqb, nat_abs}
use mathlib.Core.List.{List, [], ◌∷◌, ◌++◌, map, flatten}
use Rattle.answers.specs.declared.Refusal.{Refusal}
use Rattle.answers.specs.declared.Refusal.TheVariants as answer
use Rattle.values.specs.declared.Number.{Number}
use Rattle.values.specs.declared.Day.{Day}
use Rattle.values.specs.declared.Millisecond.{Millisecond}
use Rattle.values.specs.declared.Value.{Value}
use Rattle.values.specs.declared.Value.TheVariants as value
use Rattle.values.specs.declared.Ask.{Ask}
use Rattle.values.specs.Ranges.{in_range}
use Rattle.lists.specs.Lists.{any, count}
use Rattle.figures.specs.Digits.{width}
use Rattle.figures.specs.Rounding.{Magnitude, scaled, rounded, rounds_exactly}
use Rattle.figures.specs.General.{general_rounded, general_exactly, general_too_wide, general_units}
use Rattle.exponents.specs.Exponent.{Exponent, exponent_of, mantissa_of, mantissa_exactly}
use Rattle.fractions.specs.declared.Fraction.{Fraction}
use Rattle.fractions.specs.declared.Mixed.{Mixed}
use Rattle.fractions.specs.Fractions.{over, nearest_fraction, fraction_of, mixed_exactly}
use Rattle.calendar.specs.Date.{date_of}
use Rattle.calendar.specs.Clock.{clock_of, since_day_zero}
use Rattle.formats.specs.Tokens.{hours, minutes, seconds, hash_place}
use Rattle.formats.specs.Items.{Item, item_row, blank, place, Section, Kind, kind_row, shows_places, date_kind, scientific_kind, fraction_kind, number_kind, same_kind, kind_of, is_place, is_space, is_percent, is_hour, is_minute, is_second, is_part, is_elapsed_of, is_half, is_solidus, is_fixed, before_cut, from_cut, integer_places, decimal_places, places_behind, start_places, behind_start, numerator_items, whole_items, main_items}
use Rattle.formats.specs.Choice.{number_exact, instant_exact, Choice, nothing, chosen, Reason, choose, counted, TextChoice, itself, text_in, choose_text}
use Rattle.formats.specs.Minus.{Sign, is_own, first_has_condition, exception_a, sign_for, sign_units}
use Rattle.formats.specs.Text.{Context, section_units}
use Rattle.formats.specs.Accept.{Accepted, sections, refusal, accept}

-- what is seen of a value: "text, colour and section", and whether it is exact
pub record Look : Type 0 where
  pub text : List ℕ
  pub colour : ℕ
  pub section : ℕ
  pub exact : Bool

pub data Reading : Type 0 where
  refused : Refusal → Reading
  shown : Look → Reading

abbrev pub look_of : List ℕ → ℕ → ℕ → Bool → Look
look_of text colour section exact = record { text = text; colour = colour; section = section; exact = exact }

-- 13: "the text is longer than the room"
unfoldable pub within : ℕ → Look → Reading
within room look = cond (leb (length look.text) room) (shown look) (refused answer.TextRoom)

-- 11: "the section chosen can't show that sort of value" (R59, R62)
unfoldable pub takes_number : Kind → Bool
takes_number k = (kind_row k).takes_number

unfoldable pub takes_instant : Kind → Bool
takes_instant k = (kind_row k).takes_instant

unfoldable pub shows_general : Kind → Bool
shows_general k = (kind_row k).shows_general

-- the exponent of a number in a scientific section (R126)
unfoldable pub section_exponent : Section → Number → Exponent
section_exponent s x = exponent_of (number_exact x).size (integer_places s.items) (decimal_places s.items)

-- the rounded number of a number section: the exact scaled number to its decimals (R67, R68); of a scientific section the mantissa, which
-- the exponent scales (R128)
unfoldable pub section_rounded : Section → Number → ℕ
section_rounded s x =
    cond (same_kind (kind_of s) scientific_kind)
    (mantissa_of (number_exact x).size (integer_places s.items) (decimal_places s.items))
    (rounded (scaled (nat_abs x.coefficient) x.scale (count is_percent s.items) s.thousands) (decimal_places s.items))

-- ---- fractions
-- the fixed number among items
unfoldable pub fixed_in : List Item → ℕ
fixed_in [] = 0
fixed_in (i ∷ is) = let r = fixed_in is in cond (is_fixed i) (item_row i).argument r

-- "With q places below the denominator is any number from 1 to 10^q - 1, and the shown fraction is a nearest one; of equally near ones the
-- smaller denominator. With a fixed number, the nearest numerator, halves away from zero." (R133)
unfoldable pub fraction_for : List Item → Magnitude → Fraction
fraction_for is x = cond (any is_fixed is) (over (fixed_in is) x) (nearest_fraction (places_behind is) x)

-- there are integer places
unfoldable pub is_parted : List Item → Bool
is_parted is = any is_place (whole_items is)

-- "If the fraction rounds to 1 it is carried into the integer part, where there is one." (R133)
unfoldable pub section_fraction : Section → Number → Mixed
section_fraction s x = fraction_of (is_parted s.items) (fraction_for s.items) (number_exact x).size

-- the rounded number of General
unfoldable pub standing_rounded : Number → ℕ
standing_rounded x = general_rounded (number_exact x).size

-- what a section's items show of a number
unfoldable pub number_context : Section → Number → Context
number_context s x =
    record {
      figures = section_rounded s x;
      grouped = s.grouped;
      integer_places = integer_places s.items;
      standing = general_units (standing_rounded x);
      date = date_of 0;
      clock = clock_of 0;
      twelve = false;
      elapsed = 0;
      below = false;
    }

-- what items with so many places show of a whole number, and of the sign of an exponent
unfoldable pub whole_context : ℕ → ℕ → Bool → Context
whole_context n places below =
    record {
      figures = n * 10 ^ 15;
      grouped = false;
      integer_places = places;
      standing = [];
      date = date_of 0;
      clock = clock_of 0;
      twelve = false;
      elapsed = 0;
      below = below;
    }

-- what the items from the E on show of it: "The exponent is shown like an integer part" (R128)
unfoldable pub exponent_context : Section → Number → Context
exponent_context s x = whole_context (section_exponent s x).size (places_behind s.items) (section_exponent s x).below

-- what they show of an instant
unfoldable pub instant_context : Section → Day → Millisecond → Context
instant_context s d m =
    record {
      figures = 0;
      grouped = false;
      integer_places = 0;
      standing = [];
      date = date_of d.0;
      clock = clock_of m.0;
      twelve = any is_half s.items;
      elapsed = since_day_zero d.0 m.0;
      below = false;
    }

-- what they show of a text: "General there stands for the text" (R61)
unfoldable pub text_context : List ℕ → Context
text_context text =
    record {
      figures = 0;
      grouped = false;
      integer_places = 0;
      standing = text;
      date = date_of 0;
      clock = clock_of 0;
      twelve = false;
      elapsed = 0;
      below = false;
    }

-- the text of items that show the whole number n in their places
abbrev pub whole_text : ℕ → List Item → List ℕ
whole_text n is = section_units (whole_context n (integer_places is) false) is

-- "The denominator's spare places, counted from the left, give a 0 in front for `0`, a space behind for `?`, nothing for `#`." (R135)
-- its spare places, with d the denominator
unfoldable pub spare_places : ℕ → List Item → List Item
spare_places d places = take (length places - width d) places

-- `?` shows nothing in front
unfoldable pub spaceless : Item → Item
spaceless i = cond (is_space i) (place hash_place) i

unfoldable pub denominator_units : ℕ → List Item → List ℕ
denominator_units d places = whole_text d (map spaceless places) ++ replicate (count is_space (spare_places d places)) 32

-- from the solidus on: itself, the denominator in its places, and what stands behind them, with the fixed number
unfoldable pub below_units : ℕ → List Item → List ℕ
below_units d is = whole_text 0 (take 1 is) ++ denominator_units d (start_places (drop 1 is)) ++ whole_text 0 (behind_start (drop 1 is))

-- "A numerator of zero beside integer places shows a space for each place of the fraction, digit of a fixed number and solidus." (R135)
unfoldable pub blanked : Item → List Item
blanked i = cond (is_place i || is_solidus i) (blank 32 ∷ []) (cond (is_fixed i) (replicate (width (item_row i).argument) (blank 32)) (i ∷ []))

-- "The numerator is shown like an integer part." (R135)
unfoldable pub fraction_units : Mixed → List Item → List ℕ
fraction_units f is =
    whole_text f.whole (whole_items is)
    ++ cond (is_parted is && eqb f.above 0) (whole_text 0 (flatten (map blanked (main_items is))))
    (whole_text f.above (numerator_items is) ++ below_units f.below (from_cut is))

-- a section's text of a number, without the added minus
unfoldable pub section_text : Section → Number → List ℕ
section_text s x =
    cond (same_kind (kind_of s) scientific_kind)
    (section_units (number_context s x) (before_cut s.items) ++ section_units (exponent_context s x) (from_cut s.items))
    (cond (same_kind (kind_of s) fraction_kind) (fraction_units (section_fraction s x) s.items)
    (section_units (number_context s x) s.items))

-- what the places show is nought: "Here (b) reads: integer part and numerator are both zero." (R135)
unfoldable pub places_nought : Section → Number → Bool
places_nought s x =
    cond (same_kind (kind_of s) fraction_kind) (eqb (section_fraction s x).whole 0 && eqb (section_fraction s x).above 0)
    (eqb (section_rounded s x) 0)

-- "it shows places or General and these round to zero" (R65)
unfoldable pub shows_nought : Section → Number → Bool
shows_nought s x =
    shows_places (kind_of s) && places_nought s x
    || shows_general (kind_of s) && eqb (standing_rounded x) 0

-- the added minus of a number that went to section i for this reason
unfoldable pub number_sign : List Section → ℕ → Section → Reason → Number → Sign
number_sign ss i s why x =
    sign_for (number_exact x) s (exception_a (counted ss) i (is_own why) (first_has_condition ss)) (shows_nought s x)

unfoldable pub number_units : List Section → ℕ → Section → Reason → Number → List ℕ
number_units ss i s why x = sign_units (number_sign ss i s why x) ++ section_text s x

-- ---- exact or not
-- "whether the rounded number equals the exact one", "literal sections are exact; a fraction is exact when it and the integer part shown make up the
-- number, sign aside" (R137)
unfoldable pub number_exactly : Section → Number → Bool
number_exactly s x =
    cond (shows_general (kind_of s)) (general_exactly (number_exact x).size)
    (cond (same_kind (kind_of s) scientific_kind)
    (mantissa_exactly (number_exact x).size (integer_places s.items) (decimal_places s.items))
    (cond (same_kind (kind_of s) fraction_kind) (mixed_exactly (number_exact x).size (section_fraction s x))
    (cond (same_kind (kind_of s) number_kind)
    (rounds_exactly (scaled (nat_abs x.coefficient) x.scale (count is_percent s.items) s.thousands) (decimal_places s.items))
    true)))

-- the milliseconds of a day
abbrev pub day_span : ℕ
day_span = 86400000

-- the milliseconds of the unit that an item shows: "hour, minute, second (elapsed or not) and its part"; of any other item those of the day (R138)
unfoldable pub item_span : Item → ℕ
item_span i =
    cond (is_hour i || is_elapsed_of hours i) 3600000
    (cond (is_minute i || is_elapsed_of minutes i) 60000
    (cond (is_second i || is_elapsed_of seconds i) 1000 (cond (is_part i) (10 ^ (3 - (item_row i).argument)) day_span)))

-- "the finest of [these] shown, or [..] the day where none is shown" (R138)
unfoldable pub finest_span : List Item → ℕ
finest_span [] = day_span
finest_span (i ∷ is) = min (item_span i) (finest_span is)

-- "an instant is exact when no nonzero part finer than the finest [..] was cut" (R138); a literal section is exact
unfoldable pub instant_exactly : Section → Millisecond → Bool
instant_exactly s m = cond (same_kind (kind_of s) date_kind) (eqb (m.0 % finest_span s.items) 0) true

-- 10, 11, 12, 13 of a number (R62, R79)
unfoldable pub read_number : List Section → Number → ℕ → Choice → Reading
read_number ss x room nothing = refused answer.NoSection
read_number ss x room (chosen i s why) =
    cond (not (takes_number (kind_of s))) (refused answer.Sort)
    (cond (shows_general (kind_of s) && general_too_wide (number_exact x).size) (refused answer.General)
    (within room (look_of (number_units ss i s why x) s.colour i (number_exactly s x))))

-- 10, 11, 13 of an instant, which is never below 0 (R62, R66)
unfoldable pub read_instant : Day → Millisecond → ℕ → Choice → Reading
read_instant d m room nothing = refused answer.NoSection
read_instant d m room (chosen i s why) =
    cond (not (takes_instant (kind_of s))) (refused answer.Sort)
    (within room (look_of (section_units (instant_context s d m) s.items) s.colour i (instant_exactly s m)))

-- 13 of a text: "with no such section the text itself is shown, section 4, colour 0"; "Text values [..] are exact" (R137)
unfoldable pub read_text : List ℕ → ℕ → TextChoice → Reading
read_text text room itself = within room (look_of text 0 4 true)
read_text text room (text_in i s) = within room (look_of (section_units (text_context text) s.items) s.colour i true)

unfoldable pub read_value : List Section → Value → List ℕ → ℕ → Reading
read_value ss (value.Number x) text room = read_number ss x room (choose ss (number_exact x))
read_value ss (value.Instant d m) text room = read_instant d m room (choose ss (instant_exact d m))
read_value ss value.Text text room = read_text text room (choose_text ss)

-- the reading of sections; 9: "the value is out of range" (R108)
unfoldable pub reading : List Section → Ask → List ℕ → ℕ → Reading
reading ss ask text room = cond (in_range ask text) (read_value ss ask.value text room) (refused answer.Range)

-- the reading of a code: a refused code gives its refusal
unfoldable pub read_accepted : Accepted → Ask → List ℕ → ℕ → Reading
read_accepted (refusal a k) ask text room = refused a
read_accepted (sections ss) ask text room = reading ss ask text room

unfoldable pub code_reading : List ℕ → Ask → List ℕ → ℕ → Reading
code_reading code ask text room = read_accepted (accept code) ask text room
