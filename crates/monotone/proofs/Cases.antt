-- Worked cases: two numbers under a code, what is seen of them, and what is read off that; and texts that have no figure.
-- Assumes nothing.
use Prim.Native.Nat.{ℕ}
use Prim.Native.String.{String}
use mathlib.Core.Bool.{Bool, false, not, ◌&&◌}
use mathlib.Core.List.{List, [], ◌∷◌}
use mathlib.Core.Option.{Option, none, some}
use lib.Dec.{T}
use lib.IntN.{ℤ, pos, negsuc}
use Rattle.values.specs.declared.Number.{Number}
use Rattle.values.specs.declared.Value.TheVariants as value
use Rattle.values.specs.Ranges.{asked}
use Rattle.lists.specs.Lists.{every, is_some}
use Rattle.calendar.specs.Names.{units}
use Rattle.figures.specs.Rounding.{Magnitude}
use Rattle.formats.specs.Tokens.{equal, at_most, same}
use Rattle.formats.specs.Where.{implies}
use Rattle.formats.specs.Choice.{Exact, number_exact, compared}
use Rattle.formats.specs.Reading.{Reading, refused, shown, code_reading}
use Rattle.formats.specs.Figures.{read_from, units_read, same_number}
use Rattle.formats.proofs.Evaluate.{evaluated}
use Rattle.monotone.specs.Codes.{is_plain, is_accepted, plain_code, section_unit, first_unit, last_unit}
use Rattle.monotone.specs.Seen.{is_aside, kept_of, is_decimal, signed, decimal_of, minus_counted, figure_of, difference, differ_within}

abbrev pub number : ℤ → ℕ → Number
number c scale = record { coefficient = c; scale = scale }

abbrev pub fraction : ℕ → ℕ → Magnitude
fraction a b = record { above = a; below = b }

-- what is read off the two texts, and the unit
pub record Told : Type 0 where
  pub low : Number
  pub high : Number
  pub unit : Magnitude

-- a code, two numbers, the first at most the second, their texts, and what is told where the code is plain
pub record Row : Type 0 where
  pub code : String
  pub first : Number
  pub second : Number
  pub first_text : String
  pub second_text : String
  pub told : Option Told

abbrev pub speaks : String → Number → Number → String → String → Number → Number → Magnitude → Row
speaks code x y s t low high unit =
    record { code = code; first = x; second = y; first_text = s; second_text = t; told = some (record { low = low; high = high; unit = unit }) }

abbrev pub passes : String → Number → Number → String → String → Row
passes code x y s t = record { code = code; first = x; second = y; first_text = s; second_text = t; told = none }

unfoldable pub text_is : List ℕ → Reading → Bool
text_is us (refused a) = false
text_is us (shown look) = same us look.text

unfoldable pub figure_is : Number → Option Exact → Bool
figure_is n none = false
figure_is n (some f) = compared equal (number_exact n) f

unfoldable pub told_right : Row → Option Told → Bool
told_right r none = not (plain_code (units r.code))
told_right r (some t) =
    plain_code (units r.code)
    && figure_is t.low (figure_of (units r.first_text))
    && figure_is t.high (figure_of (units r.second_text))
    && compared at_most (number_exact t.low) (number_exact t.high)
    && same_number t.unit (last_unit (units r.code))
    && implies (same (units r.first_text) (units r.second_text)) (differ_within t.unit (number_exact r.first) (number_exact r.second))

unfoldable pub row_right : Row → Bool
row_right r =
    compared at_most (number_exact r.first) (number_exact r.second)
    && text_is (units r.first_text) (code_reading (units r.code) (asked (value.Number r.first)) [] 4096)
    && text_is (units r.second_text) (code_reading (units r.code) (asked (value.Number r.second)) [] 4096)
    && told_right r r.told

unfoldable pub rows : List Row
rows =
    passes "#" (number (pos 0) 0) (number (pos 1) 0) "" "1"
    ∷ speaks "0" (number (negsuc 4) 1) (number (negsuc 3) 1) "-1" "0" (number (negsuc 0) 0) (number (pos 0) 0) (fraction 1 1)
    ∷ speaks "0" (number (negsuc 3) 1) (number (pos 4) 1) "0" "0" (number (pos 0) 0) (number (pos 0) 0) (fraction 1 1)
    ∷ speaks "0" (number (pos 5) 1) (number (pos 14) 1) "1" "1" (number (pos 1) 0) (number (pos 1) 0) (fraction 1 1)
    ∷ speaks "0" (number (negsuc 14) 1) (number (negsuc 148) 2) "-2" "-1" (number (negsuc 1) 0) (number (negsuc 0) 0) (fraction 1 1)
    ∷ speaks "#,##0" (number (pos 9994) 1) (number (pos 9995) 1) "999" "1,000" (number (pos 999) 0) (number (pos 1000) 0) (fraction 1 1)
    ∷ speaks "#,##0," (number (pos 500) 0) (number (pos 1499) 0) "1" "1" (number (pos 1) 0) (number (pos 1) 0) (fraction 1000 1)
    ∷ speaks "0,.0," (number (pos 1249999) 0) (number (pos 1250000) 0) "1.2" "1.3" (number (pos 12) 1) (number (pos 13) 1) (fraction 100000 1)
    ∷ speaks "#.0#" (number (negsuc 3) 3) (number (pos 4) 3) ".0" ".0" (number (pos 0) 0) (number (pos 0) 0) (fraction 1 100)
    ∷ speaks "0.?0" (number (pos 1) 0) (number (pos 101) 2) "1. 0" "1.01" (number (pos 1) 0) (number (pos 101) 2) (fraction 1 100)
    ∷ speaks "???0.0???" (number (negsuc 122) 1) (number (pos 123) 1) "-  12.3   " "  12.3   " (number (negsuc 122) 1) (number (pos 123) 1) (fraction 1 10000)
    ∷ speaks "0" (number (pos 10) 1) (number (pos 1) 0) "1" "1" (number (pos 1) 0) (number (pos 1) 0) (fraction 1 1)
    ∷ speaks "?0,00#,," (number (negsuc 1) 0) (number (pos 499998) 0) " 0,00" " 0,00" (number (pos 0) 0) (number (pos 0) 0) (fraction 1000000 1)
    ∷ passes "0%" (number (pos 5) 1) (number (pos 6) 1) "50%" "60%"
    ∷ passes "0;0" (number (negsuc 0) 0) (number (pos 1) 0) "1" "1"
    ∷ passes "[Red]0" (number (pos 1) 0) (number (pos 2) 0) "1" "2"
    ∷ passes "0 0" (number (pos 1) 0) (number (pos 2) 0) "0 1" "0 2"
    ∷ []

pub rows_right : T (every row_right rows)
unfolding rows row_right told_right figure_is text_is evaluated read_from units_read is_plain is_accepted plain_code section_unit first_unit last_unit is_aside kept_of is_decimal signed decimal_of minus_counted figure_of difference differ_within
rows_right = tt

-- no digit; a unit that is none of a figure's; a second point; a minus behind another, or behind a digit
pub unread : T (every (λ (text : String). not (is_some (figure_of (units text)))) ("" ∷ " " ∷ "." ∷ "-" ∷ "50%" ∷ "1E+0" ∷ "1.2.3" ∷ "--1" ∷ "1-" ∷ []))
unfolding evaluated read_from units_read is_aside kept_of is_decimal signed decimal_of minus_counted figure_of
unread = tt
