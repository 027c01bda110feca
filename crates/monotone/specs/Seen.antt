-- "the figure read off" a text, "commas and spaces set aside and a leading minus counted" (R146); what is promised of the figures of two numbers, and
-- of two numbers with the same text (R147).
-- Assumes nothing.
use Rattle.std.specs.Prelude.{◌≡◌, ℕ, ◌+◌, ◌-◌, ◌*◌, Bool, true, false, cond, not, ◌&&◌, ◌||◌, List, [], ◌∷◌, T, leb, ltb, eqb}
use Rattle.std.proofs.Math.Option.{Option, none, some}
use Rattle.values.specs.declared.Number.{Number}
use Rattle.values.specs.declared.Value.TheVariants as value
use Rattle.values.specs.declared.Ask.{Ask}
use Rattle.values.specs.Ranges.{asked}
use Rattle.lists.specs.Lists.{every, any, count}
use Rattle.figures.specs.Rounding.{Magnitude}
use Rattle.formats.specs.Tokens.{is_digit, at_most}
use Rattle.formats.specs.Choice.{Exact, smaller, compared}
use Rattle.formats.specs.Reading.{Look, shown, within, code_reading}
use Rattle.formats.specs.Figures.{is_blank, units_read}

-- "commas and spaces set aside", wherever they stand
unfoldable pub is_aside : ℕ → Bool
is_aside u = eqb u 44 || is_blank u

unfoldable pub kept_of : List ℕ → List ℕ
kept_of [] = []
kept_of (u ∷ us) = let r = kept_of us in cond (is_aside u) r (u ∷ r)

abbrev pub is_point : ℕ → Bool
is_point u = eqb u 46

-- digits, at least one, and at most one point
unfoldable pub is_decimal : List ℕ → Bool
is_decimal us = every (λ (u : ℕ). is_digit u || is_point u) us && any is_digit us && leb (count is_point us) 1

-- a number with its sign, which is false at zero
unfoldable pub signed : Bool → Magnitude → Exact
signed minus m = record { negative = minus && ltb 0 m.above; size = m }

-- what digits and a point are read as, behind a minus or none; other units have no figure
unfoldable pub decimal_of : Bool → List ℕ → Option Exact
decimal_of minus us = cond (is_decimal us) (some (signed minus (units_read us))) none

-- "a leading minus counted"
unfoldable pub minus_counted : List ℕ → Option Exact
minus_counted [] = none
minus_counted (u ∷ us) = cond (eqb u 45) (decimal_of true us) (decimal_of false (u ∷ us))

-- the figure read off a text's units alone
unfoldable pub figure_of : List ℕ → Option Exact
figure_of text = minus_counted (kept_of text)

-- The code shows the number x as this text, whatever else is asked for: "Both hold where the room takes the texts", so in a room of any length.
pub record Shows (code : List ℕ) (x : Number) (text : List ℕ) : Type 0 where
  pub ask : Ask
  pub lent : List ℕ
  pub room : ℕ
  pub look : Look
  pub asks_for : ask.value ≡ value.Number x
  pub gives : code_reading code ask lent room ≡ shown look
  pub seen : look.text ≡ text

-- "the figure read off the first text is at most that read off the second": both have one, and they are in that order
pub record NeverFewer (first second : List ℕ) : Type 0 where
  pub low : Exact
  pub high : Exact
  pub of_first : figure_of first ≡ some low
  pub of_second : figure_of second ≡ some high
  pub order : T (compared at_most low high)

-- how far apart two numbers are, whichever is the greater; sizes of unlike signs are added
unfoldable pub difference : Exact → Exact → Magnitude
difference x y =
    let a = x.size.above * y.size.below in
    let b = y.size.above * x.size.below in
    let alike = cond x.negative y.negative (not y.negative) in
    record { above = cond alike (a - b + (b - a)) (a + b); below = x.size.below * y.size.below }

-- "differ by at most one unit"
unfoldable pub differ_within : Magnitude → Exact → Exact → Bool
differ_within unit x y = not (smaller unit (difference x y))

-- A code shows this number for every room: it is seen so where the room takes the text, and 13 is given where it does not.
pub record AlwaysShown (code : List ℕ) (x : Number) (lent : List ℕ) : Type 0 where
  pub look : Look
  pub gives : (room : ℕ) → code_reading code (asked (value.Number x)) lent room ≡ within room look
