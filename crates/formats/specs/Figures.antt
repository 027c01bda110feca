-- "A number's decimal figures" (R75, R126, R128, R133, R135, R137): how units of a text are read back as a number, and what is promised of the units that a
-- number is shown as; and when what is shown of an instant is exact (R138).
-- Assumes nothing.
use Rattle.std.specs.Prelude.{◌≡◌, ℕ, ◌+◌, ◌-◌, ◌*◌, ◌/◌, ◌^◌, ◌≤◌, ◌<◌, Bool, true, false, cond, ◌&&◌, ◌||◌, T, eqb, length, drop, replicate, nat_abs}
use mathlib.Core.List.{List, [], ◌∷◌, ◌++◌, flatten}
use Rattle.values.specs.declared.Number.{Number}
use Rattle.values.specs.declared.Day.{Day}
use Rattle.values.specs.declared.Millisecond.{Millisecond}
use Rattle.lists.specs.Lists.{every, any, count, All}
use Rattle.figures.specs.Digits.{width, numeral}
use Rattle.figures.specs.Rounding.{Magnitude, scaled, rounded}
use Rattle.figures.specs.General.{general_decimals, general_units}
use Rattle.figures.specs.Bounds.{Near}
use Rattle.exponents.specs.Exponent.{Exponent, divided_by}
use Rattle.exponents.specs.Least.{LeastExponent}
use Rattle.fractions.specs.declared.Fraction.{Fraction}
use Rattle.fractions.specs.declared.Mixed.{Mixed}
use Rattle.fractions.specs.Fractions.{behind_point, unparted}
use Rattle.fractions.specs.Nearest.{NearestFraction, Carried}
use Rattle.formats.specs.Tokens.{Place, ExponentMark, is_digit, digit_of}
use Rattle.formats.specs.Items.{Item, literal, blank, fill, place, point, percent, general, at, exponent, solidus, fixed, Section, date_kind, number_kind, scientific_kind, fraction_kind, literal_kind, kind_of, is_place, is_point, is_percent, is_solidus, is_fixed, before_cut, from_cut, integer_places, decimal_places, places_behind, numerator_items, whole_items, main_items}
use Rattle.formats.specs.Choice.{Reason, number_exact, instant_exact, chosen, choose}
use Rattle.formats.specs.Text.{exponent_units}
use Rattle.formats.specs.Reading.{Look, fixed_in, is_parted, standing_rounded, day_span, item_span}

-- Units read as a decimal number, the fraction v / w. A digit goes in behind those of v, and behind the point it makes the fraction ten
-- times finer. Any other unit, as a comma or a space, is set aside.
unfoldable pub read_from : Bool → ℕ → ℕ → List ℕ → Magnitude
read_from behind v w [] = record { above = v; below = w }
read_from behind v w (u ∷ us) =
    read_from (behind || eqb u 46) (cond (is_digit u) (v * 10 + digit_of u) v) (cond (is_digit u && behind) (w * 10) w) us

-- units from their start
unfoldable pub units_read : List ℕ → Magnitude
units_read us = read_from false 0 1 us

-- the fraction m is n / 10^15
abbrev pub Counts : Magnitude → ℕ → Type 0
Counts m n = m.above * 10 ^ 15 ≡ n * m.below

-- two fractions are one number
abbrev pub same_number : Magnitude → Magnitude → Bool
same_number m n = eqb (m.above * n.below) (n.above * m.below)

-- The units us are figures of the exact number m to d decimals: they are read as m rounded to d decimals, a count of 10^-15, which is
-- within half a unit of the last decimal place of m, halves away from zero. Figures that are nought have no added minus. They are exact when
-- the number that they are read as is m (R137).
pub record FiguresOf (m : Magnitude) (d : ℕ) (minus exact : Bool) (us : List ℕ) : Type 0 where
  pub number : ℕ
  pub read : Counts (units_read us) number
  pub rounds : number ≡ rounded m d
  pub near : Near m d number
  pub no_minus_at_nought : number ≡ 0 → minus ≡ false
  pub exactly : exact ≡ same_number (units_read us) m

-- General's figures of a number
pub record GeneralFigures (x : Number) (minus exact : Bool) (us : List ℕ) : Type 0 where
  pub units : us ≡ general_units (standing_rounded x)
  pub figures : FiguresOf (number_exact x).size (general_decimals (number_exact x).size) minus exact us

-- a space
abbrev pub is_blank : ℕ → Bool
is_blank u = eqb u 32

-- a unit of a place: a digit, a comma or a space
abbrev pub is_figure : ℕ → Bool
is_figure u = is_digit u || eqb u 44 || is_blank u

-- What an item shows of the number x. A place's piece is digits, commas and spaces; the point's is such units, or none, and then a
-- point. An E's piece is a capital E and its sign: a minus where the exponent is below 0, else a plus for `E+` and nothing for `E-`. The solidus
-- and a fixed number show themselves, or are blank: a space, and a space for each digit. No other item stands in a section that takes a number.
pub data PieceOf (x : Number) (minus below exact : Bool) : Item → List ℕ → Type 0 where
  of_literal : (u : ℕ) → PieceOf x minus below exact (literal u) (u ∷ [])
  of_blank : (u : ℕ) → PieceOf x minus below exact (blank u) (32 ∷ [])
  of_fill : (u : ℕ) → PieceOf x minus below exact (fill u) []
  of_percent : PieceOf x minus below exact percent (37 ∷ [])
  of_place : (p : Place) (us : List ℕ) → T (every is_figure us) → PieceOf x minus below exact (place p) us
  of_point : (us : List ℕ) → T (every is_figure us) → PieceOf x minus below exact point (us ++ (46 ∷ []))
  of_general : (us : List ℕ) → GeneralFigures x minus exact us → PieceOf x minus below exact general us
  of_at : (us : List ℕ) → GeneralFigures x minus exact us → PieceOf x minus below exact at us
  of_exponent : (m : ExponentMark) → PieceOf x minus below exact (exponent m) (exponent_units m below)
  of_solidus : (blanked : Bool) → PieceOf x minus below exact solidus (cond blanked 32 47 ∷ [])
  of_fixed : (blanked : Bool) (n : ℕ) → PieceOf x minus below exact (fixed n) (cond blanked (replicate (width n) 32) (numeral 1 n))

-- one piece an item, in order
pub data PiecesOf (x : Number) (minus below exact : Bool) : List Item → List (List ℕ) → Type 0 where
  empty : PiecesOf x minus below exact [] []
  more : (i : Item) (us : List ℕ) (is : List Item) (pieces : List (List ℕ))
      → PieceOf x minus below exact i us → PiecesOf x minus below exact is pieces → PiecesOf x minus below exact (i ∷ is) (us ∷ pieces)

-- the units of the pieces of those items that pass, in order
unfoldable pub units_of : (Item → Bool) → List Item → List (List ℕ) → List ℕ
units_of f [] pieces = []
units_of f (i ∷ is) [] = []
units_of f (i ∷ is) (us ∷ pieces) = cond (f i) us [] ++ units_of f is pieces

-- the units of the figure pieces, that is of places and of the point
abbrev pub figure_pieces : List Item → List (List ℕ) → List ℕ
figure_pieces is pieces = units_of (λ (i : Item). is_place i || is_point i) is pieces

-- What the pieces of a scientific section's items `is` show of the exact number m, which has no sign (R126, R128); `below` says whether the E's
-- piece has the sign of an exponent below 0.
-- The exponent is the least multiple of n, the count of the integer places, that leaves 1 to n integer digits after rounding; of zero it is 0.
-- The figure pieces before the E are figures of m / 10^exponent to the section's decimals, with 1 to n integer digits unless m is zero.
-- The E's piece has the exponent's sign. The figure pieces behind it are digits alone, read as the exponent without its sign.
-- It is exact when the number that the figure pieces before the E are read as is m / 10^exponent (R137).
pub record ScientificOf (m : Magnitude) (is : List Item) (minus below exact : Bool) (pieces : List (List ℕ)) : Type 0 where
  pub exponent : Exponent
  pub least : 0 < m.above → LeastExponent m (integer_places is) (decimal_places is) exponent
  pub nought : m.above ≡ 0 → exponent ≡ record { size = 0; below = false }
  pub mantissa : FiguresOf (divided_by m exponent) (decimal_places is) minus exact (figure_pieces (before_cut is) pieces)
  pub digits : 0 < m.above → (10 ^ 15 ≤ mantissa.number) × (mantissa.number < 10 ^ (15 + integer_places is))
  pub sign : below ≡ exponent.below
  pub shown : Counts (units_read (figure_pieces (from_cut is) (drop (length (before_cut is)) pieces))) (exponent.size * 10 ^ 15)
  pub plain : T (every is_digit (figure_pieces (from_cut is) (drop (length (before_cut is)) pieces)))

-- f is the fraction nearest to y over the number d: it is above y by half of 1 / d at most, and y is above it by less than half of that, so that a
-- half goes up, away from zero. The bounds are times 2 * below * d, so that they are said of naturals.
pub record NearestOver (y : Magnitude) (d : ℕ) (f : Fraction) : Type 0 where
  pub over : f.below ≡ d
  pub not_above : 2 * (f.above * y.below) ≤ 2 * (y.above * d) + y.below
  pub not_below : 2 * (y.above * d) < 2 * (f.above * y.below) + y.below

-- what shows a denominator: a place or a fixed number
abbrev pub is_below : Item → Bool
is_below i = is_place i || is_fixed i

-- What the pieces of a fraction section's items show from the numerator on (R135), where the fraction is not blank: the numerator's places are read as
-- `above`, the solidus is a `/`, and the places behind it, or the fixed number, are digits and spaces, read as `below`.
pub record FractionWritten (above below : ℕ) (is : List Item) (pieces : List (List ℕ)) : Type 0 where
  pub numerator : Counts (units_read (figure_pieces (numerator_items is) pieces)) (above * 10 ^ 15)
  pub solidus : units_of is_solidus (main_items is) pieces ≡ 47 ∷ []
  pub denominator : Counts (units_read (units_of is_below (from_cut is) (drop (length (numerator_items is)) pieces))) (below * 10 ^ 15)
  pub plain : T (every (λ (u : ℕ). is_digit u || is_blank u) (units_of is_below (from_cut is) (drop (length (numerator_items is)) pieces)))

-- What the pieces of a fraction section's items `is` show of the exact number m, which has no sign (R133, R135).
-- The fraction is one for the part of m behind the point where there are integer places, else for m. Without a fixed number no denominator from 1 to
-- 10^q - 1, of q places, comes closer and, if equally near, none is smaller; with one it is the nearest over that number.
-- With integer places a whole number and a fraction below 1 are shown that make up the whole number of m and the fraction: a fraction of 1 is
-- carried. Without them the fraction is shown alone.
-- The figure pieces of the integer part are read as the whole number. Beside integer places a fraction of nought is blank: each unit of its places,
-- solidus and fixed number is a space. Any other is written.
-- A whole number and a numerator that are both nought have no added minus.
-- It is exact when whole number, numerator and denominator, blank or not, make up m (R137).
pub record FractionOf (m : Magnitude) (is : List Item) (minus exact : Bool) (pieces : List (List ℕ)) : Type 0 where
  pub fraction : Fraction
  pub nearest : any is_fixed is ≡ false → NearestFraction (cond (is_parted is) (behind_point m) m) (10 ^ places_behind is - 1) fraction
  pub nearest_over : any is_fixed is ≡ true → NearestOver (cond (is_parted is) (behind_point m) m) (fixed_in is) fraction
  pub shown : Mixed
  pub parted : is_parted is ≡ true → Carried (m.above / m.below) fraction shown
  pub alone : is_parted is ≡ false → shown ≡ unparted fraction
  pub integer : is_parted is ≡ true → Counts (units_read (figure_pieces (whole_items is) pieces)) (shown.whole * 10 ^ 15)
  pub blank : is_parted is ≡ true → shown.above ≡ 0
      → T (every is_blank (units_of (λ (i : Item). is_solidus i || is_below i) (main_items is) (drop (length (whole_items is)) pieces)))
  pub written : (is_parted is ≡ true → 0 < shown.above) → FractionWritten shown.above shown.below is (drop (length (whole_items is)) pieces)
  pub no_minus_at_nought : shown.whole ≡ 0 → shown.above ≡ 0 → minus ≡ false
  pub exactly : exact ≡ same_number (record { above = shown.whole * shown.below + shown.above; below = shown.below }) m

-- What is seen where the number x is shown by the sections ss:
-- a minus in front or none, and then a piece for each item of the section that x goes to; an E's piece is that of an exponent below 0 or not.
-- Of a number section the figure pieces together are figures of the exact scaled number to the section's decimals.
-- Of a scientific section those before the E are figures of the mantissa, and those behind it are the exponent.
-- Of a fraction section they are the whole number, the numerator and the denominator.
-- Of a section that shows General each piece of General or `@` is General's figures; a literal section has no figures, and is exact.
pub record NumberShown (ss : List Section) (x : Number) (look : Look) : Type 0 where
  pub taker : Section
  pub why : Reason
  pub minus : Bool
  pub below : Bool
  pub pieces : List (List ℕ)
  pub goes : choose ss (number_exact x) ≡ chosen look.section taker why
  pub coloured : look.colour ≡ taker.colour
  pub text : look.text ≡ cond minus (45 ∷ []) [] ++ flatten pieces
  pub each : PiecesOf x minus below look.exact taker.items pieces
  pub figures : kind_of taker ≡ number_kind
      → FiguresOf (scaled (nat_abs x.coefficient) x.scale (count is_percent taker.items) taker.thousands)
      (decimal_places taker.items) minus look.exact (figure_pieces taker.items pieces)
  pub scientific : kind_of taker ≡ scientific_kind → ScientificOf (number_exact x).size taker.items minus below look.exact pieces
  pub fraction : kind_of taker ≡ fraction_kind → FractionOf (number_exact x).size taker.items minus look.exact pieces
  pub literal : kind_of taker ≡ literal_kind → look.exact ≡ true

-- f is the finest of the spans of the units that the items show, and of the day's: none of them is below it, and it is one of them.
pub record FinestOf (is : List Item) (f : ℕ) : Type 0 where
  pub least : All (λ (i : Item). f ≤ item_span i) is
  pub up_to_day : f ≤ day_span
  pub one : any (λ (i : Item). eqb f (item_span i)) is || eqb f day_span ≡ true

-- When what is seen of the instant d, m, shown by the sections ss, is exact (R138): in a date-time section when the millisecond cut to whole units of
-- the finest span is the millisecond itself; always in a literal section.
pub record InstantShown (ss : List Section) (d : Day) (m : Millisecond) (look : Look) : Type 0 where
  pub taker : Section
  pub why : Reason
  pub goes : choose ss (instant_exact d m) ≡ chosen look.section taker why
  pub span : ℕ
  pub finest : FinestOf taker.items span
  pub dated : kind_of taker ≡ date_kind → look.exact ≡ eqb (m.0 / span * span) m.0
  pub literal : kind_of taker ≡ literal_kind → look.exact ≡ true
