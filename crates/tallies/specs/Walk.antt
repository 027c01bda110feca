-- The pass over the entries that preparing counts by: what is kept from one to the next, and how it ends.
-- Assumes nothing.
use Rattle.std.specs.Prelude.{ℕ, ◌+◌, ◌*◌, ◌/◌, ◌%◌, ◌≤◌, Bool, cond, not, ◌&&◌, ◌||◌, List, [], ◌∷◌, ltb, eqb}
use Rattle.values.specs.Ranges.{between}
use Rattle.lists.specs.Lists.{count}
use Rattle.formats.specs.Tokens.{hours, minutes, seconds}
use Rattle.formats.specs.Items.{Item, item_number, is_place, is_point, is_percent, is_general, is_hour, is_minute, is_second, is_part, is_elapsed, is_elapsed_of, is_half, is_exponent, is_cut, is_space}
use Rattle.formats.specs.Limits.{elapsed_short, fixed_small}
use Rattle.tables.specs.Words.{Entry}
use Rattle.tables.specs.Encode.{bit}
use Rattle.tables.specs.Decode.{item_at}
use Rattle.tallies.specs.declared.Tally.{Tally}
use Rattle.tallies.specs.declared.Walk.{Walk}
use Rattle.tallies.specs.Tally.{makes_text, makes_fraction}

-- ---- counts as the digits of a number by base 256, lowest first
unfoldable pub packed : List ℕ → ℕ
packed [] = 0
packed (c ∷ cs) = c + 256 * packed cs

-- how many items pass each test
unfoldable pub tallies : List (Item → Bool) → List Item → List ℕ
tallies [] is = []
tallies (p ∷ ps) is = count p is ∷ tallies ps is

-- what one item adds to them
unfoldable pub weight : List (Item → Bool) → Item → ℕ
weight [] i = 0
weight (p ∷ ps) i = bit (p i) + 256 * weight ps i

-- an elapsed run that is too long, or such a fixed number
abbrev pub is_long : Item → Bool
is_long i = not (elapsed_short i && fixed_small i)

abbrev pub other_tests : List (Item → Bool)
other_tests = is_general ∷ makes_text ∷ is_elapsed ∷ is_long ∷ makes_fraction ∷ is_half ∷ is_part ∷ []

-- a year, a month or a day
abbrev pub is_calendar : Item → Bool
is_calendar i = between 8 10 (item_number i)

abbrev pub date_tests : List (Item → Bool)
date_tests = is_calendar ∷ is_hour ∷ is_minute ∷ is_second ∷ is_elapsed_of hours ∷ is_elapsed_of minutes ∷ is_elapsed_of seconds ∷ []

-- ---- integer and decimal places, points, percents, E, exponent places, and what is misplaced behind an E or solidus
abbrev pub figure_tests : List (Item → Bool)
figure_tests = is_point ∷ is_percent ∷ is_exponent ∷ []

-- what a place adds from the first E or solidus on
abbrev pub behind_unit : ℕ
behind_unit = 1099511627776

-- a point or `?`
abbrev pub is_misplaced : Item → Bool
is_misplaced i = is_point i || is_space i

-- a place adds the unit, which is 1 up to the first point and 256 from there
unfoldable pub number_weight : ℕ → Item → ℕ
number_weight unit i =
    let plain = cond (is_place i) unit (65536 * weight figure_tests i) in
    cond (is_misplaced i && eqb unit behind_unit) (plain + 281474976710656) plain

unfoldable pub unit_after : ℕ → Item → ℕ
unit_after unit i = cond (is_cut i) behind_unit (cond (is_point i && eqb unit 1) 256 unit)

-- ---- the pass
unfoldable pub step_of : Walk → Entry → Walk
step_of w e =
    let i = item_at e in
    record {
      numbers = w.numbers + number_weight w.unit i;
      others = w.others + weight other_tests i;
      dates = w.dates + weight date_tests i;
      unit = unit_after w.unit i;
    }

unfoldable pub walk_from : Walk → List Entry → Walk
walk_from w [] = w
walk_from w (e ∷ es) = walk_from (step_of w e) es

abbrev pub start_of : Walk
start_of = record { numbers = 0; others = 0; dates = 0; unit = 1 }

-- the digits of the numbers
abbrev pub finished_of : Walk → Tally
finished_of w =
    record {
      integers = w.numbers % 256;
      decimals = w.numbers / 256 % 256;
      points = w.numbers / 65536 % 256;
      percents = w.numbers / 16777216 % 256;
      exponents = w.numbers / 4294967296 % 256;
      places_behind = w.numbers / 1099511627776 % 256;
      misplaced = ltb 0 (w.numbers / 281474976710656 % 256);
      generals = w.others % 256;
      texts = ltb 0 (w.others / 256 % 256);
      elapsed = w.others / 65536 % 256;
      short = eqb (w.others / 16777216 % 256) 0;
      solidi = w.others / 4294967296 % 256;
      halves = ltb 0 (w.others / 1099511627776 % 256);
      dating = ltb 0 w.dates;
      dates = ltb 0 w.dates || ltb 0 (w.others / 1099511627776);
      hours = ltb 0 (w.dates / 256 % 256);
      minutes = ltb 0 (w.dates / 65536 % 256);
      seconds = ltb 0 (w.dates / 16777216 % 256);
      elapsed_hours = ltb 0 (w.dates / 4294967296 % 256);
      elapsed_minutes = ltb 0 (w.dates / 1099511627776 % 256);
      elapsed_seconds = ltb 0 (w.dates / 281474976710656 % 256);
    }

-- ---- one step by its weights
abbrev pub counted_of : Walk → ℕ → ℕ → ℕ → Walk
counted_of w number other date =
    record { numbers = w.numbers + number; others = w.others + other; dates = w.dates + date; unit = w.unit }

-- an E or a solidus
abbrev pub cut_of : Walk → ℕ → ℕ → Walk
cut_of w number other = record (counted_of w number other 0) { unit = behind_unit }

-- a place with this tag
abbrev pub placed_of : Walk → ℕ → Walk
placed_of w tag = counted_of w (cond (eqb tag 6 && eqb w.unit behind_unit) 282574488338432 w.unit) 0 0

-- an elapsed run of this length
abbrev pub elapsed_of : Walk → ℕ → ℕ → Walk
elapsed_of w date a = counted_of w 0 (cond (ltb 9 a) 16842752 65536) date

-- a fixed number
abbrev pub fixed_of : Walk → ℕ → Walk
fixed_of w a = counted_of w 0 (cond (ltb 999 a) 4311744512 4294967296) 0

-- ---- no number is too large for its field
-- the numbers after n items or fewer; a weight is below 2^49
pub record Few (n : ℕ) (w : Walk) : Type 0 where
  pub numbers : w.numbers ≤ n * 562949953421312
  pub others : w.others ≤ n * 562949953421312
  pub dates : w.dates ≤ n * 562949953421312
  pub unit : w.unit ≤ 1099511627776

pub record Weights (n o d : ℕ) : Type 0 where
  pub number : n ≤ 562949953421312
  pub other : o ≤ 562949953421312
  pub date : d ≤ 562949953421312
