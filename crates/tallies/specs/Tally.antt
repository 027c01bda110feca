-- What one pass over the item words of a section tells, and the rules for a section as tests on it.
-- Assumes nothing.
use Rattle.std.specs.Prelude.{ℕ, Bool, cond, not, ◌&&◌, ◌||◌, ◌≡◌, List, T, leb, ltb, eqb}
use Rattle.lists.specs.Lists.{every, any, count}
use Rattle.formats.specs.Tokens.{hours, minutes, seconds}
use Rattle.formats.specs.Items.{Item, date_kind, text_kind, item_makes, items_kind, items_fit, is_point, is_percent, is_general, is_hour, is_minute, is_second, is_part, is_elapsed, is_elapsed_of, is_half, is_exponent, is_solidus, is_fixed, is_space, from_cut, integer_places, decimal_places, places_behind}
use Rattle.formats.specs.Limits.{elapsed_short, fixed_small}
use Rattle.formats.specs.WellFormed.{one_fill, parts_follow, is_settled}
use Rattle.tables.specs.Words.{Entry}
unfoldable pub use Rattle.tables.specs.Words.{entries_in}
use Rattle.tables.specs.Encode.{kind_word}
use Rattle.tables.specs.Decode.{items_at}
use Rattle.tables.specs.Rules.{entry_in_range, powers_run_down}
use Rattle.tallies.specs.declared.Tally.{Tally}

abbrev pub makes_text : Item → Bool
makes_text i = item_makes text_kind i

abbrev pub makes_date : Item → Bool
makes_date i = item_makes date_kind i

-- an item that makes a fraction
abbrev pub makes_fraction : Item → Bool
makes_fraction i = is_solidus i || is_fixed i

-- an item that only a date-time section holds
abbrev pub belongs_date : Item → Bool
belongs_date i = makes_date i || (is_half i || is_part i)

unfoldable pub tally_of : List Entry → Tally
tally_of es =
    let is = items_at es in
    record {
      integers = integer_places is;
      decimals = decimal_places is;
      points = count is_point is;
      percents = count is_percent is;
      generals = count is_general is;
      elapsed = count is_elapsed is;
      exponents = count is_exponent is;
      solidi = count makes_fraction is;
      places_behind = places_behind is;
      misplaced = any is_point (from_cut is) || any is_space (from_cut is);
      texts = any makes_text is;
      dating = any makes_date is;
      dates = any belongs_date is;
      hours = any is_hour is;
      minutes = any is_minute is;
      seconds = any is_second is;
      elapsed_hours = any (is_elapsed_of hours) is;
      elapsed_minutes = any (is_elapsed_of minutes) is;
      elapsed_seconds = any (is_elapsed_of seconds) is;
      halves = any is_half is;
      short = every elapsed_short is && every fixed_small is;
    }

-- ---- the rules for the items of a section
-- those that look at their order, their arguments or their powers
unfoldable pub sound_entries : List Entry → Bool
sound_entries es =
    let is = items_at es in
    parts_follow is && (is_settled is && (powers_run_down es && every entry_in_range es))

-- all that speak of the items alone, where the section's kind word is this one
unfoldable pub items_of : ℕ → List Entry → Bool
items_of kind es =
    let is = items_at es in
    sound_entries es && (eqb kind (kind_word (items_kind is)) && (items_fit is && one_fill is))

-- ---- the tests on a tally
abbrev pub has_places : Tally → Bool
has_places t = ltb 0 t.integers || (ltb 0 t.decimals || ltb 0 t.places_behind)

abbrev pub has_exponent : Tally → Bool
has_exponent t = ltb 0 t.exponents

abbrev pub has_solidus : Tally → Bool
has_solidus t = ltb 0 t.solidi

-- most sections have no E and no solidus, and so no place behind one
pub record Uncut (t : Tally) : Type 0 where
  pub exponents : t.exponents ≡ 0
  pub solidi : t.solidi ≡ 0
  pub places : t.places_behind ≡ 0

-- some have one
abbrev pub Cut : Tally → Type 0
Cut t = T (has_exponent t || has_solidus t)

-- a place or point, percent, E or solidus, which only number and scientific sections and fractions hold
abbrev pub has_figures : Tally → Bool
has_figures t = has_places t || ltb 0 t.points

abbrev pub has_number_items : Tally → Bool
has_number_items t = has_figures t || (ltb 0 t.percents || (has_exponent t || has_solidus t))

-- an E makes a scientific section, a solidus without one a fraction, a place without either a number section
abbrev pub kind_told : Tally → ℕ
kind_told t =
    cond t.texts 3
    (cond (ltb 0 t.generals) 1
    (cond t.dating 4 (cond (has_exponent t) 5 (cond (has_solidus t) 6 (cond (has_places t) 2 0)))))

-- no item belongs to another kind; a scientific section holds no percent and no solidus, a fraction no percent and no point
abbrev pub allowed_told : Tally → Bool
allowed_told t =
    cond t.texts (not (ltb 0 t.generals) && (not t.dates && not (has_number_items t)))
    (cond (ltb 0 t.generals) (not t.dates && not (has_number_items t))
    (cond t.dating (not (has_number_items t))
    (cond (has_exponent t) (not t.dates && (not (ltb 0 t.percents) && not (has_solidus t)))
    (cond (has_solidus t) (not t.dates && (not (ltb 0 t.points) && not (ltb 0 t.percents)))
    (cond (has_places t) (not t.dates) (not t.dates && not (has_number_items t)))))))

-- no elapsed item beside its plain equivalent
abbrev pub no_plain_told : Tally → Bool
no_plain_told t =
    not (t.elapsed_hours && t.hours)
    && (not (t.elapsed_minutes && t.minutes) && not (t.elapsed_seconds && t.seconds))

-- one E, behind an integer place, with an exponent place and neither point nor `?` behind it
abbrev pub exponent_told : Tally → Bool
exponent_told t =
    not (has_exponent t)
    || (leb t.exponents 1 && leb 1 t.integers && leb 1 t.places_behind && not t.misplaced)

-- without the rules for a solidus that look at the order of the items
abbrev pub items_fit_told : Tally → Bool
items_fit_told t =
    allowed_told t
    && (leb t.generals 1 && (leb t.points 1 && (leb t.elapsed 1 && (no_plain_told t && exponent_told t))))

-- the limits but for that on integer places, and with it
abbrev pub rest_told : Tally → ℕ → Bool
rest_told t thousands = leb t.decimals 15 && (leb t.places_behind 3 && (leb t.percents 5 && (leb thousands 5 && t.short)))

abbrev pub within_told : Tally → ℕ → Bool
within_told t thousands = leb t.integers 20 && rest_told t thousands

-- those of a fraction, with so many integer places and so many of its numerator
abbrev pub fraction_told : Tally → ℕ → ℕ → ℕ → Bool
fraction_told t thousands wholes numerators = leb wholes 20 && (leb numerators 20 && rest_told t thousands)

abbrev pub decimals_told : Tally → ℕ
decimals_told t = cond (eqb (kind_told t) 2 || (eqb (kind_told t) 5 || eqb (kind_told t) 6)) t.decimals 0
