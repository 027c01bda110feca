-- "Table rules" (R95 to R104, R113, R131, R136): a test for each clause of their sentence.
-- Assumes nothing.
use Rattle.std.specs.Prelude.{ℕ, suc, ◌+◌, ◌*◌, Bool, true, cond, ◌&&◌, List, [], ◌∷◌, length, take, drop, leb, eqb}
use Rattle.values.specs.Ranges.{between}
use Rattle.lists.specs.Lists.{every, count}
use Rattle.formats.specs.Items.{item_row, is_unit, number_kind, same_kind, kind_of, is_percent, is_place, is_half, integer_places, places_behind, whole_items}
use Rattle.formats.specs.Where.{implies}
use Rattle.formats.specs.WellFormed.{section_fits, sections_stand}
use Rattle.formats.specs.Choice.{counted}
use Rattle.formats.specs.Minus.{first_has_condition}
use Rattle.formats.specs.Text.{along, first_of}
use Rattle.tables.specs.Words.{Head, Entry, Row, rows_in, exact_words}
use Rattle.tables.specs.Encode.{kind_word, flags_word, no_minus, has_half, decimals_word, tag_of}
use Rattle.tables.specs.Decode.{whole_at, millionths_at, item_at, items_at, thousands_at, section_at, decode}

-- "every word in its range" (R97)
unfoldable pub head_in_range : Head → Bool
head_in_range h =
    leb h.kind 6
    && leb h.colour 56
    && leb h.operator 6
    && leb h.negative 1
    && is_unit h.whole_low && is_unit h.whole_high && leb (whole_at h) 999999999
    && is_unit h.millionths_low && is_unit h.millionths_high && leb (millionths_at h) 999999
    && leb h.shift 25
    && leb h.flags 7
    && leb h.decimals 15
    && leb h.items 254

-- an item's two words: powers are -15 to 19, a half-day mark is 1 or 2, and any other has the argument that it may have (R97)
unfoldable pub entry_in_range : Entry → Bool
entry_in_range e =
    let i = item_at e in
    let a = e.argument in
    eqb (tag_of i) e.tag && cond (is_place i) (between 1 35 a) (cond (is_half i) (between 1 2 a) ((item_row i).takes a))

unfoldable pub row_in_range : Row → Bool
row_in_range r = head_in_range r.head && every entry_in_range r.entries

-- "(0 none, condition words 0 [..]), negative 0/1 (0 at zero)" (R98)
unfoldable pub condition_fits : Head → Bool
condition_fits h =
    implies (eqb h.operator 0) (eqb h.negative 0 && eqb (whole_at h) 0 && eqb (millionths_at h) 0)
    && implies (eqb (whole_at h) 0 && eqb (millionths_at h) 0) (eqb h.negative 0)

-- "powers run down by one" (R101): q is the power and 15 that a place must have
abbrev pub power_fits : ℕ → Entry → Bool
power_fits q e = implies (is_place (item_at e)) (eqb e.argument (suc q))

unfoldable pub all_of : List Bool → Bool
all_of [] = true
all_of (b ∷ bs) = let r = all_of bs in b && r

unfoldable pub powers_from : ℕ → ℕ → List Entry → Bool
powers_from anew q es = all_of (along item_at power_fits anew q es)

-- "the last integer place having 0 and the first decimal place -1", "exponent places down to power 0" (R131)
unfoldable pub run_powers : List Entry → Bool
run_powers es = powers_from (first_of (places_behind (items_at es))) (first_of (integer_places (items_at es))) es

-- "numerator and denominator places each run down to power 0" (R136): the integer places of a fraction stand apart from these
unfoldable pub powers_run_down : List Entry → Bool
powers_run_down es =
    let n = length (whole_items (items_at es)) in
    run_powers (take n es) && run_powers (drop n es)

-- "the shift, beside the percents, must tell 0 to 5 dividing commas" (R104)
unfoldable pub shift_tells : ℕ → ℕ → Bool
shift_tells shift percents =
    let t = thousands_at shift percents in
    leb t 5 && eqb (shift + 3 * t) (15 + 2 * percents)

unfoldable pub shift_fits : Row → Bool
shift_fits r =
    let s = section_at r in
    cond (same_kind (kind_of s) number_kind) (shift_tells r.head.shift (count is_percent s.items)) (eqb r.head.shift 0)

-- the other derived words of section i of N (R104)
unfoldable pub kind_fits : Row → Bool
kind_fits r = eqb r.head.kind (kind_word (kind_of (section_at r)))

unfoldable pub decimals_fit : Row → Bool
decimals_fit r = eqb r.head.decimals (decimals_word (section_at r))

unfoldable pub flags_fit : ℕ → ℕ → Bool → Row → Bool
flags_fit n i first_has r =
    let s = section_at r in
    eqb r.head.flags (flags_word s.grouped (no_minus n i first_has s) (has_half s.items))

unfoldable pub flags_from : ℕ → ℕ → Bool → List Row → Bool
flags_from n i first_has [] = true
flags_from n i first_has (r ∷ rs) = let b = flags_from n (suc i) first_has rs in flags_fit n i first_has r && b

-- the rules for one row that do not speak of where it stands: those for its section, and those for its words
unfoldable pub row_fits : Row → Bool
row_fits r =
    section_fits (section_at r)
    && row_in_range r
    && condition_fits r.head
    && powers_run_down r.entries
    && kind_fits r
    && shift_fits r
    && decimals_fit r

-- "Table rules: exactly those words and no more; at most 254 items in all; every word in its range; items, kinds, where
-- sections may stand, places and limits as above, [..]; every derived word is what its rule gives" (R95 to R104)
unfoldable pub passes : List ℕ → Bool
passes ws =
    let rs = rows_in ws in
    let ss = decode ws in
    exact_words ws
    && every row_fits rs
    && sections_stand ss
    && flags_from (counted ss) 0 (first_has_condition ss) rs
