-- The table rules in the order in which they are tested: how many words there are; each section by its head and its items; where each section stands, by the heads alone.
-- Assumes nothing.
use Rattle.std.specs.Prelude.{ℕ, ◌+◌, ◌*◌, ◌/◌, ◌%◌, ◌≤◌, ◌≡◌, Bool, true, false, cond, not, ◌&&◌, ◌||◌, List, [], ◌∷◌, map, length, get_or, leb, ltb, eqb}
use Rattle.formats.specs.Items.{decimal_places}
use Rattle.formats.specs.Where.{implies}
use Rattle.formats.specs.Minus.{exception_a}
use Rattle.tables.specs.Words.{Head, Entry, Row, heads_in, items_said, exact_words}
use Rattle.tables.specs.Encode.{has_half}
use Rattle.tables.specs.Standing.{head_stands, counted_kinds}
use Rattle.tables.specs.Decode.{whole_at, millionths_at, items_at, grouped_at}
use Rattle.tables.specs.Rules.{shift_tells, row_fits}
use Rattle.tallies.specs.Tally.{items_of}
use Rattle.scientific_rows.specs.ScientificRows.{scientific_items}
use Rattle.fraction_rows.specs.FractionRows.{fraction_items}

-- both or neither
abbrev pub agree : Bool → Bool → Bool
agree a b = (a && b) || (not a && not b)

-- ---- how many words there are
unfoldable pub sized : List ℕ → Bool
sized ws = exact_words ws && leb (items_said (heads_in ws)) 254

-- a table of that size: 1 to 4 sections, exactly their words, at most 254 items
pub record Sized (ws : List ℕ) : Type 0 where
  pub least : 1 ≤ get_or ws 0 0
  pub most : get_or ws 0 0 ≤ 4
  pub words : length ws ≡ 1 + 12 * get_or ws 0 0 + 2 * items_said (heads_in ws)
  pub items : items_said (heads_in ws) ≤ 254

-- ---- one section, by its head and its items
-- a condition's words, whose numbers are read
abbrev pub compared_told : ℕ → ℕ → ℕ → ℕ → Bool
compared_told operator negative whole millionths =
    leb operator 6
    && leb negative 1
    && leb whole 999999999
    && leb millionths 999999
    && implies (eqb operator 0) (eqb negative 0 && eqb whole 0 && eqb millionths 0)
    && implies (eqb whole 0 && eqb millionths 0) (eqb negative 0)

unfoldable pub condition_told : Head → Bool
condition_told h = compared_told h.operator h.negative (whole_at h) (millionths_at h)

-- what a number section's head must say beside its places and percents
unfoldable pub number_told : Head → ℕ → ℕ → ℕ → Bool
number_told h integers places percents =
    shift_tells h.shift percents && (eqb h.decimals places && ltb h.flags 4 && (not (grouped_at h.flags) || leb 2 integers))

-- a scientific section's, which has no flag but that of exception (a)
unfoldable pub scientific_told : Head → ℕ → Bool
scientific_told h places = eqb h.shift 0 && eqb h.decimals places && (eqb h.flags 0 || eqb h.flags 2)

-- the items of a section that is neither a number section nor scientific, and a fraction's limits
unfoldable pub other_items : ℕ → List Entry → Bool
other_items kind es = cond (eqb kind 6) (fraction_items es) (items_of kind es)

-- another section's, which has a half-day mark or none
unfoldable pub other_told : Head → Bool → Bool
other_told h half =
    eqb h.shift 0 && eqb h.decimals 0 && leb h.flags 7 && not (grouped_at h.flags) && agree (leb 4 h.flags) half

-- what is left to test of a section that is scientific, a fraction or of no kind
unfoldable pub cut_told : Head → List Entry → Bool
cut_told h es =
    cond (eqb h.kind 5) (scientific_items es && scientific_told h (decimal_places (items_at es))) ((eqb h.kind 6 && fraction_items es) && other_told h false)

abbrev pub row_with : Head → List Entry → Row
row_with h es = record { head = h; entries = es }

-- a row with its twelve-hour flag, the only flag besides grouping that its items tell
unfoldable pub half_fits : Row → Bool
half_fits r = agree (leb 4 r.head.flags) (has_half (items_at r.entries))

unfoldable pub row_good : Row → Bool
row_good r = row_fits r && half_fits r

-- ---- where the sections stand, by their heads
abbrev pub has_in : Head → Bool
has_in h = not (eqb h.operator 0)

-- the flag of exception (a), of section i, where N sections count
abbrev pub minus_with : ℕ → ℕ → Bool → Bool → ℕ → Bool
minus_with counted i has first_has flags = agree (eqb (flags / 2 % 2) 1) (exception_a counted i has first_has)

-- where a section with a condition may stand, and one without, which has the flag of exception (a) or not
abbrev pub compared_stands : ℕ → ℕ → ℕ → Bool
compared_stands n i kind = not (eqb kind 3) && (implies (eqb n 1) (eqb kind 1) && ltb i 2)

unfoldable pub plain_fits : ℕ → ℕ → Bool → ℕ → ℕ → ℕ → Bool → Bool
plain_fits n counted first_has i kind colour flag =
    head_stands n i kind colour false && agree flag (exception_a counted i false first_has)

unfoldable pub place_fits : ℕ → ℕ → Bool → ℕ → Head → Bool
place_fits n counted first_has i h =
    head_stands n i h.kind h.colour (has_in h) && minus_with counted i (has_in h) first_has h.flags

unfoldable pub places_from : ℕ → ℕ → Bool → ℕ → List Head → Bool
places_from n counted first_has i [] = true
places_from n counted first_has i (h ∷ hs) =
    let r = places_from n counted first_has (i + 1) hs in cond (place_fits n counted first_has i h) r false

abbrev pub kinds_in : List Head → List ℕ
kinds_in hs = map (λ (h : Head). h.kind) hs

unfoldable pub first_has_in : List Head → Bool
first_has_in [] = false
first_has_in (h ∷ hs) = has_in h

unfoldable pub places_fit : List Head → Bool
places_fit hs = places_from (length hs) (counted_kinds 0 (kinds_in hs)) (first_has_in hs) 0 hs
