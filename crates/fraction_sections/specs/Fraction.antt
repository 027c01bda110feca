-- What is asked of a fraction section's item words to show them, cut in three: the integer part's, the numerator's, those from the solidus on.
-- Assumes nothing.
use Rattle.std.specs.Prelude.{ℕ, ◌+◌, ◌≤◌, ◌≡◌, Bool, false, cond, ◌&&◌, T, eqb, length, get_or, drop, replicate}
use mathlib.Core.List.{List, [], ◌∷◌, ◌++◌, map, flatten}
use Rattle.lists.specs.Lists.{any, every, count}
use Rattle.figures.specs.Digits.{width, numeral}
use Rattle.fractions.specs.declared.Mixed.{Mixed}
use Rattle.formats.specs.Items.{Item, item_row, number_kind, fraction_kind, item_allowed, is_literal, is_fill, is_place, solidus, is_solidus, is_fixed, integer_places, behind_start}
use Rattle.formats.specs.Text.{first_of}
use Rattle.formats.specs.Reading.{whole_text, below_units, blanked}
use Rattle.tables.specs.Words.{entries_in}
use Rattle.tables.specs.Decode.{items_at}
use Rattle.tables.specs.Rules.{entry_in_range, powers_from}
use Rattle.table_words.specs.Runs.{items_in}

-- words whose places show a whole number, as those of a number section do
pub record Segment (words : List ℕ) : Type 0 where
  pub few : length words ≤ 508
  pub in_range : T (every entry_in_range (entries_in words))
  pub allowed : T (every (item_allowed number_kind) (items_in words))
  pub places : count is_place (items_in words) ≡ integer_places (items_in words)
  pub most : integer_places (items_in words) ≤ 20
  pub powers : T (powers_from 0 (first_of (integer_places (items_in words))) (entries_in words))

-- words of what stands behind a solidus: at most three places, in one run at their start
pub record Behind (words : List ℕ) : Type 0 where
  pub few : length words ≤ 506
  pub in_range : T (every entry_in_range (entries_in words))
  pub allowed : T (every (item_allowed fraction_kind) (items_in words))
  pub single : any is_solidus (items_in words) ≡ false
  pub most : count is_place (items_in words) ≤ 3
  pub run : any is_place (behind_start (items_in words)) ≡ false
  pub powers : T (powers_from 0 (first_of (count is_place (items_in words))) (entries_in words))

-- words from a solidus on
pub record Below (words : List ℕ) : Type 0 where
  pub some : 2 ≤ length words
  pub items : items_in words ≡ solidus ∷ items_in (drop 2 words)
  pub behind : Behind (drop 2 words)

-- the three parts
pub record FractionReady (whole numerator from : List ℕ) : Type 0 where
  pub few : length whole + length numerator + length from ≤ 508
  pub integer : Segment whole
  pub above : Segment numerator
  pub held : T (every (item_allowed fraction_kind) (items_in numerator))
  pub below : Below from

-- their text (R135)
unfoldable pub mixed_text : Mixed → List Item → List Item → List Item → List ℕ
mixed_text f whole numerator from =
    whole_text f.whole whole
    ++ cond (any is_place whole && eqb f.above 0) (whole_text 0 (flatten (map blanked (numerator ++ from))))
    (whole_text f.above numerator ++ below_units f.below from)

-- an item that shows no digit: of a blank fraction, where a place and the solidus are spaces too, or what stands behind the places
unfoldable pub loose_units : Bool → Item → List ℕ
loose_units blank i =
    cond (is_literal i) ((item_row i).argument ∷ [])
    (cond (is_fill i) []
    (cond (is_fixed i) (cond blank (replicate (width (item_row i).argument) 32) (numeral 1 (item_row i).argument)) (32 ∷ [])))

unfoldable pub loose_text : Bool → List Item → List ℕ
loose_text blank is = flatten (map (loose_units blank) is)

-- of no item none
pub loose-ends : (blank : Bool) {us : List ℕ} → us ≡ loose_text blank (items_at []) → us ≡ []
unfolding loose_text items_at flatten
loose-ends blank e = e

-- `?` is shown as `#`
unfoldable pub shown_tag : ℕ → ℕ
shown_tag t = cond (eqb t 6) 5 t

-- the words of up to three places, so shown
unfoldable pub shown_words : List ℕ → List ℕ
shown_words ws =
    shown_tag (get_or ws 0 0) ∷ get_or ws 1 0 ∷ shown_tag (get_or ws 2 0) ∷ get_or ws 3 0 ∷ shown_tag (get_or ws 4 0) ∷ get_or ws 5 0 ∷ []
