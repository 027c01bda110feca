-- "Cases to settle by hand", through the tables made from their codes; some codes with the words of their tables;
-- and tables that no code makes.
-- Assumes nothing.
use Prim.Native.Nat.{ℕ, zero, suc, pred}
use Prim.Native.String.{String}
use mathlib.Core.Bool.{true, false}
use mathlib.Core.List.{List, [], ◌∷◌}
use mathlib.Core.Path.{◌≡◌, refl}
use Rattle.lists.specs.Lists.{All, every, any}
use Rattle.calendar.specs.Names.{units}
use Rattle.formats.specs.Reading.{Reading}
use Rattle.formats.proofs.Cases.{all-equal, Case, cases}
use Rattle.tables.specs.Rules.{passes}
use Rattle.tables.specs.Calls.{table_of, table_reading}
use Rattle.tables.proofs.Evaluate.{evaluated_table}

abbrev pub read_through_table : Case → Reading
read_through_table c = table_reading (table_of (units c.code)) c.ask c.text c.room

pub cases-through-table : All (λ (c : Case). read_through_table c ≡ c.answer) cases
unfolding cases evaluated_table
cases-through-table = all-equal read_through_table (λ (c : Case). c.answer) cases refl

pub record Made : Type 0 where
  pub code : String
  pub words : List ℕ

abbrev pub makes : String → List ℕ → Made
makes c ws = record { code = c; words = ws }

-- 01's own example; flag 2 on a literal and on a date section; a half-day mark; a part of a second; a condition below zero and one
-- at minus zero; literals of a date; a dividing comma; the last fill; a scientific section; fractions over places and over a fixed number
unfoldable pub made : List Made
made =
    makes "0" (1 ∷ 2 ∷ 0 ∷ 0 ∷ 0 ∷ 0 ∷ 0 ∷ 0 ∷ 0 ∷ 15 ∷ 0 ∷ 0 ∷ 1 ∷ 4 ∷ 16 ∷ [])
    ∷ makes "0;" (2 ∷ 2 ∷ 0 ∷ 0 ∷ 0 ∷ 0 ∷ 0 ∷ 0 ∷ 0 ∷ 15 ∷ 0 ∷ 0 ∷ 1 ∷ 0 ∷ 0 ∷ 0 ∷ 0 ∷ 0 ∷ 0 ∷ 0 ∷ 0 ∷ 0 ∷ 2 ∷ 0 ∷ 0 ∷ 4 ∷ 16 ∷ [])
    ∷ makes "d;d" (2 ∷ 4 ∷ 0 ∷ 0 ∷ 0 ∷ 0 ∷ 0 ∷ 0 ∷ 0 ∷ 0 ∷ 0 ∷ 0 ∷ 1 ∷ 4 ∷ 0 ∷ 0 ∷ 0 ∷ 0 ∷ 0 ∷ 0 ∷ 0 ∷ 0 ∷ 2 ∷ 0 ∷ 1 ∷ 13 ∷ 1 ∷ 13 ∷ 1 ∷ [])
    ∷ makes "dA/P" (1 ∷ 4 ∷ 0 ∷ 0 ∷ 0 ∷ 0 ∷ 0 ∷ 0 ∷ 0 ∷ 0 ∷ 4 ∷ 0 ∷ 2 ∷ 13 ∷ 1 ∷ 21 ∷ 1 ∷ [])
    ∷ makes "s.00" (1 ∷ 4 ∷ 0 ∷ 0 ∷ 0 ∷ 0 ∷ 0 ∷ 0 ∷ 0 ∷ 0 ∷ 0 ∷ 0 ∷ 2 ∷ 16 ∷ 1 ∷ 17 ∷ 2 ∷ [])
    ∷ makes "[<>-0.5]General" (1 ∷ 1 ∷ 0 ∷ 6 ∷ 1 ∷ 0 ∷ 0 ∷ 41248 ∷ 7 ∷ 0 ∷ 0 ∷ 0 ∷ 1 ∷ 9 ∷ 0 ∷ [])
    ∷ makes "[=-0.0]General" (1 ∷ 1 ∷ 0 ∷ 1 ∷ 0 ∷ 0 ∷ 0 ∷ 0 ∷ 0 ∷ 0 ∷ 0 ∷ 0 ∷ 1 ∷ 9 ∷ 0 ∷ [])
    ∷ makes "d.," (1 ∷ 4 ∷ 0 ∷ 0 ∷ 0 ∷ 0 ∷ 0 ∷ 0 ∷ 0 ∷ 0 ∷ 0 ∷ 0 ∷ 3 ∷ 13 ∷ 1 ∷ 1 ∷ 46 ∷ 1 ∷ 44 ∷ [])
    ∷ makes "0," (1 ∷ 2 ∷ 0 ∷ 0 ∷ 0 ∷ 0 ∷ 0 ∷ 0 ∷ 0 ∷ 12 ∷ 0 ∷ 0 ∷ 1 ∷ 4 ∷ 16 ∷ [])
    ∷ makes "*a0*b" (1 ∷ 2 ∷ 0 ∷ 0 ∷ 0 ∷ 0 ∷ 0 ∷ 0 ∷ 0 ∷ 15 ∷ 0 ∷ 0 ∷ 2 ∷ 4 ∷ 16 ∷ 3 ∷ 98 ∷ [])
    ∷ makes "0.00E+00" (1 ∷ 5 ∷ 0 ∷ 0 ∷ 0 ∷ 0 ∷ 0 ∷ 0 ∷ 0 ∷ 0 ∷ 0 ∷ 2 ∷ 7 ∷ 4 ∷ 16 ∷ 7 ∷ 0 ∷ 4 ∷ 15 ∷ 4 ∷ 14 ∷ 22 ∷ 0 ∷ 4 ∷ 17 ∷ 4 ∷ 16 ∷ [])
    ∷ makes "# ?/?" (1 ∷ 6 ∷ 0 ∷ 0 ∷ 0 ∷ 0 ∷ 0 ∷ 0 ∷ 0 ∷ 0 ∷ 0 ∷ 0 ∷ 5 ∷ 5 ∷ 16 ∷ 1 ∷ 32 ∷ 6 ∷ 16 ∷ 24 ∷ 0 ∷ 6 ∷ 16 ∷ [])
    ∷ makes "0-0 00/???" (1 ∷ 6 ∷ 0 ∷ 0 ∷ 0 ∷ 0 ∷ 0 ∷ 0 ∷ 0 ∷ 0 ∷ 0 ∷ 0 ∷ 10 ∷ 4 ∷ 17 ∷ 1 ∷ 45 ∷ 4 ∷ 16 ∷ 1 ∷ 32 ∷ 4 ∷ 17 ∷ 4 ∷ 16 ∷ 24 ∷ 0 ∷ 6 ∷ 18 ∷ 6 ∷ 17 ∷ 6 ∷ 16 ∷ [])
    ∷ makes "# ?/8" (1 ∷ 6 ∷ 0 ∷ 0 ∷ 0 ∷ 0 ∷ 0 ∷ 0 ∷ 0 ∷ 0 ∷ 0 ∷ 0 ∷ 5 ∷ 5 ∷ 16 ∷ 1 ∷ 32 ∷ 6 ∷ 16 ∷ 24 ∷ 0 ∷ 25 ∷ 8 ∷ [])
    ∷ []

abbrev pub words_made : Made → List ℕ
words_made m = table_of (units m.code)

pub made-right : All (λ (m : Made). words_made m ≡ m.words) made
unfolding made evaluated_table
made-right = all-equal words_made (λ (m : Made). m.words) made refl

-- the twelve words of a section without colour and condition, in front of what follows
abbrev pub plain : ℕ → ℕ → ℕ → ℕ → ℕ → List ℕ → List ℕ
plain kind shift flags decimals items ws = kind ∷ 0 ∷ 0 ∷ 0 ∷ 0 ∷ 0 ∷ 0 ∷ 0 ∷ shift ∷ flags ∷ decimals ∷ items ∷ ws

-- n items of the same two words
unfoldable pub copies : ℕ → ℕ → ℕ → List ℕ → List ℕ
copies zero tag argument ws = ws
copies (suc n) tag argument ws = tag ∷ argument ∷ copies n tag argument ws

-- n places `0`, their words running down by one from p
unfoldable pub places_down : ℕ → ℕ → List ℕ → List ℕ
places_down zero p ws = ws
places_down (suc n) p ws = 4 ∷ p ∷ places_down n (pred p) ws

-- in the order of the table rules' sentence
unfoldable pub broken_tables : List (List ℕ)
unfolding copies places_down
broken_tables =
    -- no section; five sections; a word behind the end; a word missing; 255 items
    (0 ∷ [])
    ∷ (5 ∷ plain 0 0 0 0 0 (plain 0 0 0 0 0 (plain 0 0 0 0 0 (plain 0 0 0 0 0 (plain 0 0 0 0 0 [])))))
    ∷ (1 ∷ plain 0 0 0 0 0 (0 ∷ []))
    ∷ (1 ∷ plain 1 0 0 0 1 (9 ∷ []))
    ∷ (2 ∷ plain 0 0 0 0 127 (plain 0 0 2 0 128 (copies 255 1 65 [])))
    -- words out of range: colour 57; operator 7; a whole part of ten digits; flags of 8
    ∷ (1 ∷ 0 ∷ 57 ∷ 0 ∷ 0 ∷ 0 ∷ 0 ∷ 0 ∷ 0 ∷ 0 ∷ 0 ∷ 0 ∷ 0 ∷ [])
    ∷ (1 ∷ 1 ∷ 0 ∷ 7 ∷ 0 ∷ 5 ∷ 0 ∷ 0 ∷ 0 ∷ 0 ∷ 0 ∷ 0 ∷ 1 ∷ 9 ∷ 0 ∷ [])
    ∷ (1 ∷ 1 ∷ 0 ∷ 1 ∷ 0 ∷ 51712 ∷ 15258 ∷ 0 ∷ 0 ∷ 0 ∷ 0 ∷ 0 ∷ 1 ∷ 9 ∷ 0 ∷ [])
    ∷ (1 ∷ plain 2 15 8 0 1 (4 ∷ 16 ∷ []))
    -- a minus zero; a number without an operator
    ∷ (1 ∷ 1 ∷ 0 ∷ 1 ∷ 1 ∷ 0 ∷ 0 ∷ 0 ∷ 0 ∷ 0 ∷ 0 ∷ 0 ∷ 1 ∷ 9 ∷ 0 ∷ [])
    ∷ (1 ∷ 1 ∷ 0 ∷ 0 ∷ 0 ∷ 5 ∷ 0 ∷ 0 ∷ 0 ∷ 0 ∷ 0 ∷ 0 ∷ 1 ∷ 9 ∷ 0 ∷ [])
    -- items out of range: tags 0 and 24; runs of three y and of ten elapsed h; a part of four digits; a point with an argument
    ∷ (1 ∷ plain 4 0 4 0 2 (13 ∷ 1 ∷ 0 ∷ 1 ∷ []))
    ∷ (1 ∷ plain 4 0 4 0 2 (13 ∷ 1 ∷ 24 ∷ 1 ∷ []))
    ∷ (1 ∷ plain 4 0 0 0 1 (11 ∷ 3 ∷ []))
    ∷ (1 ∷ plain 4 0 0 0 1 (18 ∷ 10 ∷ []))
    ∷ (1 ∷ plain 4 0 0 0 2 (16 ∷ 1 ∷ 17 ∷ 4 ∷ []))
    ∷ (1 ∷ plain 2 15 0 0 2 (4 ∷ 16 ∷ 7 ∷ 1 ∷ []))
    -- items and kinds: a kind that its items do not give; a half-day mark without a date; a part of a second behind a fill
    ∷ (1 ∷ plain 0 15 0 0 1 (4 ∷ 16 ∷ []))
    ∷ (1 ∷ plain 0 0 4 0 1 (21 ∷ 1 ∷ []))
    ∷ (1 ∷ plain 4 0 0 0 3 (16 ∷ 1 ∷ 3 ∷ 65 ∷ 17 ∷ 1 ∷ []))
    -- where: text that is not last; a single condition beside a place; a condition on a third section; a coloured fourth
    ∷ (2 ∷ plain 3 0 0 0 1 (plain 2 15 0 0 1 (10 ∷ 0 ∷ 4 ∷ 16 ∷ [])))
    ∷ (1 ∷ 2 ∷ 0 ∷ 1 ∷ 0 ∷ 5 ∷ 0 ∷ 0 ∷ 0 ∷ 15 ∷ 0 ∷ 0 ∷ 1 ∷ 4 ∷ 16 ∷ [])
    ∷ (3 ∷ plain 0 0 0 0 0 (plain 0 0 2 0 0 (0 ∷ 0 ∷ 1 ∷ 0 ∷ 5 ∷ 0 ∷ 0 ∷ 0 ∷ 0 ∷ 0 ∷ 0 ∷ 0 ∷ [])))
    ∷ (4 ∷ plain 0 0 0 0 0 (plain 0 0 2 0 0 (plain 0 0 0 0 0 (0 ∷ 3 ∷ 0 ∷ 0 ∷ 0 ∷ 0 ∷ 0 ∷ 0 ∷ 0 ∷ 0 ∷ 0 ∷ 0 ∷ []))))
    -- limits: 21 integer places; 16 decimal places; six percents; six dividing commas
    ∷ (1 ∷ plain 2 15 0 0 21 (places_down 21 36 []))
    ∷ (1 ∷ plain 2 15 0 16 17 (7 ∷ 0 ∷ places_down 16 15 []))
    ∷ (1 ∷ plain 2 24 0 0 7 (4 ∷ 16 ∷ copies 6 8 0 []))
    ∷ (1 ∷ plain 2 1 0 0 3 (4 ∷ 16 ∷ 8 ∷ 0 ∷ 8 ∷ 0 ∷ []))
    -- two fills
    ∷ (1 ∷ plain 0 0 0 0 2 (3 ∷ 1 ∷ 3 ∷ 1 ∷ []))
    -- powers: one that does not fit its place; a decimal place before the point
    ∷ (1 ∷ plain 2 15 0 0 1 (4 ∷ 17 ∷ []))
    ∷ (1 ∷ plain 2 15 0 1 3 (4 ∷ 16 ∷ 4 ∷ 15 ∷ 7 ∷ 0 ∷ []))
    -- grouping with one integer place; a month behind hours, and before seconds; minutes that a month keeps from the seconds
    ∷ (1 ∷ plain 2 15 1 1 3 (4 ∷ 16 ∷ 7 ∷ 0 ∷ 4 ∷ 15 ∷ []))
    ∷ (1 ∷ plain 4 0 0 0 2 (14 ∷ 1 ∷ 12 ∷ 1 ∷ []))
    ∷ (1 ∷ plain 4 0 0 0 2 (12 ∷ 2 ∷ 16 ∷ 2 ∷ []))
    ∷ (1 ∷ plain 4 0 0 0 3 (15 ∷ 1 ∷ 12 ∷ 3 ∷ 16 ∷ 1 ∷ []))
    -- shifts: of no dividing commas; one that multiplies; of a third of a comma; of a literal section
    ∷ (1 ∷ plain 2 16 0 0 1 (4 ∷ 16 ∷ []))
    ∷ (1 ∷ plain 2 18 0 0 1 (4 ∷ 16 ∷ []))
    ∷ (1 ∷ plain 2 14 0 0 1 (4 ∷ 16 ∷ []))
    ∷ (1 ∷ plain 0 15 0 0 0 [])
    -- flags: 2 where (a) does not hold, and not where it does; 4 without a half-day mark, and a mark without 4
    ∷ (1 ∷ plain 2 15 2 0 1 (4 ∷ 16 ∷ []))
    ∷ (2 ∷ plain 2 15 0 0 1 (plain 2 15 0 0 1 (4 ∷ 16 ∷ 4 ∷ 16 ∷ [])))
    ∷ (1 ∷ plain 4 0 4 0 1 (13 ∷ 1 ∷ []))
    ∷ (1 ∷ plain 4 0 0 0 2 (13 ∷ 1 ∷ 21 ∷ 1 ∷ []))
    -- decimal places: none told where there is one; one told where there is none
    ∷ (1 ∷ plain 2 15 0 0 2 (7 ∷ 0 ∷ 4 ∷ 15 ∷ []))
    ∷ (1 ∷ plain 4 0 0 1 2 (16 ∷ 1 ∷ 17 ∷ 1 ∷ []))
    -- scientific: shift 15; flag 1; no decimal place told; powers that go on behind the E, and that end at 1; four exponent places; a `?`
    -- and a point behind the E; no exponent place; no integer place; a second E; a percent; an E in a number section; kind 6
    ∷ (1 ∷ plain 5 15 0 0 3 (4 ∷ 16 ∷ 22 ∷ 0 ∷ 4 ∷ 16 ∷ []))
    ∷ (1 ∷ plain 5 0 1 0 4 (4 ∷ 17 ∷ 4 ∷ 16 ∷ 22 ∷ 0 ∷ 4 ∷ 16 ∷ []))
    ∷ (1 ∷ plain 5 0 0 0 5 (4 ∷ 16 ∷ 7 ∷ 0 ∷ 4 ∷ 15 ∷ 22 ∷ 0 ∷ 4 ∷ 16 ∷ []))
    ∷ (1 ∷ plain 5 0 0 0 3 (4 ∷ 17 ∷ 22 ∷ 0 ∷ 4 ∷ 16 ∷ []))
    ∷ (1 ∷ plain 5 0 0 0 3 (4 ∷ 16 ∷ 22 ∷ 0 ∷ 4 ∷ 17 ∷ []))
    ∷ (1 ∷ plain 5 0 0 0 6 (4 ∷ 16 ∷ 22 ∷ 0 ∷ places_down 4 19 []))
    ∷ (1 ∷ plain 5 0 0 0 3 (4 ∷ 16 ∷ 22 ∷ 0 ∷ 6 ∷ 16 ∷ []))
    ∷ (1 ∷ plain 5 0 0 0 4 (4 ∷ 16 ∷ 22 ∷ 0 ∷ 4 ∷ 16 ∷ 7 ∷ 0 ∷ []))
    ∷ (1 ∷ plain 5 0 0 0 2 (4 ∷ 16 ∷ 22 ∷ 0 ∷ []))
    ∷ (1 ∷ plain 5 0 0 1 4 (7 ∷ 0 ∷ 4 ∷ 15 ∷ 22 ∷ 0 ∷ 4 ∷ 16 ∷ []))
    ∷ (1 ∷ plain 5 0 0 0 4 (4 ∷ 16 ∷ 22 ∷ 0 ∷ 22 ∷ 0 ∷ 4 ∷ 16 ∷ []))
    ∷ (1 ∷ plain 5 0 0 0 4 (4 ∷ 16 ∷ 8 ∷ 0 ∷ 22 ∷ 0 ∷ 4 ∷ 16 ∷ []))
    ∷ (1 ∷ plain 2 15 0 0 3 (4 ∷ 16 ∷ 22 ∷ 0 ∷ 4 ∷ 16 ∷ []))
    ∷ (1 ∷ plain 6 0 0 0 3 (4 ∷ 16 ∷ 22 ∷ 0 ∷ 4 ∷ 16 ∷ []))
    -- fractions: shift 15; flag 1; a decimal place told; kind 2; a fixed number of 0 and of 1,000; a second solidus; no numerator; a literal on either
    -- side of the solidus; no denominator; four places below; a place and a fixed number behind the denominator, and one before the solidus; integer
    -- places that only a blank parts from the numerator; powers that go on to the numerator, and that end at 1 below; 21 places of either; a point
    ∷ (1 ∷ plain 6 15 0 0 3 (4 ∷ 16 ∷ 24 ∷ 0 ∷ 4 ∷ 16 ∷ []))
    ∷ (1 ∷ plain 6 0 1 0 6 (4 ∷ 17 ∷ 4 ∷ 16 ∷ 1 ∷ 32 ∷ 4 ∷ 16 ∷ 24 ∷ 0 ∷ 4 ∷ 16 ∷ []))
    ∷ (1 ∷ plain 6 0 0 1 3 (4 ∷ 16 ∷ 24 ∷ 0 ∷ 4 ∷ 16 ∷ []))
    ∷ (1 ∷ plain 2 15 0 0 3 (4 ∷ 16 ∷ 24 ∷ 0 ∷ 4 ∷ 16 ∷ []))
    ∷ (1 ∷ plain 6 0 0 0 3 (4 ∷ 16 ∷ 24 ∷ 0 ∷ 25 ∷ 0 ∷ []))
    ∷ (1 ∷ plain 6 0 0 0 3 (4 ∷ 16 ∷ 24 ∷ 0 ∷ 25 ∷ 1000 ∷ []))
    ∷ (1 ∷ plain 6 0 0 0 5 (4 ∷ 16 ∷ 24 ∷ 0 ∷ 4 ∷ 16 ∷ 24 ∷ 0 ∷ 4 ∷ 16 ∷ []))
    ∷ (1 ∷ plain 6 0 0 0 2 (24 ∷ 0 ∷ 4 ∷ 16 ∷ []))
    ∷ (1 ∷ plain 6 0 0 0 4 (4 ∷ 16 ∷ 1 ∷ 32 ∷ 24 ∷ 0 ∷ 4 ∷ 16 ∷ []))
    ∷ (1 ∷ plain 6 0 0 0 4 (4 ∷ 16 ∷ 24 ∷ 0 ∷ 1 ∷ 32 ∷ 4 ∷ 16 ∷ []))
    ∷ (1 ∷ plain 6 0 0 0 2 (4 ∷ 16 ∷ 24 ∷ 0 ∷ []))
    ∷ (1 ∷ plain 6 0 0 0 6 (4 ∷ 16 ∷ 24 ∷ 0 ∷ places_down 4 19 []))
    ∷ (1 ∷ plain 6 0 0 0 5 (4 ∷ 16 ∷ 24 ∷ 0 ∷ 4 ∷ 16 ∷ 1 ∷ 32 ∷ 4 ∷ 16 ∷ []))
    ∷ (1 ∷ plain 6 0 0 0 4 (4 ∷ 16 ∷ 24 ∷ 0 ∷ 25 ∷ 8 ∷ 25 ∷ 8 ∷ []))
    ∷ (1 ∷ plain 6 0 0 0 4 (25 ∷ 8 ∷ 4 ∷ 16 ∷ 24 ∷ 0 ∷ 4 ∷ 16 ∷ []))
    ∷ (1 ∷ plain 6 0 0 0 5 (4 ∷ 16 ∷ 2 ∷ 65 ∷ 4 ∷ 16 ∷ 24 ∷ 0 ∷ 4 ∷ 16 ∷ []))
    ∷ (1 ∷ plain 6 0 0 0 5 (4 ∷ 17 ∷ 1 ∷ 32 ∷ 4 ∷ 16 ∷ 24 ∷ 0 ∷ 4 ∷ 16 ∷ []))
    ∷ (1 ∷ plain 6 0 0 0 3 (4 ∷ 16 ∷ 24 ∷ 0 ∷ 4 ∷ 17 ∷ []))
    ∷ (1 ∷ plain 6 0 0 0 23 (places_down 21 36 (24 ∷ 0 ∷ 4 ∷ 16 ∷ [])))
    ∷ (1 ∷ plain 6 0 0 0 25 (places_down 21 36 (1 ∷ 32 ∷ 4 ∷ 16 ∷ 24 ∷ 0 ∷ 4 ∷ 16 ∷ [])))
    ∷ (1 ∷ plain 6 0 0 0 4 (7 ∷ 0 ∷ 4 ∷ 16 ∷ 24 ∷ 0 ∷ 4 ∷ 16 ∷ []))
    ∷ []

pub broken-refused : any passes broken_tables ≡ false
unfolding broken_tables evaluated_table
broken-refused = refl

-- tables that pass: 254 items; all places and percents that may be; five dividing commas; the greatest condition; a point and decimals
-- alone; a percent and a comma; equal runs side by side; an elapsed run of nine; minutes before seconds; all places that a scientific
-- section may have; those of a fraction; the greatest fixed number; a literal `/` beside a solidus; an empty section
unfoldable pub sound_tables : List (List ℕ)
unfolding copies places_down
sound_tables =
    (2 ∷ plain 0 0 0 0 127 (plain 0 0 2 0 127 (copies 254 1 65535 [])))
    ∷ (1 ∷ plain 2 25 1 15 41 (places_down 20 35 (7 ∷ 0 ∷ places_down 15 15 (copies 5 8 0 []))))
    ∷ (1 ∷ plain 2 0 0 0 1 (4 ∷ 16 ∷ []))
    ∷ (1 ∷ 1 ∷ 0 ∷ 1 ∷ 0 ∷ 51711 ∷ 15258 ∷ 16959 ∷ 15 ∷ 0 ∷ 0 ∷ 0 ∷ 1 ∷ 9 ∷ 0 ∷ [])
    ∷ (1 ∷ plain 2 15 0 1 2 (7 ∷ 0 ∷ 4 ∷ 15 ∷ []))
    ∷ (1 ∷ plain 2 14 0 0 2 (4 ∷ 16 ∷ 8 ∷ 0 ∷ []))
    ∷ (1 ∷ plain 4 0 0 0 2 (11 ∷ 2 ∷ 11 ∷ 2 ∷ []))
    ∷ (1 ∷ plain 4 0 0 0 1 (18 ∷ 9 ∷ []))
    ∷ (1 ∷ plain 4 0 0 0 3 (12 ∷ 1 ∷ 15 ∷ 2 ∷ 16 ∷ 1 ∷ []))
    ∷ (1 ∷ plain 5 0 0 15 40 (places_down 20 35 (7 ∷ 0 ∷ places_down 15 15 (23 ∷ 0 ∷ places_down 3 18 []))))
    ∷ (1 ∷ plain 6 0 0 0 45 (places_down 20 35 (1 ∷ 32 ∷ places_down 20 35 (24 ∷ 0 ∷ places_down 3 18 []))))
    ∷ (1 ∷ plain 6 0 0 0 3 (4 ∷ 16 ∷ 24 ∷ 0 ∷ 25 ∷ 999 ∷ []))
    ∷ (1 ∷ plain 6 0 0 0 5 (4 ∷ 16 ∷ 1 ∷ 47 ∷ 4 ∷ 16 ∷ 24 ∷ 0 ∷ 4 ∷ 16 ∷ []))
    ∷ (1 ∷ plain 0 0 0 0 0 [])
    ∷ []

pub sound-pass : every passes sound_tables ≡ true
unfolding sound_tables evaluated_table
sound-pass = refl
