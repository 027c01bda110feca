-- What the figures of a section say of the number that it shows.
-- Assumes nothing.
use Rattle.std.specs.Prelude.{◌≡◌, Bool, cond, ◌&&◌, List, [], ℕ, ◌+◌, ◌^◌, ◌≤◌, ◌<◌, eqb}
use Rattle.figures.specs.Digits.{figures}
use Rattle.figures.specs.Places.{places_used}
use Rattle.formats.specs.Tokens.{Place, zero_place, hash_place, space_place}
use Rattle.formats.specs.Text.{Context, ends_group, with_separator, units_beyond, at_first_integer}
use Rattle.figure_text.specs.declared.Figures.{Figures}

-- the place of the digit that the first of so many integer places shows; 40, which no digit has, where there is none
unfoldable pub first_place : ℕ → ℕ
first_place integers = cond (eqb integers 0) 40 (14 + integers)

-- the digits, and the figures beside them, are those of a context; with more integer places, 40 would not tell that there is none
pub record FiguresAre (digits : List ℕ) (f : Figures) (c : Context) : Type 0 where
  pub number : digits ≡ figures c.figures
  pub small : c.figures < 10 ^ 40
  pub places : c.integer_places ≤ 25
  pub used : f.used ≡ places_used 40 (figures c.figures)
  pub first : f.first ≡ first_place c.integer_places
  pub grouped : f.grouped ≡ c.grouped

-- the figures of forty digits
unfoldable pub figures_with : List ℕ → ℕ → Bool → Figures
figures_with digits integers grouped = record { used = places_used 40 digits; first = first_place integers; grouped = grouped }

-- "4, 5, 6 places `0 # ?`"
unfoldable pub place_of_tag : ℕ → Place
place_of_tag t = cond (eqb t 4) zero_place (cond (eqb t 5) hash_place space_place)

-- units of the digit at q, with a separator where one is due
abbrev pub separated : Bool → ℕ → List ℕ → List ℕ
separated grouped q us = cond (grouped && ends_group q) (with_separator us) us

-- the digits beyond the places that go in before the digit at q
abbrev pub units_before : Context → ℕ → List ℕ
units_before c q = cond (at_first_integer c q) (units_beyond c q) []
