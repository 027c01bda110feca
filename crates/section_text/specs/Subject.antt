-- What a section's items are shown from, and that it is what a context shows.
-- Assumes nothing.
use Rattle.std.specs.Prelude.{◌≡◌, Bool, true, false, List, ℕ, T}
use Rattle.figures.specs.General.{general_units}
use Rattle.formats.specs.Items.{Kind, text_kind, general_kind, date_kind, scientific_kind, fraction_kind, same_kind, shows_places}
use Rattle.formats.specs.Text.{Context}
use Rattle.figure_text.specs.declared.Figures.{Figures}
use Rattle.figure_text.specs.Shown.{FiguresAre}
use Rattle.section_text.specs.declared.Subject.{Subject}

-- units are what General shows of the number that the figures are of
pub record GeneralOf (digits : List ℕ) (f : Figures) (us : List ℕ) : Type 0 where
  pub context : Context
  pub are : FiguresAre digits f context
  pub shows : us ≡ general_units context.figures

-- what General and `@` stand for: the text that is lent, or a number's figures
abbrev pub StandsFor : Bool → List ℕ → Figures → List ℕ → List ℕ → Type 0
StandsFor true digits f text us = text ≡ us
StandsFor false digits f text us = GeneralOf digits f us

-- a subject is what a context shows in a section of kind k, or a part of a section that is as such a section, no date-time, scientific or
-- fraction one: only what such a section may hold is asked for
pub record SubjectIs (k : Kind) (digits : List ℕ) (s : Subject) (text : List ℕ) (c : Context) : Type 0 where
  pub numeric : T (shows_places k) → FiguresAre digits s.figures c
  pub general : T (same_kind general_kind k) → StandsFor s.lent digits s.figures text c.standing
  pub textual : T (same_kind text_kind k) → StandsFor s.lent digits s.figures text c.standing
  pub undated : same_kind date_kind k ≡ false
  pub unscientific : same_kind scientific_kind k ≡ false
  pub unfractional : same_kind fraction_kind k ≡ false
