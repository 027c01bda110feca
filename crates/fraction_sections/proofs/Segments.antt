-- What a segment shows: a whole number in its places.
-- Assumes nothing.
use Prim.Native.Nat.{ℕ, ◌*◌, ◌/◌, ◌^◌, ◌≤◌, ◌<◌}
use native.Mathlib.Nat.{lt_of_lt_of_le, mul-one}
use native.Mathlib.Omega.{arith}
use mathlib.Core.Path.{◌≡◌, refl, ap, ◌∙◌}
use mathlib.Core.Bool.{false}
use mathlib.Core.List.{List}
use lib.ListN.{length}
use Rattle.lists.specs.Lists.{count}
use Rattle.lists.proofs.Bools.{carry}
use Rattle.figures.specs.Digits.{figures}
use Rattle.figures.specs.Rounding.{rounded}
use Rattle.figures.specs.Powers.{powered}
use Rattle.figures.specs.Rounder.{Roundable}
use Rattle.figures.proofs.Rounding.{rounded-within, rounded-exact}
use Rattle.formats.specs.Items.{Kind, number_kind, item_allowed, is_place, integer_places}
use Rattle.formats.specs.Text.{Context, section_units, first_of}
use Rattle.formats.specs.Reading.{whole_context, whole_text}
use Rattle.formats.proofs.Cutting.{held-bare}
use Rattle.tables.specs.Words.{entries_in}
use Rattle.figure_text.specs.declared.Figures.{Figures}
use Rattle.figure_text.specs.Shown.{figures_with}
use Rattle.figure_text.proofs.Digits.{figures-are}
use Rattle.section_text.specs.Subject.{SubjectIs}
use Rattle.table_words.specs.Runs.{items_in}
use Rattle.section_text.specs.Walk.{EntriesFit, TextOf}
use Rattle.fraction_sections.specs.Fraction.{Segment}
use Rattle.section_text.proofs.Lengths.{words-short}
use Rattle.section_text.proofs.Cuts.{powers-anew}

-- a word of the machine is in the rounder's reach
pub word-roundable : (n : ℕ) → n < 2 ^ 64 → Roundable n 0 0
word-roundable n h = record { whole = rw (mul-one n) (lt_of_lt_of_le h (omega arith)); power = omega arith; decimals = omega arith }

module _ {words : List ℕ} (g : Segment words) where
  -- what shows n
  abbrev pub shown_of : ℕ → Context
  shown_of n = whole_context n (integer_places (items_in words)) false

  pub segment-fit : (n : ℕ) → EntriesFit number_kind (shown_of n) (first_of (integer_places (items_in words))) (entries_in words)
  segment-fit n = record {
    in_range = g.in_range;
    allowed = g.allowed;
    powers = carry (powers-anew 0 _ _ (entries_in words) (held-bare number_kind (items_in words) refl refl g.allowed)) g.powers;
  }

  pub segment-subject : (n : ℕ) {digits : List ℕ} {f : Figures} {places : ℕ} → n < 2 ^ 64 → digits ≡ figures (rounded (powered n 0 0) 0)
      → places ≡ count is_place (items_in words) → f ≡ figures_with digits places false → (text : List ℕ)
      → SubjectIs number_kind digits (record { figures = f; lent = false }) text (shown_of n)
  unfolding whole_context
  segment-subject n {digits} h ed ep ef text =
      let exact : rounded (powered n 0 0) 0 ≡ n * 10 ^ 15 = rounded-exact n 0 0 0 (omega arith) (omega arith) in
      record {
        numeric = λ t. figures-are digits (shown_of n) (ef ∙ ap (λ (k : ℕ). figures_with digits k false) (ep ∙ g.places))
            (ed ∙ ap figures exact) (rw exact at (rounded-within 0 (word-roundable n h))) (omega (arith, g.most));
        general = absurd;
        textual = absurd;
        undated = refl;
        unscientific = refl;
        unfractional = refl;
      }

  -- the text of n
  pub segment-text : {P : Kind → Context → Type 0} (n : ℕ) → P number_kind (shown_of n)
      → TextOf P (entries_in words) (whole_text n (items_in words))
  unfolding section_units whole_context
  segment-text n p = record {
    context = shown_of n;
    kind = number_kind;
    power = first_of (integer_places (items_in words));
    subject = p;
    fit = segment-fit n;
    is = refl;
  }

  -- how long its text can be
  pub segment-short : (n : ℕ) → length (whole_text n (items_in words)) ≤ 82 * (length words / 2)
  unfolding section_units whole_context item_allowed
  segment-short n = words-short (shown_of n) number_kind 82 (omega arith) absurd absurd _ words (segment-fit n)
