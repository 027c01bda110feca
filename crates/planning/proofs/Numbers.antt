-- A number in the section that takes it: its sign, and its reading.
-- Assumes nothing.
use Prim.Native.Nat.{ℕ, ◌≤◌}
use mathlib.Core.Path.{◌≡◌, refl, sym, ap, ap₂, ◌∙◌}
use mathlib.Core.Bool.{Bool, true, false, ◌&&◌, true≢false}
use mathlib.Core.List.{List, ◌++◌}
use lib.Dec.{eqb}
use lib.ListN.{length}
use Rattle.values.specs.declared.Number.{Number}
use Rattle.figures.specs.declared.Signed.{Signed}
use Rattle.figures.specs.Sign.{signed_of}
use Rattle.figures.specs.General.{general_too_wide}
use Rattle.exponents.specs.Exponent.{decimal}
use Rattle.formats.specs.Items.{Section, scientific_kind, fraction_kind, literal_kind, same_kind, kind_of}
use Rattle.formats.specs.Where.{has_condition}
use Rattle.formats.specs.Choice.{number_exact, Reason, counted, chosen, choose}
use Rattle.formats.specs.Minus.{is_own, first_has_condition, exception_a, sign_units}
use Rattle.formats.specs.Reading.{look_of, within, number_context, takes_number, shows_general, shows_nought, section_text, exponent_context, section_fraction, number_sign, number_units, number_exactly, read_number}
use Rattle.tables.specs.Words.{Head}
use Rattle.tables.specs.Encode.{head_of}
use Rattle.table_words.specs.declared.TableSection.{TableSection}
use Rattle.table_words.specs.Sections.{head_in}
use Rattle.table_words.specs.Tabled.{sections_of, section_of}
use Rattle.choosing.proofs.Finding.{chosen-exception}
use Rattle.figure_text.specs.declared.Figures.{Figures}
use Rattle.section_text.specs.Subject.{SubjectIs}
use Rattle.section_text.specs.Show.{sign_text, section_reading, scientific_reading, fraction_reading}
use Rattle.section_text.proofs.Cuts.{other-kind}
use Rattle.planning.specs.Minus.{minus_told, minus_in}
use Rattle.planning.specs.Plan.{SectionIs}
use Rattle.planning.proofs.Minus.{sign-told}

pub minus-words : (z : TableSection) (negative held : Bool) {minus excepted x : Bool} {h : Head} → h ≡ head_in z.table.words.now z.place → excepted ≡ x
    → minus ≡ minus_told negative (eqb h.items 0) excepted held → minus ≡ minus_told negative (eqb (length (section_of z).items) 0) x held
unfolding head_of
minus-words z negative held eh ee em = em ∙ ap₂ (λ (k : Head) (b : Bool). minus_told negative (eqb k.items 0) b held) eh ee

-- a value's number is the one that its magnitude and sign are of
pub exact : (v : Signed) (x : Number) → v ≡ signed_of x → decimal v.magnitude v.scale ≡ (number_exact x).size
unfolding number_exact signed_of
exact v x ev = ap (λ (u : Signed). decimal u.magnitude u.scale) ev

-- a section shows a number, as nought or not
pub record Takes (z : Section) (x : Number) (held : Bool) : Type 0 where
  pub nought : held ≡ shows_nought z x
  pub number : takes_number (kind_of z) ≡ true
  pub narrow : shows_general (kind_of z) && general_too_wide (number_exact x).size ≡ false

pub literal-takes : (z : Section) (x : Number) → kind_of z ≡ literal_kind → Takes z x false
unfolding shows_nought shows_general takes_number
literal-takes z x e = record { nought = rw e; number = rw e; narrow = rw e }

module _ (z : TableSection) (v : Signed) (x : Number) (why : Reason) (ev : v ≡ signed_of x)
    (eo : choose (sections_of z.table) (number_exact x) ≡ chosen z.place (section_of z) why) {held : Bool} (t : Takes (section_of z) x held) where
  -- the sign as the code finds it, from the section's count of items, exception (a) by its flag and whether it shows nought
  number-sign : sign_units (number_sign (sections_of z.table) z.place (section_of z) why x) ≡ sign_text (minus_in z v.negative held)
  unfolding number_sign signed_of
  number-sign =
      let s : Section = section_of z in
      let first : Bool = first_has_condition (sections_of z.table) in
      let a : exception_a (counted (sections_of z.table)) z.place (has_condition s) first ≡ exception_a (counted (sections_of z.table)) z.place (is_own why) first =
      chosen-exception (sections_of z.table) (number_exact x) z.place s why first eo in
      sign-told x s (exception_a (counted (sections_of z.table)) z.place (is_own why) first) (shows_nought s x) (length s.items) refl
      ∙ sym (rw (ap (λ (w : Signed). w.negative) ev, t.nought, a))

  number-reads : (size : ℕ)
      → read_number (sections_of z.table) x size (choose (sections_of z.table) (number_exact x))
      ≡ within size (look_of (sign_text (minus_in z v.negative held) ++ section_text (section_of z) x) (section_of z).colour z.place (number_exactly (section_of z) x))
  unfolding read_number number_units
  number-reads size =
      let s : Section = section_of z in
      ap (read_number (sections_of z.table) x size) eo ∙ rw (t.number, t.narrow)
      (ap (λ (us : List ℕ). within size (look_of (us ++ section_text s x) s.colour z.place (number_exactly s x))) number-sign)

  -- in a section with no E and no solidus
  plain-reads : same_kind (kind_of (section_of z)) scientific_kind ≡ false → same_kind (kind_of (section_of z)) fraction_kind ≡ false → (size : ℕ)
      → read_number (sections_of z.table) x size (choose (sections_of z.table) (number_exact x))
      ≡ section_reading size (section_of z) z.place (minus_in z v.negative held) (number_exactly (section_of z) x) (number_context (section_of z) x)
  unfolding section_reading section_text
  plain-reads e f size = number-reads size ∙ rw (e, f)

  pub number-section : {digits text : List ℕ} {f : Figures} {exact : Bool} → exact ≡ number_exactly (section_of z) x → f.used ≤ 40
      → SubjectIs (kind_of (section_of z)) digits (record { figures = f; lent = false }) text (number_context (section_of z) x)
      → SectionIs z (minus_in z v.negative held) (record { figures = f; lent = false }) digits exact z.table text
      (λ size. read_number (sections_of z.table) x size (choose (sections_of z.table) (number_exact x)))
  unfolding number_context
  number-section ee u is = record {
    table = refl;
    used = u;
    short = λ e. absurd (true≢false (sym e));
    known = record { context = number_context (section_of z) x; is = is };
    places = refl;
    reads =
        λ size.
        rw ee (plain-reads (other-kind scientific_kind (kind_of (section_of z)) is.unscientific) (other-kind fraction_kind (kind_of (section_of z)) is.unfractional) size);
  }

  -- in a scientific section
  pub scientific-reads : kind_of (section_of z) ≡ scientific_kind → (size : ℕ)
      → read_number (sections_of z.table) x size (choose (sections_of z.table) (number_exact x))
      ≡ scientific_reading size (section_of z) z.place (minus_in z v.negative held) (number_exactly (section_of z) x) (number_context (section_of z) x) (exponent_context (section_of z) x)
  unfolding scientific_reading section_text
  scientific-reads k size = number-reads size ∙ rw k

  -- in a fraction
  pub fraction-reads : kind_of (section_of z) ≡ fraction_kind → (size : ℕ)
      → read_number (sections_of z.table) x size (choose (sections_of z.table) (number_exact x))
      ≡ fraction_reading size (section_of z) z.place (minus_in z v.negative held) (number_exactly (section_of z) x) (section_fraction (section_of z) x)
  unfolding fraction_reading section_text
  fraction-reads k size = number-reads size ∙ rw k
