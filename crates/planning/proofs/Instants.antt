-- An instant in the section that takes it.
-- Assumes nothing.
use Prim.Native.Nat.{ℕ, ◌≤◌}
use mathlib.Core.Path.{◌≡◌, refl, sym, ap, ◌∙◌}
use mathlib.Core.Bool.{Bool, true, false, true≢false}
use mathlib.Core.List.{List}
use Rattle.answers.specs.declared.Refusal.TheVariants as answer
use Rattle.values.specs.declared.Day.{Day}
use Rattle.values.specs.declared.Millisecond.{Millisecond}
use Rattle.formats.specs.Items.{Section, Kind, date_kind, literal_kind, shows_places, kind_of, integer_places}
use Rattle.formats.specs.Choice.{instant_exact, Reason, chosen, choose}
use Rattle.formats.specs.Reading.{refused, takes_instant, instant_context, instant_exactly, read_instant}
use Rattle.table_words.specs.declared.TableSection.{TableSection}
use Rattle.table_words.specs.Tabled.{sections_of, section_of}
use Rattle.figure_text.specs.declared.Figures.{Figures}
use Rattle.section_text.specs.Show.{sign_text, section_reading}
use Rattle.planning.specs.Plan.{SectionIs}
use Rattle.planning.proofs.Subjects.{section-places, literal-subject}

-- date-time sections and literal sections take instants, and show no places
abbrev TakesInstant : Kind → Type 0
TakesInstant k = (takes_instant k ≡ true) × (shows_places k ≡ false)

pub date-takes : (k : Kind) → k ≡ date_kind → TakesInstant k
unfolding takes_instant
date-takes k e = rw e (refl, refl)

literal-takes : (k : Kind) → k ≡ literal_kind → TakesInstant k
unfolding takes_instant
literal-takes k e = rw e (refl, refl)

literal-exactly : (s : Section) (m : Millisecond) → kind_of s ≡ literal_kind → instant_exactly s m ≡ true
unfolding instant_exactly
literal-exactly s m e = rw e

module _ (z : TableSection) (d : Day) (m : Millisecond) where
  pub instant-places : TakesInstant (kind_of (section_of z)) → (instant_context (section_of z) d m).integer_places ≡ integer_places (section_of z).items
  unfolding instant_context
  instant-places e = section-places z e.1

  -- the reading of an instant in the section, by whether its kind takes one
  module _ (why : Reason) (eo : choose (sections_of z.table) (instant_exact d m) ≡ chosen z.place (section_of z) why) where
    pub instant-refused : takes_instant (kind_of (section_of z)) ≡ false
        → (size : ℕ) → read_instant d m size (choose (sections_of z.table) (instant_exact d m)) ≡ refused answer.Sort
    unfolding read_instant
    instant-refused e size = rw (eo, e)

    pub instant-reads : TakesInstant (kind_of (section_of z)) → (size : ℕ) → read_instant d m size (choose (sections_of z.table) (instant_exact d m))
        ≡ section_reading size (section_of z) z.place false (instant_exactly (section_of z) m) (instant_context (section_of z) d m)
    unfolding read_instant section_reading sign_text
    instant-reads e size = rw (eo, e.0)

    pub instant-literal : {digits text : List ℕ} {f : Figures} → f.used ≤ 40 → kind_of (section_of z) ≡ literal_kind
        → SectionIs z false (record { figures = f; lent = false }) digits true z.table text (λ size. read_instant d m size (choose (sections_of z.table) (instant_exact d m)))
    instant-literal u e =
        let k = literal-takes (kind_of (section_of z)) e in
        record {
          table = refl;
          used = u;
          short = λ l. absurd (true≢false (sym l));
          known = record { context = instant_context (section_of z) d m; is = literal-subject (instant_context (section_of z) d m) e };
          places = instant-places k;
          reads = λ size. instant-reads k size ∙ ap (λ (b : Bool). section_reading size (section_of z) z.place false b (instant_context (section_of z) d m)) (literal-exactly (section_of z) m e);
        }
