-- A text in the section that takes it, and by itself.
-- Assumes nothing.
use Prim.Native.Nat.{ℕ, suc, ◌≤◌}
use mathlib.Core.Path.{◌≡◌, refl, sym, subst, ◌∙◌}
use mathlib.Core.Bool.{Bool, true, false, ◌||◌, true≢false}
use mathlib.Core.List.{List, [], ◌∷◌}
use lib.Dec.{T, eqb}
use lib.ListN.{length}
use borrow.Author.Tests.{le-leb}
use Rattle.values.specs.declared.Value.TheVariants as value
use Rattle.lists.proofs.Bools.{and_left, and_right, implied, true-T, by_cases, cond-case}
use Rattle.formats.specs.Items.{Kind, text_kind, general_kind, date_kind, number_kind, scientific_kind, fraction_kind, literal_kind, same_kind, kind_of, Section}
use Rattle.formats.specs.Where.{implies, is_text, stands_at}
use Rattle.formats.specs.Choice.{TextChoice, itself, text_in, fourth_from, text_from, choose_text}
use Rattle.formats.specs.Reading.{text_context, look_of, within, read_text, read_value}
use Rattle.tables.specs.Decode.{decode}
use Rattle.std.specs.Prelude.{Some, None}
use Rattle.table_words.specs.declared.TableSection.{TableSection}
use Rattle.table_words.specs.Tabled.{sections_of, section_of}
use Rattle.table_words.proofs.Heads.{section-stands}
use Rattle.choosing.specs.Seeking.{text_found_of}
use Rattle.choosing.proofs.Finding.{text-itself, text_at}
use Rattle.figure_text.specs.declared.Figures.{Figures}
use Rattle.section_text.specs.Show.{sign_text, section_reading}
use Rattle.planning.specs.Plan.{SectionIs, value_reading}
use Rattle.planning.proofs.Subjects.{Unfigured, section-places, standing-subject}

-- a text goes to the fourth section or to a text section
abbrev Goes : TextChoice → Type 0
Goes itself = Unit {0}
Goes (text_in i s) = eqb i 3 ≡ false → is_text s ≡ true

text-goes : (i : ℕ) (ss : List Section) → Goes (text_from i ss)
unfolding text_from
text-goes i [] = tt
text-goes i (s ∷ ss) = cond-case Goes (is_text s) (λ e f. e) (λ e. text-goes (suc i) ss)

fourth-goes : (i : ℕ) (ss : List Section) (other : TextChoice) → Goes other → Goes (fourth_from i ss other)
unfolding fourth_from
fourth-goes i [] other p = p
fourth-goes i (s ∷ ss) other p =
    cond-case Goes (eqb i 3) (λ e f. absurd (true≢false (sym e ∙ f))) (λ e. fourth-goes (suc i) ss other p)

goes : (ss : List Section) (i : ℕ) (s : Section) → choose_text ss ≡ text_in i s → eqb i 3 ≡ false → is_text s ≡ true
unfolding choose_text
goes ss i s e = subst Goes e (fourth-goes 0 ss (text_from 0 ss) (text-goes 0 ss))

-- a section that a text goes to is a text, General or literal section
abbrev Plain : Kind → Bool
Plain k = same_kind k text_kind || same_kind k general_kind || same_kind k literal_kind

plain-kind : (k : Kind) → T (Plain k) → Unfigured k
plain-kind text_kind t = (refl, refl, refl, refl)
plain-kind general_kind t = (refl, refl, refl, refl)
plain-kind literal_kind t = (refl, refl, refl, refl)
plain-kind number_kind t = absurd t
plain-kind date_kind t = absurd t
plain-kind scientific_kind t = absurd t
plain-kind fraction_kind t = absurd t

text-plain : (k : Kind) → same_kind k text_kind ≡ true → T (Plain k)
text-plain k e = rw e tt

fourth-plain : (n i : ℕ) (s : Section) → T (stands_at n i s) → eqb i 3 ≡ true → T (Plain (kind_of s))
unfolding stands_at
fourth-plain n i s t e =
    let a : T (implies (eqb i 3) (Plain (kind_of s))) = search (and_left, and_right) in
    implied (eqb i 3) (Plain (kind_of s)) a (true-T e)

module _ (z : TableSection) (e : Some z.place ≡ text_found_of (choose_text (sections_of z.table))) where
  section-plain : T (Plain (kind_of (section_of z)))
  section-plain =
      by_cases (eqb z.place 3)
      (λ f. fourth-plain (length (sections_of z.table)) z.place (section_of z) (true-T (section-stands _ _ z.table.passes z.there)) f)
      (λ f. text-plain (kind_of (section_of z)) (goes (sections_of z.table) z.place (section_of z) (text_at _ _ e).0 f))

  text-reads : (text : List ℕ) → length text ≤ 1024
      → (size : ℕ) → value_reading z.table.words.now value.Text text size ≡ section_reading size (section_of z) z.place false true (text_context text)
  unfolding read_value read_text section_reading sign_text
  text-reads text h size = rw (le-leb (length text) 1024 h, (text_at _ _ e).0)

  pub text-section : {digits text : List ℕ} {f : Figures} → f.used ≤ 40 → length text ≤ 1024
      → SectionIs z false (record { figures = f; lent = true }) digits true z.table text (value_reading z.table.words.now value.Text text)
  unfolding text_context
  text-section {digits} {text} u h =
      let k = plain-kind (kind_of (section_of z)) section-plain in
      record {
        table = refl;
        used = u;
        short = λ l. h;
        known = record { context = text_context text; is = standing-subject (text_context text) k refl };
        places = section-places z k.0;
        reads = text-reads text h;
      }

pub itself-reads : (ws text : List ℕ) → length text ≤ 1024 → None ≡ text_found_of (choose_text (decode ws))
    → (size : ℕ) → value_reading ws value.Text text size ≡ within size (look_of text 0 4 true)
unfolding read_value read_text
itself-reads ws text h e size = rw (le-leb (length text) 1024 h, text-itself ws e)
