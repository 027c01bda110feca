-- The item words of a section, as the walkers ask for them, and what is shown of them.
-- Assumes nothing.
use Prim.Native.Nat.{ℕ}
use mathlib.Core.Path.{◌≡◌, refl, sym, ap, subst, ◌∙◌}
use mathlib.Core.Bool.{Bool, false}
use mathlib.Core.List.{List, ◌++◌}
use lib.Dec.{T}
use Rattle.lists.specs.Lists.{any}
use Rattle.lists.proofs.Bools.{carry}
use Rattle.std.specs.Prelude.{Result}
use Rattle.answers.specs.declared.Refusal.{Refusal}
use Rattle.answers.specs.declared.Shown.{Shown}
use Rattle.formats.specs.Items.{Item, Section, Kind, scientific_kind, fraction_kind, same_kind, kind_of, is_solidus, integer_places, places_behind}
use Rattle.formats.specs.Text.{Context, items_units, section_units, first_of}
use Rattle.formats.specs.Reading.{Reading, look_of, within}
use Rattle.formats.proofs.Cutting.{no-solidus}
use Rattle.tables.specs.Words.{entries_in}
use Rattle.tables.specs.Decode.{items_at}
use Rattle.tables.specs.Rules.{powers_from, run_powers}
use Rattle.tables.proofs.BackEntries.{powers-all}
use Rattle.table_words.specs.Sections.{ItemsOf}
use Rattle.section_text.specs.declared.Subject.{Subject}
use Rattle.section_text.specs.Subject.{SubjectIs}
use Rattle.section_text.specs.Walk.{EntriesFit, TextOf}
use Rattle.section_text.specs.Show.{sign_text, section_reading, Shows}
use Rattle.section_text.proofs.Cuts.{other-kind, uncut-bare, powers-anew}

-- a kind whose sections are cut nowhere
abbrev pub Uncut : Kind → Type 0
Uncut k = (same_kind scientific_kind k ≡ false) × (same_kind fraction_kind k ≡ false)

pub subject-uncut : {k : Kind} {digits : List ℕ} {s : Subject} {text : List ℕ} {c : Context} → SubjectIs k digits s text c → Uncut k
subject-uncut i = (i.unscientific, i.unfractional)

module _ {z : Section} {words : List ℕ} (o : ItemsOf z words) where
  -- in a section without a solidus their powers run down in one run
  pub items-powers : any is_solidus (items_at (entries_in words)) ≡ false
      → T (powers_from (first_of (places_behind z.items)) (first_of (integer_places z.items)) (entries_in words))
  unfolding run_powers
  items-powers none = rw o.items (powers-all (entries_in words) none o.powers)

  -- in a section that is cut nowhere they fit whatever the context
  pub items-fit : (c : Context) → Uncut (kind_of z) → EntriesFit (kind_of z) c (first_of (integer_places z.items)) (entries_in words)
  items-fit c h =
      let none : any is_solidus (items_at (entries_in words)) ≡ false =
      no-solidus (kind_of z) (items_at (entries_in words)) (other-kind fraction_kind (kind_of z) h.1) o.allowed in
      record {
        in_range = o.in_range;
        allowed = o.allowed;
        powers = carry (powers-anew _ (first_of c.integer_places) _ (entries_in words) (uncut-bare (kind_of z) (entries_in words) h.0 h.1 o.allowed)) (items-powers none);
      }

  -- what a context with the property shows of them, in a section that is cut nowhere
  pub items-text : {P : Kind → Context → Type 0} (c : Context) → Uncut (kind_of z) → P (kind_of z) c
      → TextOf P (entries_in words) (items_units c (first_of (integer_places z.items)) (items_at (entries_in words)))
  items-text c u p = record { context = c; kind = kind_of z; power = first_of (integer_places z.items); subject = p; fit = items-fit c u; is = refl }

  -- what is shown of the words is what is shown of the section
  pub items-shows : {old out : List ℕ} {r : Result Shown Refusal} {colour : ℕ} (size i : ℕ) (minus exact : Bool) (c : Context)
      → colour ≡ z.colour → c.integer_places ≡ integer_places z.items
      → Shows (within size (look_of (sign_text minus ++ items_units c (first_of (integer_places z.items)) (items_at (entries_in words))) colour i exact)) old r out
      → Shows (section_reading size z i minus exact c) old r out
  unfolding section_reading section_units
  items-shows {old} {out} {r} {colour} size i minus exact c ec ei x =
      let q : ℕ = first_of (integer_places z.items) in
      let g : section_reading size z i minus exact c
      ≡ within size (look_of (sign_text minus ++ items_units c q (items_at (entries_in words))) colour i exact) =
      ap (λ (n : ℕ). within size (look_of (sign_text minus ++ items_units c (first_of n) z.items) z.colour i exact)) ei
      ∙ ap (λ (is : List Item). within size (look_of (sign_text minus ++ items_units c q is) z.colour i exact)) o.items
      ∙ ap (λ (n : ℕ). within size (look_of (sign_text minus ++ items_units c q (items_at (entries_in words))) n i exact)) (sym ec) in
      subst (λ (d : Reading). Shows d old r out) (sym g) x
