-- What a plan says of a reading in a room of any size.
-- Assumes nothing.
use Rattle.std.specs.Prelude.{ℕ, ◌^◌, ◌≤◌, ◌<◌, ◌≡◌, Bool, true, false, cond, List, Result, Ok, Err, eqb, length}
use Rattle.answers.specs.declared.Refusal.{Refusal}
use Rattle.answers.specs.declared.Refusal.TheVariants as answer
use Rattle.values.specs.declared.Number.{Number}
use Rattle.values.specs.declared.Value.{Value}
use Rattle.values.specs.Ranges.{value_in_range}
use Rattle.figures.specs.declared.Signed.{Signed}
use Rattle.figures.specs.Sign.{signed_of}
use Rattle.formats.specs.Items.{Kind, date_kind, scientific_kind, fraction_kind, kind_of, integer_places}
use Rattle.formats.specs.Choice.{number_exact, Reason, chosen, choose}
use Rattle.formats.specs.Reading.{Reading, refused, look_of, within, instant_context, section_rounded, number_context, exponent_context, section_fraction, places_nought, number_exactly, instant_exactly, read_number, read_value}
use Rattle.tables.specs.Decode.{decode}
use Rattle.table_words.specs.declared.Table.{Table}
use Rattle.table_words.specs.declared.TableSection.{TableSection}
use Rattle.table_words.specs.Tabled.{sections_of, section_of}
use Rattle.figure_text.specs.declared.Figures.{Figures}
use Rattle.section_text.specs.declared.Subject.{Subject}
use Rattle.section_text.specs.Walk.{Known}
use Rattle.section_text.specs.Show.{section_reading, scientific_reading, fraction_reading}
use Rattle.planning.specs.declared.Plan.{Plan}
use Rattle.planning.specs.declared.Plan.TheVariants as plan
use Rattle.planning.specs.declared.Planned.{Planned}
use Rattle.planning.specs.Minus.{minus_in}

-- a section of this table is read, exact or not, in a context that these digits, this subject and this text are of
pub record SectionIs (z : TableSection) (minus : Bool) (s : Subject) (digits : List ℕ) (exact : Bool) (t : Table) (text : List ℕ) (read : ℕ → Reading) : Type 0 where
  pub table : z.table ≡ t
  pub used : s.figures.used ≤ 40
  pub short : s.lent ≡ true → length text ≤ 1024
  pub known : Known (kind_of (section_of z)) digits s text
  pub places : known.context.integer_places ≡ integer_places (section_of z).items
  pub reads : (size : ℕ) → read size ≡ section_reading size (section_of z) z.place minus exact known.context

-- there is a number that this magnitude and sign are of
pub record NumberOf (v : Signed) : Type 0 where
  pub number : Number
  pub is : v ≡ signed_of number

-- a scientific section read for a number: with a minus where its mantissa is not nought and no exception holds it back
abbrev pub scientific_of : TableSection → Bool → Number → ℕ → Reading
scientific_of z negative x size =
    let s = section_of z in
    scientific_reading size s z.place (minus_in z negative (eqb (section_rounded s x) 0)) (number_exactly s x) (number_context s x) (exponent_context s x)

-- a fraction read for a number: with a minus where what its places show is not nought
abbrev pub fraction_shown : TableSection → Bool → Number → ℕ → Reading
fraction_shown z negative x size =
    let s = section_of z in
    fraction_reading size s z.place (minus_in z negative (places_nought s x)) (number_exactly s x) (section_fraction s x)

-- a section of this table, of this kind, is read so for a number
pub record NumberIs (k : Kind) (of : TableSection → Bool → Number → ℕ → Reading) (z : TableSection) (v : Signed) (t : Table) (read : ℕ → Reading) : Type 0 where
  pub table : z.table ≡ t
  pub kind : kind_of (section_of z) ≡ k
  pub small : v.magnitude < 10 ^ 15
  pub scale : v.scale ≤ 15
  pub number : NumberOf v
  pub reads : (size : ℕ) → read size ≡ of z v.negative number.number size

-- a plan, with these digits beside it and exact or not, is what is read beside this text; its section is one of this table
abbrev pub PlanIs : Plan → List ℕ → Bool → Table → List ℕ → (ℕ → Reading) → Type 0
PlanIs plan.Itself digits exact t text read = (length text ≤ 1024) × ((size : ℕ) → read size ≡ within size (look_of text 0 4 true))
PlanIs (plan.Dated z d m) digits exact t text read = (z.table ≡ t)
    × (kind_of (section_of z) ≡ date_kind)
    × ((size : ℕ) → read size ≡ section_reading size (section_of z) z.place false (instant_exactly (section_of z) m) (instant_context (section_of z) d m))
PlanIs (plan.Scientific z v) digits exact t text read = NumberIs scientific_kind scientific_of z v t read
PlanIs (plan.Fraction z v) digits exact t text read = NumberIs fraction_kind fraction_shown z v t read
PlanIs (plan.Section z minus s) digits exact t text read = SectionIs z minus s digits exact t text read

-- what is planned of a table is what is read beside this text, or it is refused so
abbrev pub PlannedIs : Result Planned Refusal → Table → List ℕ → (ℕ → Reading) → Type 0
PlannedIs (Ok p) t text read = PlanIs p.plan p.digits p.exact t text read
PlannedIs (Err why) t text read = (size : ℕ) → read size ≡ refused why

-- the same of a plan that goes with any digits and is exact
abbrev pub BareIs : Result Plan Refusal → Table → List ℕ → (ℕ → Reading) → Type 0
BareIs (Ok p) t text read = (digits : List ℕ) → PlanIs p digits true t text read
BareIs (Err why) t text read = (size : ℕ) → read size ≡ refused why

-- the reading of a value through a table; 9 where it is out of range
abbrev pub value_reading : List ℕ → Value → List ℕ → ℕ → Reading
value_reading ws v text size = cond (value_in_range v text) (read_value (decode ws) v text size) (refused answer.Range)

-- a number that this magnitude and sign are of is so planned in a section, where that was chosen for it
abbrev pub PlansNumber : TableSection → Signed → Result Planned Refusal → Type 0
PlansNumber z v p = (text : List ℕ) (x : Number) (why : Reason) → v ≡ signed_of x → choose (sections_of z.table) (number_exact x) ≡ chosen z.place (section_of z) why
    → PlannedIs p z.table text (λ size. read_number (sections_of z.table) x size (choose (sections_of z.table) (number_exact x)))

-- a section without figures
abbrev pub bare_plan : TableSection → Bool → Bool → Plan
bare_plan z minus lent =
    plan.Section z minus (record { figures = record { used = 0; first = 40; grouped = false }; lent = lent })

-- a section with the figures of a number
abbrev pub digits_plan : TableSection → Bool → Figures → Plan
digits_plan z negative f = plan.Section z (minus_in z negative (eqb f.used 0)) (record { figures = f; lent = false })
