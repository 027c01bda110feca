-- A number in a scientific section: its words, the figures of its mantissa, and its exponent.
-- Assumes nothing.
use Prim.Native.Nat.{ℕ, ◌^◌, ◌≤◌, ◌<◌}
use native.Mathlib.Nat.{lt_of_lt_of_le}
use native.Mathlib.Omega.{arith}
use mathlib.Core.Path.{◌≡◌, refl, sym, ap, ◌∙◌}
use mathlib.Core.Bool.{Bool, false}
use mathlib.Core.List.{List}
use lib.Dec.{T, eqb}
use Rattle.values.specs.declared.Number.{Number}
use Rattle.lists.proofs.Bools.{by_cases}
use Rattle.figures.specs.declared.Signed.{Signed}
use Rattle.figures.specs.Digits.{figures}
use Rattle.figures.specs.Sign.{signed_of}
use Rattle.figures.proofs.Tens.{ten-le}
use Rattle.exponents.specs.Exponent.{decimal, exponent_of, mantissa_of, mantissa_exactly}
use Rattle.exponents.proofs.Mantissa.{mantissa-small}
use Rattle.exponents.proofs.Small.{exponent_small}
use Rattle.formats.specs.Items.{Section, number_kind, scientific_kind, kind_of, integer_places, decimal_places}
use Rattle.formats.specs.WellFormed.{grouping_fits}
use Rattle.formats.specs.Reading.{section_exponent, section_rounded, number_context, whole_context, exponent_context, number_exactly}
use Rattle.formats.proofs.Cutting.{scientific-some}
use Rattle.formats.proofs.Exactness.{exactly-scientific}
use Rattle.tables.specs.Words.{Head}
use Rattle.tables.specs.Encode.{decimals_word, head_of}
use Rattle.table_words.specs.declared.TableSection.{TableSection}
use Rattle.table_words.specs.Tabled.{section_of}
use Rattle.table_words.specs.Sections.{head_in}
use Rattle.table_words.proofs.Bodies.{section-limits, section-exponent, section-grouping}
use Rattle.figure_text.specs.declared.Figures.{Figures}
use Rattle.figure_text.specs.Shown.{FiguresAre, figures_with}
use Rattle.figure_text.proofs.Digits.{figures-are}
use Rattle.section_text.specs.Subject.{SubjectIs}
use Rattle.scientific_sections.specs.Power.{ExponentIs}
use Rattle.section_text.specs.Show.{scientific_reading}
use Rattle.planning.specs.Minus.{minus_in}
use Rattle.planning.specs.Plan.{scientific_of}
use Rattle.planning.proofs.Places.{integers-most}
use Rattle.planning.proofs.Subjects.{number-subject}
use Rattle.planning.proofs.Numbers.{exact}
use Rattle.planning.proofs.Generals.{figures-nought}

-- what a scientific section's places and decimals say
pub record ScientificWords (integers decimals : ℕ) (s : Section) : Type 0 where
  pub least : 1 ≤ integers
  pub most : integers ≤ 20
  pub decimals_most : decimals ≤ 15
  pub places : integers ≡ integer_places s.items
  pub decimals-are : decimals ≡ decimal_places s.items
  pub ungrouped : s.grouped ≡ false

no-grouping : (z : Section) → kind_of z ≡ scientific_kind → T (grouping_fits z) → z.grouped ≡ false
unfolding grouping_fits
no-grouping z k t = by_cases z.grouped (λ g. absurd (rw (k, g) at t)) (λ g. g)

pub scientific-words : (z : TableSection) {h : Head} {integers decimals : ℕ} → kind_of (section_of z) ≡ scientific_kind
    → h ≡ head_in z.table.words.now z.place → decimals ≡ h.decimals → integers ≡ integer_places (section_of z).items
    → ScientificWords integers decimals (section_of z)
unfolding head_of decimals_word kind_of
scientific-words z {h} {decimals = n} k eh ed ei =
    let ws : List ℕ = z.table.words.now in
    let i : ℕ = z.place in
    let t = z.table.passes in
    let l = z.there in
    let s : Section = section_of z in
    let w = section-limits ws i t l in
    let decimals : n ≡ decimal_places s.items = ed ∙ ap (λ (x : Head). x.decimals) eh ∙ rw k in
    record {
      least = omega (arith, ei, (section-exponent ws i t l (scientific-some s.items k)).integer);
      most = omega (arith, ei, integers-most z (rw k));
      decimals_most = omega (arith, decimals, w.decimals-most);
      places = ei;
      decimals-are = decimals;
      ungrouped = no-grouping s k (section-grouping ws i t l);
    }

module _ {integers decimals : ℕ} {s : Section} (w : ScientificWords integers decimals s) (k : kind_of s ≡ scientific_kind) (v : Signed) (x : Number)
    (ev : v ≡ signed_of x) (hm : v.magnitude < 10 ^ 15) (hs : v.scale ≤ 15) where
  mantissa-is : mantissa_of (decimal v.magnitude v.scale) integers decimals ≡ section_rounded s x
  unfolding section_rounded
  mantissa-is = rw (k, exact v x ev, w.places, w.decimals-are)

  module _ {digits : List ℕ} {f : Figures} (ed : digits ≡ figures (mantissa_of (decimal v.magnitude v.scale) integers decimals))
      (ef : f ≡ figures_with digits integers false) where
    mantissa-figures : FiguresAre digits f (number_context s x)
    unfolding number_context
    mantissa-figures =
        let small : mantissa_of (decimal v.magnitude v.scale) integers decimals < 10 ^ 40 =
        lt_of_lt_of_le (mantissa-small v.magnitude v.scale integers decimals hm hs w.least w.most w.decimals_most) (ten-le 35 40 (omega arith)) in
        figures-are digits (number_context s x) (ef ∙ rw (w.places, w.ungrouped)) (ed ∙ ap figures mantissa-is) (rw mantissa-is at small)
        (omega (arith, w.places, w.most))

    pub mantissa-subject : (text : List ℕ) → SubjectIs number_kind digits (record { figures = f; lent = false }) text (number_context s x)
    mantissa-subject text = number-subject (number_context s x) refl mantissa-figures

    -- it is nought where no place is used
    pub mantissa-nought : eqb f.used 0 ≡ eqb (section_rounded s x) 0
    unfolding number_context
    mantissa-nought = figures-nought (number_context s x) mantissa-figures

  pub mantissa-exactly : {b : Bool} → b ≡ mantissa_exactly (decimal v.magnitude v.scale) integers decimals → b ≡ number_exactly s x
  mantissa-exactly e = e ∙ rw (exact v x ev, w.places, w.decimals-are) (sym (exactly-scientific s x k))

  exponent-is : exponent_of (decimal v.magnitude v.scale) integers decimals ≡ section_exponent s x
  unfolding section_exponent
  exponent-is = rw (exact v x ev, w.places, w.decimals-are)

  pub exponent-shows : {size : ℕ} {below : Bool} → size ≡ (exponent_of (decimal v.magnitude v.scale) integers decimals).size
      → below ≡ (exponent_of (decimal v.magnitude v.scale) integers decimals).below → ExponentIs size below (exponent_context s x)
  unfolding exponent_context whole_context
  exponent-shows es eb = record { figures = rw (es, exponent-is); ungrouped = refl; sign = rw (eb, exponent-is) }

-- an exponent has two digits at most
pub exponent-most : {integers decimals m scale size : ℕ} {s : Section} → ScientificWords integers decimals s → m < 10 ^ 15 → scale ≤ 15
    → size ≡ (exponent_of (decimal m scale) integers decimals).size → size ≤ 34
exponent-most {integers} {decimals} {m} {scale} w hm hs e = rw e (exponent_small m scale integers decimals hm hs w.least w.most w.decimals_most)

-- the reading, with the minus as the code finds it, and exact where it finds that
pub scientific-minus : (z : TableSection) (negative : Bool) (x : Number) {minus held b : Bool} → minus ≡ minus_in z negative held
    → held ≡ eqb (section_rounded (section_of z) x) 0 → b ≡ number_exactly (section_of z) x → (size : ℕ)
    → scientific_of z negative x size
    ≡ scientific_reading size (section_of z) z.place minus b (number_context (section_of z) x) (exponent_context (section_of z) x)
scientific-minus z negative x em eh ee size = rw (em, eh, ee)
