-- A number in a section that shows General.
-- Assumes nothing.
use Prim.Native.Nat.{ℕ, zero, suc, ◌^◌, ◌<◌}
use native.Mathlib.Nat.{mul-one, div-one}
use native.Mathlib.Omega.{arith}
use mathlib.Core.Path.{◌≡◌, refl, sym, ap, ◌∙◌}
use mathlib.Core.Bool.{Bool, true, false}
use mathlib.Core.List.{List, []}
use lib.Dec.{T, eqb, leb}
use borrow.Author.Tests.{ne_eqb, lt-leb}
use Rattle.answers.specs.declared.Refusal.TheVariants as answer
use Rattle.values.specs.declared.Number.{Number}
use Rattle.lists.proofs.Bools.{T_true}
use Rattle.calendar.specs.Date.{date_of}
use Rattle.calendar.specs.Clock.{clock_of}
use Rattle.figures.specs.declared.Signed.{Signed}
use Rattle.figures.specs.Digits.{figures}
use Rattle.figures.specs.Places.{places_used}
use Rattle.figures.specs.Powers.{powered}
use Rattle.figures.specs.General.{general_decimals, general_rounded, general_exactly, general_too_wide}
use Rattle.figures.specs.Sign.{signed_of}
use Rattle.figures.proofs.Rounding.{rounded-small}
use Rattle.figures.proofs.General.{decimals-most}
use Rattle.figures.proofs.Places.{used-test}
use Rattle.formats.specs.Items.{Kind, text_kind, general_kind, date_kind, number_kind, scientific_kind, fraction_kind, literal_kind, kind_of, Section}
use Rattle.formats.specs.Choice.{number_exact, Reason, chosen}
use Rattle.formats.specs.Text.{Context}
use Rattle.formats.specs.Reading.{refused, number_context, takes_number, shows_general, standing_rounded, shows_nought, number_exactly, read_number}
use Rattle.formats.proofs.Exactness.{exactly-general}
use Rattle.figure_text.specs.declared.Figures.{Figures}
use Rattle.figure_text.specs.Shown.{FiguresAre, figures_with}
use Rattle.figure_text.proofs.Digits.{figures-are}
use Rattle.section_text.specs.Subject.{SubjectIs}
use Rattle.planning.proofs.Subjects.{Unfigured, standing-subject}
use Rattle.planning.proofs.Numbers.{Takes}

none-used : (u : ℕ) → eqb u 0 ≡ leb u 0
none-used zero = refl
none-used (suc u) = ne_eqb (suc u) 0 (λ e. omega arith) ∙ sym (lt-leb (suc u) 0 (omega arith))

-- no place is used where the number is nought
pub figures-nought : {digits : List ℕ} {f : Figures} (c : Context) → FiguresAre digits f c → eqb f.used 0 ≡ eqb c.figures 0
figures-nought {f = f} c are =
    let n : ℕ = c.figures in
    ap (λ (u : ℕ). eqb u 0) are.used ∙ none-used (places_used 40 (figures n)) ∙ used-test n are.small 0 ∙ ap (λ (x : ℕ). eqb x 0) (div-one n)

-- a context that shows this number in General
abbrev general_context : ℕ → Context
general_context n = record {
  figures = n;
  grouped = false;
  integer_places = 0;
  standing = [];
  date = date_of 0;
  clock = clock_of 0;
  twelve = false;
  elapsed = 0;
  below = false;
}

-- a section that shows General takes numbers, and shows nothing else of them
general-kind : (k : Kind) → T (shows_general k) → (takes_number k ≡ true) × Unfigured k
unfolding shows_general takes_number
general-kind text_kind t = (refl, (refl, refl, refl, refl))
general-kind general_kind t = (refl, (refl, refl, refl, refl))
general-kind literal_kind t = absurd t
general-kind number_kind t = absurd t
general-kind date_kind t = absurd t
general-kind scientific_kind t = absurd t
general-kind fraction_kind t = absurd t

powered-none : (m s : ℕ) → powered m 0 s ≡ record { above = m; below = 10 ^ s }
unfolding powered
powered-none m s = ap (λ (a : ℕ). record { above = a; below = 10 ^ s }) (mul-one m)

general-small : (m s : ℕ) → m < 10 ^ 15 → general_rounded (powered m 0 s) < 10 ^ 40
unfolding general_rounded
general-small m s h = rounded-small m 0 s (general_decimals (powered m 0 s)) h (omega arith) (omega (arith, decimals-most (powered m 0 s)))

-- the number of a value is the one that its context stands for
module _ (v : Signed) (x : Number) (ev : v ≡ signed_of x) where
  exact-is : powered v.magnitude 0 v.scale ≡ (number_exact x).size
  unfolding number_exact signed_of
  exact-is = powered-none v.magnitude v.scale ∙ ap (λ (w : Signed). record { above = w.magnitude; below = 10 ^ w.scale }) ev

  pub wide_is : {b : Bool} → b ≡ general_too_wide (powered v.magnitude 0 v.scale) → general_too_wide (number_exact x).size ≡ b
  wide_is e = sym (e ∙ ap general_too_wide exact-is)

  pub general-exactly : {b : Bool} (z : Section) → T (shows_general (kind_of z)) → b ≡ general_exactly (powered v.magnitude 0 v.scale)
      → b ≡ number_exactly z x
  general-exactly z t e = e ∙ ap general_exactly exact-is ∙ sym (exactly-general z x (T_true (shows_general (kind_of z)) t))

  pub general-figures : {digits : List ℕ} → v.magnitude < 10 ^ 15 → digits ≡ figures (general_rounded (powered v.magnitude 0 v.scale))
      → FiguresAre digits (figures_with digits 0 false) (general_context (standing_rounded x))
  unfolding standing_rounded
  general-figures {digits} hm ed =
      figures-are digits (general_context (standing_rounded x)) refl (ed ∙ ap (λ y. figures (general_rounded y)) exact-is)
      (rw exact-is at (general-small v.magnitude v.scale hm)) (omega arith)

module _ (z : Section) (t : T (shows_general (kind_of z))) (x : Number) where
  pub general-wide : general_too_wide (number_exact x).size ≡ true → (ss : List Section) (i : ℕ) (why : Reason) (size : ℕ)
      → read_number ss x size (chosen i z why) ≡ refused answer.General
  unfolding read_number
  general-wide e ss i why size = rw ((general-kind (kind_of z) t).0, T_true (shows_general (kind_of z)) t, e)

  module _ {digits : List ℕ} {f : Figures} (are : FiguresAre digits f (general_context (standing_rounded x))) where
    pub general-takes : general_too_wide (number_exact x).size ≡ false → Takes z x (eqb f.used 0)
    unfolding shows_nought
    general-takes e =
        let k = general-kind (kind_of z) t in
        let y : shows_general (kind_of z) ≡ true = T_true (shows_general (kind_of z)) t in
        record { nought = figures-nought (general_context (standing_rounded x)) are ∙ rw (k.1.0, y); number = k.0; narrow = rw (y, e) }

    pub general-subject : {text : List ℕ} → SubjectIs (kind_of z) digits (record { figures = f; lent = false }) text (number_context z x)
    unfolding number_context
    general-subject =
        let k = general-kind (kind_of z) t in
        standing-subject (number_context z x) k.1 (record { context = general_context (standing_rounded x); are = are; shows = refl })
