-- A number in a number section: its words, and its figures.
-- Assumes nothing.
use Prim.Native.Nat.{ℕ, ◌+◌, ◌-◌, ◌*◌, ◌^◌, ◌≤◌, ◌<◌}
use native.Mathlib.Omega.{arith}
use mathlib.Core.Path.{◌≡◌, refl, sym, ap, ap₂, ◌∙◌}
use mathlib.Core.Bool.{Bool, true, false, ◌||◌}
use mathlib.Core.List.{List}
use lib.Dec.{eqb}
use lib.IntN.{nat_abs}
use Rattle.values.specs.declared.Number.{Number}
use Rattle.lists.specs.Lists.{count}
use Rattle.figures.specs.declared.Signed.{Signed}
use Rattle.figures.specs.Digits.{figures}
use Rattle.figures.specs.Powers.{powered}
use Rattle.figures.specs.Rounding.{scaled, rounded, rounds_exactly}
use Rattle.figures.specs.Rounder.{Roundable}
use Rattle.figures.specs.Sign.{signed_of}
use Rattle.figures.proofs.Rounding.{powered-net, scaled-powered, scaled_small, roundable}
use Rattle.figures.proofs.Exactly.{exactly-net}
use Rattle.formats.specs.Items.{Section, Kind, number_kind, scientific_kind, fraction_kind, shows_places, kind_of, is_percent, integer_places, decimal_places}
use Rattle.formats.specs.Reading.{takes_number, shows_general, section_rounded, number_context, places_nought, shows_nought, number_exactly}
use Rattle.formats.proofs.Exactness.{exactly-number}
use Rattle.tables.specs.Words.{Head}
use Rattle.tables.specs.Encode.{shift_word, decimals_word, head_of}
use Rattle.tables.proofs.MadeHeads.{Within}
use Rattle.table_words.specs.declared.TableSection.{TableSection}
use Rattle.table_words.specs.Sections.{head_in}
use Rattle.table_words.specs.Tabled.{section_of}
use Rattle.table_words.proofs.Bodies.{section-limits}
use Rattle.figure_text.specs.declared.Figures.{Figures}
use Rattle.figure_text.specs.Shown.{FiguresAre, figures_with}
use Rattle.figure_text.proofs.Digits.{figures-are}
use Rattle.planning.proofs.Numbers.{Takes}
use Rattle.planning.proofs.Generals.{figures-nought}

-- what a number section's shift and decimals say
pub record NumberWords (shift decimals : ℕ) (s : Section) : Type 0 where
  pub shift_most : shift ≤ 25
  pub decimals_most : decimals ≤ 15
  pub net : shift + 3 * s.thousands ≡ 15 + 2 * count is_percent s.items
  pub places : decimals ≡ decimal_places s.items

pub number-words : (z : TableSection) {h : Head} → kind_of (section_of z) ≡ number_kind → h ≡ head_in z.table.words.now z.place
    → NumberWords h.shift h.decimals (section_of z)
unfolding head_of shift_word decimals_word
number-words z {h} k e =
    let s : Section = section_of z in
    let w : Within s = section-limits _ _ z.table.passes z.there in
    let shift : h.shift ≡ 15 + 2 * count is_percent s.items - 3 * s.thousands = ap (λ (x : Head). x.shift) e ∙ rw k in
    let decimals : h.decimals ≡ decimal_places s.items = ap (λ (x : Head). x.decimals) e ∙ rw k in
    record {
      shift_most = omega (arith, shift, w.percents-most);
      decimals_most = omega (arith, decimals, w.decimals-most);
      net = omega (arith, shift, w.thousands-most);
      places = decimals;
    }

pub number-roundable : {shift decimals m up : ℕ} {s : Section} → NumberWords shift decimals s → m < 10 ^ 15 → up ≡ shift - 15
    → Roundable m up decimals
number-roundable w hm eu = roundable hm (omega (arith, w.shift_most)) w.decimals_most

-- the rounded number of a number section
rounded-plain : (z : Section) (x : Number) → kind_of z ≡ number_kind → section_rounded z x
    ≡ rounded (scaled (nat_abs x.coefficient) x.scale (count is_percent z.items) z.thousands) (decimal_places z.items)
unfolding section_rounded
rounded-plain z x k = rw k

-- the section's number by the net power of ten that its shift tells
module _ {shift decimals : ℕ} {s : Section} (w : NumberWords shift decimals s) (k : kind_of s ≡ number_kind) (v : Signed) (x : Number)
    (ev : v ≡ signed_of x) where
  number-net : rounded (powered v.magnitude (shift - 15) (v.scale + (15 - shift))) decimals ≡ section_rounded s x
  unfolding signed_of
  number-net =
      let p : ℕ = count is_percent s.items in
      let t : ℕ = s.thousands in
      powered-net v.magnitude (shift - 15) (v.scale + (15 - shift)) (2 * p) (v.scale + 3 * t) decimals (omega (arith, w.net))
      ∙ ap (λ x. rounded x decimals) (sym (scaled-powered v.magnitude v.scale p t))
      ∙ ap₂ (λ (u : Signed). rounded (scaled u.magnitude u.scale p t)) ev w.places
      ∙ sym (rounded-plain s x k)

  pub number_digits : {r : List ℕ} {up down : ℕ} → up ≡ shift - 15 → down ≡ 15 - shift
      → r ≡ figures (rounded (powered v.magnitude up (v.scale + down)) decimals) → r ≡ figures (section_rounded s x)
  number_digits eu ed e = e ∙ rw (eu, ed) (ap figures number-net)

  pub number-exactly : {b : Bool} {up down : ℕ} → up ≡ shift - 15 → down ≡ 15 - shift
      → b ≡ rounds_exactly (powered v.magnitude up (v.scale + down)) decimals → b ≡ number_exactly s x
  unfolding signed_of
  number-exactly eu ed e =
      let p : ℕ = count is_percent s.items in
      let t : ℕ = s.thousands in
      e ∙ rw (eu, ed) (exactly-net v.magnitude (shift - 15) (v.scale + (15 - shift)) (2 * p) (v.scale + 3 * t) decimals (omega (arith, w.net)))
      ∙ ap (λ x. rounds_exactly x decimals) (sym (scaled-powered v.magnitude v.scale p t))
      ∙ ap₂ (λ (u : Signed). rounds_exactly (scaled u.magnitude u.scale p t)) ev w.places
      ∙ sym (exactly-number s x k)

or-none : (b : Bool) → b ≡ b || false
or-none true = refl
or-none false = refl

-- a kind whose places show a number
abbrev ShowsPlaces : Kind → Type 0
ShowsPlaces k = (shows_places k ≡ true) × (shows_general k ≡ false) × (takes_number k ≡ true)

number-shows : (k : Kind) → k ≡ number_kind → ShowsPlaces k
unfolding shows_general takes_number
number-shows k e = rw e (refl, refl, refl)

scientific-shows : (k : Kind) → k ≡ scientific_kind → ShowsPlaces k
unfolding shows_general takes_number
scientific-shows k e = rw e (refl, refl, refl)

fraction-shows : (k : Kind) → k ≡ fraction_kind → ShowsPlaces k
unfolding shows_general takes_number
fraction-shows k e = rw e (refl, refl, refl)

-- the figures that the section shows of a number
module _ (z : Section) (x : Number) where
  pub number-figures : {digits : List ℕ} {integers : ℕ} {grouped : Bool} → kind_of z ≡ number_kind → Within z → integer_places z.items ≤ 20 → (signed_of x).magnitude < 10 ^ 15
      → digits ≡ figures (section_rounded z x) → integers ≡ integer_places z.items → grouped ≡ z.grouped
      → FiguresAre digits (figures_with digits integers grouped) (number_context z x)
  unfolding signed_of number_context
  number-figures {digits} k w l h ed ei eg =
      figures-are digits (number_context z x) (rw (ei, eg)) ed
      (rw (rounded-plain z x k) (scaled_small (nat_abs x.coefficient) x.scale (count is_percent z.items) z.thousands (decimal_places z.items) h w.percents-most w.decimals-most))
      (omega arith)

  places-take : {held : Bool} → ShowsPlaces (kind_of z) → held ≡ places_nought z x → Takes z x held
  unfolding shows_nought
  places-take k e = record { nought = e ∙ rw (k.0, k.1) (or-none (places_nought z x)); number = k.2; narrow = rw k.1 }

  pub number-takes : {digits : List ℕ} {f : Figures} → kind_of z ≡ number_kind → FiguresAre digits f (number_context z x) → Takes z x (eqb f.used 0)
  unfolding number_context places_nought
  number-takes k are = places-take (number-shows (kind_of z) k) (figures-nought (number_context z x) are ∙ rw k)

  pub scientific-takes : kind_of z ≡ scientific_kind → Takes z x (eqb (section_rounded z x) 0)
  unfolding places_nought
  scientific-takes k = places-take (scientific-shows (kind_of z) k) (rw k)

  pub fraction-takes : kind_of z ≡ fraction_kind → Takes z x (places_nought z x)
  fraction-takes k = places-take (fraction-shows (kind_of z) k) refl
