-- Whether what a section shows of a number is nought, and the minus, as the code finds them.
-- Assumes nothing.
use mathlib.Core.Path.{◌≡◌, refl, sym, ap, ◌∙◌}
use mathlib.Core.Logic.{⊎_elim}
use Prim.Native.Nat.{ℕ, ◌^◌, ◌≤◌, ◌<◌}
use native.Mathlib.Omega.{arith}
use mathlib.Core.Bool.{Bool, true, false, cond, not, ◌&&◌, ◌||◌}
use mathlib.Core.List.{List, [], ◌∷◌}
use lib.Dec.{T, eqb}
use lib.ListN.{length}
use borrow.Author.Tests.{eq-eqb, ne_eqb}
use Rattle.values.specs.declared.Number.{Number}
use Rattle.lists.specs.Lists.{is_empty}
use Rattle.figures.specs.declared.Signed.{Signed}
use Rattle.figures.specs.Sign.{signed_of}
use Rattle.figures.proofs.Filling.{lt-or-le}
use Rattle.exponents.specs.Exponent.{decimal, mantissa_of}
use Rattle.exponents.proofs.Mantissa.{mantissa-nought}
use Rattle.exponents.proofs.Search.{mantissa-digits}
use Rattle.figures.proofs.Tens.{ten-pos}
use Rattle.fractions.specs.declared.Mixed.{Mixed}
use Rattle.formats.specs.Items.{Item, Section, Kind, shows_places, text_kind, general_kind, date_kind, number_kind, scientific_kind, fraction_kind, literal_kind, kind_of, integer_places, decimal_places}
use Rattle.formats.specs.Where.{has_condition}
use Rattle.formats.specs.Choice.{number_exact, zero_exact, less_than, counted, Reason, chosen, choose}
use Rattle.formats.specs.Minus.{minus, not_negative, no_item, for_negatives, nought, is_own, first_has_condition, exception_a, sign_for}
use Rattle.formats.specs.Reading.{shows_general, section_fraction, section_rounded, standing_rounded, places_nought, shows_nought, number_sign}
use Rattle.formats.proofs.Cutting.{scientific-some}
use Rattle.tables.specs.Words.{Head}
use Rattle.tables.specs.Encode.{head_of}
use Rattle.tables.specs.Decode.{decode}
use Rattle.table_words.specs.declared.TableSection.{TableSection}
use Rattle.table_words.specs.Tabled.{sections_of, section_of}
use Rattle.table_words.specs.Sections.{head_in}
use Rattle.table_words.proofs.Bodies.{section-limits, section-exponent}
use Rattle.choosing.proofs.Choosing.{below-zero}
use Rattle.choosing.proofs.Finding.{chosen-exception}
use Rattle.planning.proofs.Numbers.{exact}
use Rattle.grounds.specs.declared.Minus.{Minus}
use Rattle.grounds.specs.Why.{minus_of}
use Rattle.reasons.specs.Told.{minus_told}

-- by the kind of the section
or-none : (b : Bool) → b ≡ (b || false)
or-none true = refl
or-none false = refl

-- a section that shows General shows no places
general-alone : (k : Kind) → T (shows_general k) → (a b : Bool) → b ≡ (shows_places k && a || shows_general k && b)
unfolding shows_general
general-alone text_kind t a b = refl
general-alone general_kind t a b = refl
general-alone literal_kind t a b = absurd t
general-alone number_kind t a b = absurd t
general-alone date_kind t a b = absurd t
general-alone scientific_kind t a b = absurd t
general-alone fraction_kind t a b = absurd t

module _ (z : Section) (x : Number) where
  pub nought-literal : kind_of z ≡ literal_kind → false ≡ shows_nought z x
  unfolding shows_nought shows_general
  nought-literal k = rw k

  pub nought-date : kind_of z ≡ date_kind → false ≡ shows_nought z x
  unfolding shows_nought shows_general
  nought-date k = rw k

  pub nought-number : kind_of z ≡ number_kind → eqb (section_rounded z x) 0 ≡ shows_nought z x
  unfolding shows_nought shows_general places_nought
  nought-number k = or-none (eqb (section_rounded z x) 0) ∙ rw k refl

  pub nought-fraction : kind_of z ≡ fraction_kind → places_nought z x ≡ shows_nought z x
  unfolding shows_nought shows_general
  nought-fraction k = or-none (places_nought z x) ∙ rw k refl

  pub nought-general : T (shows_general (kind_of z)) → eqb (standing_rounded x) 0 ≡ shows_nought z x
  unfolding shows_nought
  nought-general t = general-alone (kind_of z) t (places_nought z x) (eqb (standing_rounded x) 0)

  nought-scientific : kind_of z ≡ scientific_kind → eqb (section_rounded z x) 0 ≡ shows_nought z x
  unfolding shows_nought shows_general places_nought
  nought-scientific k = or-none (eqb (section_rounded z x) 0) ∙ rw k refl

-- what the places of a fraction show
pub fraction-places : {f : Mixed} (s : Section) (x : Number) → kind_of s ≡ fraction_kind → f ≡ section_fraction s x
    → eqb f.whole 0 && eqb f.above 0 ≡ places_nought s x
unfolding places_nought
fraction-places s x k e = rw (e, k)

-- a mantissa is nought where the number is
mantissa-zero : (m s n d : ℕ) → m < 10 ^ 15 → s ≤ 15 → 1 ≤ n → d ≤ 15 → eqb m 0 ≡ eqb (mantissa_of (decimal m s) n d) 0
mantissa-zero m s n d small scale one most =
    ⊎_elim
    (λ (pos : 0 < m).
    let least : 10 ^ 15 ≤ mantissa_of (decimal m s) n d = (mantissa-digits m s n d pos small scale one most).0 in
    ne_eqb m 0 (λ e. omega arith) ∙ sym (ne_eqb (mantissa_of (decimal m s) n d) 0 (λ e. omega arith)))
    (λ (none : m ≤ 0).
    let z : m ≡ 0 = omega arith in
    eq-eqb m 0 z ∙ sym (eq-eqb (mantissa_of (decimal m s) n d) 0 (mantissa-nought (decimal m s) n d z (ten-pos s))))
    (lt-or-le 0 m)

pub scientific-nought : (z : TableSection) (v : Signed) (x : Number) → kind_of (section_of z) ≡ scientific_kind
    → v ≡ signed_of x → v.magnitude < 10 ^ 15 → v.scale ≤ 15 → eqb v.magnitude 0 ≡ shows_nought (section_of z) x
unfolding section_rounded kind_of
scientific-nought z v x k ev small scale =
    let t = z.table.passes in
    let l = z.there in
    let s : Section = section_of z in
    let n : ℕ = integer_places s.items in
    let d : ℕ = decimal_places s.items in
    mantissa-zero v.magnitude v.scale n d small scale (section-exponent _ _ t l (scientific-some s.items k)).integer (section-limits _ _ t l).decimals-most
    ∙ ap (λ m. eqb (mantissa_of m n d) 0) (exact v x ev)
    ∙ rw k at (nought-scientific s x k)

-- ---- the minus
four : (negative empty excepted held : Bool)
    → minus_told negative empty excepted held ≡ minus_of (cond (not negative) not_negative (cond empty no_item (cond excepted for_negatives (cond held nought minus))))
unfolding minus_told minus_of
four false empty excepted held = refl
four true true excepted held = refl
four true false true held = refl
four true false false true = refl
four true false false false = refl

no-item : (is : List Item) → is_empty is ≡ eqb (length is) 0
unfolding is_empty
no-item [] = refl
no-item (i ∷ is) = sym (ne_eqb (length (i ∷ is)) 0 (λ e. omega arith))

negative-is : (v : Signed) (x : Number) → v ≡ signed_of x → v.negative ≡ less_than (number_exact x) zero_exact
unfolding number_exact signed_of
negative-is v x ev = ap (λ (u : Signed). u.negative) ev ∙ sym (below-zero (number_exact x))

pub number-minus : (z : TableSection) (v : Signed) (x : Number) (why : Reason) → v ≡ signed_of x
    → choose (sections_of z.table) (number_exact x) ≡ chosen z.place (section_of z) why → {h : Head} {excepted held : Bool} {r : Minus}
    → h ≡ head_in z.table.words.now z.place
    → excepted ≡ exception_a (counted (sections_of z.table)) z.place (has_condition (section_of z)) (first_has_condition (sections_of z.table))
    → held ≡ shows_nought (section_of z) x → r ≡ minus_told v.negative (eqb h.items 0) excepted held
    → r ≡ minus_of (number_sign (sections_of z.table) z.place (section_of z) why x)
unfolding number_sign sign_for head_of
number-minus z v x why ev eo {h} {excepted} {held} eh ee en er =
    let ws : List ℕ = z.table.words.now in
    let i : ℕ = z.place in
    let s : Section = section_of z in
    let first : Bool = first_has_condition (decode ws) in
    let items : h.items ≡ length s.items = ap (λ (y : Head). y.items) eh in
    let a : excepted ≡ exception_a (counted (decode ws)) i (is_own why) first = ee ∙ chosen-exception (decode ws) (number_exact x) i s why first eo in
    er ∙ four v.negative (eqb h.items 0) excepted held ∙ rw (negative-is v x ev, items, a, en, ← no-item s.items) refl
