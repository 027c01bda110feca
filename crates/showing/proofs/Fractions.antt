-- A number in a fraction section: what its item words say of the fraction.
-- Assumes nothing.
use Prim.Native.Nat.{ℕ, zero, suc, ◌/◌, ◌^◌, ◌≤◌, ◌<◌}
use native.Mathlib.Omega.{arith}
use mathlib.Core.Path.{◌≡◌, refl, sym, ap, subst, ◌∙◌}
use mathlib.Core.Bool.{Bool, true, false, ◌&&◌, true≢false}
use mathlib.Core.List.{List, [], ◌∷◌, ◌++◌}
use lib.Dec.{T, eqb}
use lib.ListN.{length, get_or, take, drop}
use lib.Seq.{get_or-drop}
use borrow.Author.Tests.{ne_eqb}
use Rattle.values.specs.declared.Number.{Number}
use Rattle.lists.specs.Lists.{any, count}
use Rattle.lists.proofs.Bools.{by_cases, and_left, and_right, not_so, T_true, every-head, every-tail}
use Rattle.lists.proofs.Counts.{positive-count}
use Rattle.figures.specs.declared.Signed.{Signed}
use Rattle.figures.specs.Sign.{signed_of}
use Rattle.exponents.specs.Exponent.{decimal}
use Rattle.fractions.specs.declared.Mixed.{Mixed}
use Rattle.fractions.specs.Fractions.{over, nearest_fraction, fraction_of, mixed_exactly}
use Rattle.fractions.proofs.Telling.{TellsSmall, nearest-tells-small, over-tells-small}
use Rattle.formats.specs.Items.{Item, solidus, fixed, half, item_in_range, Section, fraction_kind, kind_of, is_place, is_solidus, is_fixed, before_cut, from_cut, before_end, places_behind, denominator_fits, whole_items}
use Rattle.formats.specs.Reading.{fixed_in, fraction_for, is_parted, section_fraction, places_nought, number_exactly}
use Rattle.formats.proofs.ByNumber.{by_number}
use Rattle.formats.proofs.Cutting.{cut-joins, cut-any, every-from, no-exponent, solidus-cut}
use Rattle.tables.specs.Words.{entries_at, entries_in}
use Rattle.tables.specs.Encode.{entry}
use Rattle.tables.specs.Decode.{half_at, item_at, items_at, items_by_tag}
use Rattle.tables.proofs.BackEntries.{between-facts, items-ranged}
use Rattle.table_words.specs.declared.TableSection.{TableSection}
use Rattle.table_words.specs.Tabled.{section_of}
use Rattle.table_words.specs.Sections.{ItemsOf}
use Rattle.table_words.proofs.Bodies.{section-allowed, section-limits}
use Rattle.table_words.specs.Runs.{items_in, CutAt}
use Rattle.formats.proofs.Exactness.{exactly-fraction}
use Rattle.section_text.specs.Show.{fraction_reading}
use Rattle.fraction_sections.proofs.Parts.{section-rules}
use Rattle.planning.specs.Minus.{minus_in}
use Rattle.planning.specs.Plan.{fraction_shown}
use Rattle.planning.proofs.Numbers.{exact}

-- ---- the fixed number, where what stands before it has none
fixed-behind : (is js : List Item) → any is_fixed is ≡ false → fixed_in (is ++ js) ≡ fixed_in js
unfolding fixed_in any
fixed-behind [] js none = refl
fixed-behind (i ∷ is) js none = by_cases (is_fixed i) (λ e. absurd (true≢false (rw e at none))) (λ e. rw e (fixed-behind is js (rw e at none)))

fixed-tag : (t a : ℕ) → is_fixed (item_at (entry t a)) ≡ eqb t 25
unfolding item_at
fixed-tag t a =
    by_number is_fixed (λ (n : ℕ). eqb n 25) (items_by_tag a) 26 (half (half_at a)) refl
    (λ n h. sym (ne_eqb n 25 (λ e. omega arith))) t

-- the second of the items in words
second-entry : (n : ℕ) (ws : List ℕ) (i j : Item) (js : List Item) → items_at (entries_at n ws) ≡ i ∷ j ∷ js
    → (2 ≤ n) × (item_at (entry (get_or ws 2 0) (get_or ws 3 0)) ≡ j)
unfolding entries_at items_at
second-entry zero ws i j js e = absurd (omega (arith, ap length e))
second-entry (suc zero) ws i j js e = absurd (omega (arith, ap length e))
second-entry (suc (suc n)) ws i j js e = (omega arith, rw (← get_or-drop 2 ws 0 0, ← get_or-drop 2 ws 1 0) cc)

-- ---- what stands directly behind the solidus: a fixed number, or a place
record Below (is : List Item) : Type 0 where
  pub first : Item
  pub rest : List Item
  pub from : from_cut is ≡ solidus ∷ first ∷ rest
  pub fits : T (denominator_fits (first ∷ rest))
  pub no_fixed : any is_fixed (before_cut is) ≡ false

below : (is js : List Item) → any is_fixed (before_cut is) ≡ false → from_cut is ≡ solidus ∷ js → T (denominator_fits js) → Below is
unfolding denominator_fits
below is [] n e t = absurd t
below is (j ∷ js) n e t = record { first = j; rest = js; from = e; fits = t; no_fixed = n }

module _ {is : List Item} (b : Below is) where
  below-fixed : (a : ℕ) → b.first ≡ fixed a → (any is_fixed is ≡ true) × (fixed_in is ≡ a)
  unfolding any fixed_in
  below-fixed a e =
      (cut-any is_fixed is ∙ rw (b.no_fixed, b.from, e), sym (ap fixed_in (cut-joins is)) ∙ fixed-behind (before_cut is) (from_cut is) b.no_fixed ∙ rw (b.from, e))

  below-places : is_fixed b.first ≡ false → (any is_fixed is ≡ false) × (1 ≤ places_behind is)
  unfolding any denominator_fits places_behind count
  below-places e =
      let u = rw e at b.fits in
      let p : is_place b.first ≡ true = T_true (is_place b.first) (search (and_left, and_right)) in
      let n : any is_fixed b.rest ≡ false = not_so (any is_fixed b.rest) (search (and_left, and_right)) in
      (cut-any is_fixed is ∙ rw (b.no_fixed, b.from, e, n), rw (b.from, p) (omega arith))

-- ---- what the words of a fraction section's items say, cut at the solidus
abbrev Fixes : List Item → ℕ → Type 0
Fixes is a = (any is_fixed is ≡ true) × (fixed_in is ≡ a) × (1 ≤ a) × (a ≤ 999)

pub record FractionWords (s : Section) (before from : List ℕ) : Type 0 where
  pub inside : 4 ≤ length from
  pub parted : any is_place (before_end (items_in before)) ≡ is_parted s.items
  pub fixed : get_or from 2 0 ≡ 25 → Fixes s.items (get_or from 3 0)
  pub unfixed : (get_or from 2 0 ≡ 25 → ⊥) → (any is_fixed s.items ≡ false) × (1 ≤ places_behind s.items)
  pub places : count is_place (items_in from) ≡ places_behind s.items
  pub few : places_behind s.items ≤ 3

module _ (z : TableSection) (k : kind_of (section_of z) ≡ fraction_kind) where
  has-solidus : any is_solidus (section_of z).items ≡ true
  has-solidus = sym (positive-count is_solidus (section_of z).items) ∙ rw (section-rules _ _ z.table.passes z.there k).one

  section-below : Below (section_of z).items
  section-below =
      let is : List Item = (section_of z).items in
      let rules = section-rules _ _ z.table.passes z.there k in
      let c = solidus-cut is (no-exponent (kind_of (section_of z)) is (rw k) (section-allowed _ _ z.table.passes z.there)) has-solidus in
      below is c.behind rules.no_fixed c.from (rw c.from at rules.denominator)

  module _ {words : List ℕ} (o : ItemsOf (section_of z) words) {start : ℕ}
      (c : CutAt words start (before_cut (items_in words)) (from_cut (items_in words)))
      {before from : List ℕ} (eb : before ≡ take start words) (ef : from ≡ drop start words) where
    words-below : Below (items_in words)
    words-below = subst Below o.items section-below

    abbrev tag : ℕ
    tag = get_or from 2 0

    abbrev argument : ℕ
    argument = get_or from 3 0

    from-items : items_in from ≡ from_cut (items_in words)
    from-items = ap items_in ef ∙ c.from

    first-words : (4 ≤ length from) × (item_at (entry tag argument) ≡ words-below.first)
    unfolding entries_in
    first-words =
        let e = second-entry (length from / 2) from solidus words-below.first words-below.rest (from-items ∙ words-below.from) in
        (omega (arith, e.0), e.1)

    first-fixed : tag ≡ 25 → words-below.first ≡ fixed argument
    unfolding item_at
    first-fixed f = sym first-words.1 ∙ rw f

    first_range : tag ≡ 25 → (1 ≤ argument) × (argument ≤ 999)
    unfolding item_in_range
    first_range f =
        let b = words-below in
        let all = rw b.from at (every-from item_in_range (items_in words) (items-ranged (entries_in words) o.in_range)) in
        let one = every-head item_in_range b.first b.rest (every-tail item_in_range solidus (b.first ∷ b.rest) all) in
        between-facts 1 999 argument (rw (first-fixed f) at one)

    pub fraction_words : FractionWords (section_of z) before from
    unfolding is_parted whole_items places_behind
    fraction_words =
        record {
          inside = first-words.0;
          parted = rw (eb, c.before, has-solidus, o.items);
          fixed = λ f. let b = rw (← o.items) at (below-fixed words-below argument (first-fixed f)) in (b.0, b.1, (first_range f).0, (first_range f).1);
          unfixed = λ f. rw o.items (below-places words-below (sym (ap is_fixed first-words.1) ∙ fixed-tag tag argument ∙ ne_eqb tag 25 f));
          places = rw (from-items, o.items);
          few = (section-limits _ _ z.table.passes z.there).exponents-most;
        }

pub places-range : {s : Section} {before from : List ℕ} {places : ℕ} → FractionWords s before from → (get_or from 2 0 ≡ 25 → ⊥)
    → places ≡ count is_place (items_in from) → (1 ≤ places) × (places ≤ 3)
places-range w f e = omega (arith, e, w.places, (w.unfixed f).1, w.few)

-- how large the fraction is
abbrev Small : Mixed → Type 0
Small r = (r.whole ≤ 10 ^ 15) × (r.above < 10 ^ 19) × (1 ≤ r.below) × (r.below ≤ 999)

tells-small : {r q : Mixed} → r ≡ q → TellsSmall q → Small r
tells-small e s = rw e (s.whole, omega (arith, s.above), s.from, s.up_to)

-- the fraction that the code finds
module _ {s : Section} {before from : List ℕ} (w : FractionWords s before from) (v : Signed) (h : v.magnitude < 10 ^ 15) {r : Mixed} {parted : Bool}
    (ep : parted ≡ any is_place (before_end (items_in before))) where
  pub fixed-is : get_or from 2 0 ≡ 25 → r ≡ fraction_of parted (over (get_or from 3 0)) (decimal v.magnitude v.scale)
      → ((x : Number) → v ≡ signed_of x → r ≡ section_fraction s x) × Small r
  unfolding section_fraction fraction_for fraction_of
  fixed-is f er =
      let b = w.fixed f in (
        λ x ev. er ∙ ap (fraction_of parted (over (get_or from 3 0))) (exact v x ev) ∙ rw (ep ∙ w.parted, b.0, b.1),
        tells-small er (over-tells-small parted v.magnitude v.scale h (get_or from 3 0) b.2 b.3),
      )

  pub places_is : {places : ℕ} → (get_or from 2 0 ≡ 25 → ⊥) → places ≡ count is_place (items_in from)
      → r ≡ fraction_of parted (nearest_fraction places) (decimal v.magnitude v.scale)
      → ((x : Number) → v ≡ signed_of x → r ≡ section_fraction s x) × Small r
  unfolding section_fraction fraction_for fraction_of
  places_is {places} f e er =
      let n = places-range w f e in (
        λ x ev. er ∙ ap (fraction_of parted (nearest_fraction places)) (exact v x ev) ∙ rw (ep ∙ w.parted, e ∙ w.places, (w.unfixed f).0),
        tells-small er (nearest-tells-small parted v.magnitude v.scale h places n.0 n.1),
      )

-- it is the number itself where the section is exact
pub fraction-exactly : {f : Mixed} {b : Bool} (s : Section) (v : Signed) (x : Number) → v ≡ signed_of x → kind_of s ≡ fraction_kind → f ≡ section_fraction s x
    → b ≡ mixed_exactly (decimal v.magnitude v.scale) f → b ≡ number_exactly s x
fraction-exactly s v x ev k ef e = e ∙ rw (exact v x ev, ef) (sym (exactly-fraction s x k))

-- the reading, with the minus as the code finds it: what is shown is nought where the whole number and the numerator are
pub fraction-minus : (z : TableSection) (negative : Bool) (x : Number) {minus b : Bool} {f : Mixed}
    → minus ≡ minus_in z negative (eqb f.whole 0 && eqb f.above 0) → kind_of (section_of z) ≡ fraction_kind
    → f ≡ section_fraction (section_of z) x → b ≡ number_exactly (section_of z) x → (size : ℕ)
    → fraction_shown z negative x size ≡ fraction_reading size (section_of z) z.place minus b f
unfolding places_nought
fraction-minus z negative x em k ef ee size = rw (em, ee, ef, k)
