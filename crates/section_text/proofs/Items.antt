-- The text of an item by its tag, in a section that holds it.
-- Assumes nothing.
use Prim.Native.Nat.{ℕ, suc, ◌-◌, ◌≤◌, ◌<◌}
use native.Mathlib.Omega.{arith}
use mathlib.Core.Path.{◌≡◌, refl, sym}
use mathlib.Core.Bool.{Bool, true, false}
use mathlib.Core.List.{List}
use lib.Dec.{T, leb, eqb, eqb→eq}
use borrow.Author.Tests.{le-leb, leb-false}
use Rattle.lists.proofs.Bools.{no, by_cases}
use Rattle.values.specs.Ranges.{between}
use Rattle.formats.specs.Items.{point, Kind, date_kind, scientific_kind, fraction_kind, same_kind, shows_places, item_allowed}
use Rattle.formats.specs.Text.{Context, item_units, place_units}
use Rattle.formats.proofs.Each.{by_kind}
use Rattle.tables.specs.Encode.{entry}
use Rattle.tables.specs.Decode.{item_at}
use Rattle.tables.specs.Rules.{entry_in_range}
use Rattle.tables.proofs.BackEntries.{span-at, tag-known, between-facts}
use Rattle.figures.proofs.Past.{Apart, past}
use Rattle.figure_text.specs.declared.Figures.{Figures}
use Rattle.figure_text.specs.Shown.{FiguresAre, place_of_tag}
use Rattle.writing.specs.Put.{Put}
use Rattle.section_text.specs.declared.Subject.{Subject}
use Rattle.section_text.specs.Subject.{GeneralOf, StandsFor, SubjectIs}
use Rattle.section_text.specs.Walk.{EntryFits}

pub stands-lent : (b : Bool) (digits : List ℕ) (f : Figures) (text us : List ℕ) → b ≡ true → StandsFor b digits f text us → text ≡ us
stands-lent true digits f text us e h = h
stands-lent false digits f text us e h = no e

pub stands-general : (b : Bool) (digits : List ℕ) (f : Figures) (text us : List ℕ) → b ≡ false → StandsFor b digits f text us → GeneralOf digits f us
stands-general true digits f text us e h = no (sym e)
stands-general false digits f text us e h = h

-- a place, in a section that holds it
module _ (tag a : ℕ) (b : (4 ≤ tag) × (tag ≤ 6)) where
  pub place-argument : T (entry_in_range (entry tag a)) → (1 ≤ a) × (a ≤ 35)
  unfolding entry_in_range item_at
  place-argument =
      span-at (λ (t : ℕ). T (entry_in_range (entry t a)) → (1 ≤ a) × (a ≤ 35)) 4 3 tag
      (between-facts 1 35 a, (between-facts 1 35 a, (between-facts 1 35 a, tt))) b.0 (omega arith)

  -- its argument is one more than its digit, and it is held where places are shown
  pub place-power : (k : Kind) (q : ℕ) → EntryFits k q (entry tag a) → a ≡ suc q
  unfolding item_at
  place-power k q =
      let at : T (eqb a (suc q)) → a ≡ suc q = eqb→eq a (suc q) in
      span-at (λ (t : ℕ). EntryFits k q (entry t a) → a ≡ suc q) 4 3 tag
      ((λ f. at f.power), ((λ f. at f.power), ((λ f. at f.power), tt))) b.0 (omega arith)

  place-held : (k : Kind) (q : ℕ) → EntryFits k q (entry tag a) → T (shows_places k)
  unfolding item_at item_allowed
  place-held k q =
      span-at (λ (t : ℕ). EntryFits k q (entry t a) → T (shows_places k)) 4 3 tag
      ((λ f. f.allowed), ((λ f. f.allowed), ((λ f. f.allowed), tt))) b.0 (omega arith)

  pub place-units : (c : Context) (q : ℕ) → item_units c q (item_at (entry tag a)) ≡ place_units c (place_of_tag tag) q
  unfolding item_units item_at place_of_tag
  place-units c q =
      span-at (λ (t : ℕ). item_units c q (item_at (entry t a)) ≡ place_units c (place_of_tag t) q) 4 3 tag
      (refl, (refl, (refl, tt))) b.0 (omega arith)

  pub place-put : {old out digits text : List ℕ} {at r : ℕ} {s : Subject} {c : Context} (k : Kind) (q : ℕ) → SubjectIs k digits s text c
      → EntryFits k q (entry tag a)
      → ((x : Context) → FiguresAre digits s.figures x → Put old at (place_units x (place_of_tag tag) (a - 1)) r out)
      → Put old at (item_units c q (item_at (entry tag a))) r out
  place-put {c = c} k q i f put =
      let e : a - 1 ≡ q = omega (arith, place-power k q f) in rw (place-units c q) (rw e at (put c (i.numeric (place-held k q f))))

-- a section that holds a point shows places
pub point-held : (k : Kind) → T (item_allowed k point) → T (shows_places k)
unfolding item_allowed
point-held = by_kind (λ (k : Kind). T (item_allowed k point) → T (shows_places k)) absurd absurd absurd (λ t. tt) absurd (λ t. tt) absurd

-- a tag that is none of the first ten, no place's and none that the arms of a `match` have beside them, is one of a date-time section, an E's, or
-- a fraction's
pub late-other : (k : Kind) (q tag a : ℕ) → T (entry_in_range (entry tag a)) → between 4 6 tag ≡ false
    → (((Apart tag 1 3 × (¬ (tag ≡ 7))) × (¬ (tag ≡ 8))) × (¬ (tag ≡ 9))) × (¬ (tag ≡ 10)) → EntryFits k q (entry tag a)
    → same_kind date_kind k ≡ false → same_kind scientific_kind k ≡ false → same_kind fraction_kind k ≡ false → ⊥
unfolding item_at item_allowed
late-other k q tag a t e o f undated unscientific unfractional =
    let known = tag-known (entry tag a) t in
    let low = past tag 1 3 known.0 o.0.0.0.0 in
    let high : 6 < tag = by_cases (leb tag 6) (λ h. no (sym (rw (le-leb 4 tag low, h) at e))) (λ h. leb-false tag 6 h) in
    let late = past-ten tag high o.0.0.0.1 o.0.0.1 o.0.1 o.1 in
    let d : T (same_kind date_kind k) → ⊥ = λ h. rw undated at h in
    let x : T (same_kind scientific_kind k) → ⊥ = λ h. rw unscientific at h in
    let y : T (same_kind fraction_kind k) → ⊥ = λ h. rw unfractional at h in
    span-at (λ (t : ℕ). T (item_allowed k (item_at (entry t a))) → ⊥) 11 15 tag
    (d, (d, (d, (d, (d, (d, (d, (d, (d, (d, (d, (x, (x, (y, (y, tt))))))))))))))) late (omega (arith, known.1)) f.allowed
  where
    past-ten : (n : ℕ) → 6 < n → ¬ (n ≡ 7) → ¬ (n ≡ 8) → ¬ (n ≡ 9) → ¬ (n ≡ 10) → 11 ≤ n
    past-ten n h a b c d = omega arith
