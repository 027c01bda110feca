-- Where the sections stand, told by their heads, of rows that fit.
-- Assumes nothing.
use Prim.Native.Nat.{ℕ, suc, ◌+◌, ◌/◌, ◌%◌, ◌≤◌}
use native.Mathlib.Omega.{arith}
use native.Mathlib.Numerals.{add-one}
use mathlib.Core.Path.{◌≡◌, refl, sym, ◌∙◌, ap}
use mathlib.Core.Bool.{Bool, true, false, cond, not, ◌&&◌, and-false}
use mathlib.Core.List.{List, [], ◌∷◌, map}
use lib.ListN.{length}
use lib.Dec.{T, leb, eqb, eqb→eq}
use Rattle.lists.specs.Lists.{every, first_failing, is_some}
use Rattle.lists.proofs.Bools.{by_cases, every-head, every-tail}
use Rattle.formats.specs.Items.{kind_of}
use Rattle.formats.specs.Where.{has_condition, stands_at}
use Rattle.formats.specs.WellFormed.{items_in_all}
use Rattle.formats.specs.Choice.{counted_from}
use Rattle.formats.specs.Minus.{first_has_condition, exception_a}
use Rattle.tables.specs.Words.{Row, items_said}
use Rattle.tables.specs.Encode.{kind_word, bit, flags_word, no_minus, has_half}
use Rattle.tables.specs.Decode.{items_at, condition_at, grouped_at, section_at}
use Rattle.tables.specs.Standing.{head_stands, counted_kinds}
use Rattle.tables.specs.Rules.{kind_fits, flags_fit, flags_from, row_fits}
use Rattle.tables.proofs.Words.{Counted, heads_of}
use Rattle.tables.proofs.Ranges.{head-ranges}
use Rattle.tables.proofs.Standing.{section_kind, head-stands, counted-kinds}
use Rattle.tables.proofs.Back.{row-facts}
use Rattle.tables.proofs.BackEntries.{also, span-at, items-length}
use Rattle.checking.specs.Checking.{agree, half_fits, has_in, minus_with, place_fits, places_from, kinds_in, first_has_in}

-- ---- the words of a row that fits
kind-told : (r : Row) → T (row_fits r) → kind_word (kind_of (section_at r)) ≡ r.head.kind
kind-told r t = sym (eqb→eq r.head.kind (kind_word (kind_of (section_at r))) (unfold kind_fits in (row-facts r t).kind))

has-told : (r : Row) → has_condition (section_at r) ≡ has_in r.head
unfolding section_at condition_at is_some
has-told r = by_cases (eqb r.head.operator 0) (λ e. rw e) (λ e. rw e)

-- ---- where a section stands
stands-told : (n i : ℕ) (r : Row) → T (row_fits r)
    → stands_at n i (section_at r) ≡ head_stands n i r.head.kind r.head.colour (has_in r.head)
unfolding section_at
stands-told n i r t = head-stands n i (section_at r) ∙ rw (kind-told r t, has-told r)

-- ---- the flags
-- what holds of each pair of tests
all-bits : (P : Bool → Bool → Type 0) → P true true → P true false → P false true → P false false → (m h : Bool) → P m h
all-bits P a b c d true true = a
all-bits P a b c d true false = b
all-bits P a b c d false true = c
all-bits P a b c d false false = d

abbrev BitsAt : ℕ → Bool → Bool → Type 0
BitsAt flags m h = eqb flags (flags_word (grouped_at flags) m h) ≡ (agree (leb 4 flags) h && agree (eqb (flags / 2 % 2) 1) m)

flags-bits : (flags : ℕ) (m h : Bool) → flags ≤ 7 → BitsAt flags m h
unfolding flags_word grouped_at bit
flags-bits flags m h most =
    span-at (λ (v : ℕ). (m h : Bool) → BitsAt v m h) 0 8 flags
    (also (all-bits (BitsAt 0) refl refl refl refl) (also (all-bits (BitsAt 1) refl refl refl refl)
    (also (all-bits (BitsAt 2) refl refl refl refl) (also (all-bits (BitsAt 3) refl refl refl refl)
    (also (all-bits (BitsAt 4) refl refl refl refl) (also (all-bits (BitsAt 5) refl refl refl refl)
    (also (all-bits (BitsAt 6) refl refl refl refl) (also (all-bits (BitsAt 7) refl refl refl refl) tt))))))))
    (omega arith) (omega arith) m h

flags-told : (counted i : ℕ) (first_has : Bool) (r : Row) → T (row_fits r)
    → flags_fit counted i first_has r ≡ (half_fits r && minus_with counted i (has_in r.head) first_has r.head.flags)
unfolding flags_fit half_fits no_minus section_at
flags-told counted i first_has r t =
    flags-bits r.head.flags (exception_a counted i (has_condition (section_at r)) first_has) (has_half (items_at r.entries)) (head-ranges r.head (row-facts r t).head).flags
    ∙ ap (λ (b : Bool). half_fits r && agree (eqb (r.head.flags / 2 % 2) 1) (exception_a counted i b first_has)) (has-told r)

-- ---- all sections
none-front : {A : Type 0} (f : ℕ → A → Bool) (k : ℕ) (x : A) (xs : List A)
    → not (is_some (first_failing f k (x ∷ xs))) ≡ cond (f k x) (not (is_some (first_failing f (suc k) xs))) false
unfolding first_failing is_some
none-front f k x xs = by_cases (f k x) (λ e. rw e) (λ e. rw e)

regrouped : (a h m S F H P : Bool) → (S && F) ≡ (H && P)
    → (cond a S false && ((h && m) && F)) ≡ (cond h H false && cond (a && m) P false)
regrouped true true true S F H P e = e
regrouped true true false S F H P e = and-false S ∙ sym (and-false H)
regrouped true false m S F H P e = and-false S
regrouped false true m S F H P e = sym (and-false H)
regrouped false false m S F H P e = refl

module _ (n counted : ℕ) (first_has : Bool) where
  pub places_same : (i : ℕ) (rs : List Row) → T (every row_fits rs)
      → (not (is_some (first_failing (stands_at n) i (map section_at rs))) && flags_from counted i first_has rs)
      ≡ (every half_fits rs && places_from n counted first_has i (heads_of rs))
  unfolding flags_from every places_from heads_of place_fits
  places_same i [] t = unfold first_failing is_some in refl
  places_same i (r ∷ rs) t =
      let here : T (row_fits r) = every-head row_fits r rs t in
      let later : (not (is_some (first_failing (stands_at n) (suc i) (map section_at rs))) && flags_from counted (suc i) first_has rs)
      ≡ (every half_fits rs && places_from n counted first_has (i + 1) (heads_of rs)) =
      places_same (suc i) rs (every-tail row_fits r rs t)
      ∙ ap (λ (k : ℕ). every half_fits rs && places_from n counted first_has k (heads_of rs)) (sym (add-one i)) in
      rw (none-front (stands_at n) i (section_at r) (map section_at rs), stands-told n i r here, flags-told counted i first_has r here)
      (regrouped (head_stands n i r.head.kind r.head.colour (has_in r.head)) (half_fits r) (minus_with counted i (has_in r.head) first_has r.head.flags)
      (not (is_some (first_failing (stands_at n) (suc i) (map section_at rs)))) (flags_from counted (suc i) first_has rs) (every half_fits rs) (places_from n counted first_has (i + 1) (heads_of rs)) later)

-- ---- N, the first condition, and how many sections and items there are
kinds-told : (rs : List Row) → T (every row_fits rs) → map section_kind (map section_at rs) ≡ kinds_in (heads_of rs)
unfolding heads_of
kinds-told [] t = refl
kinds-told (r ∷ rs) t = rw (kind-told r (every-head row_fits r rs t), kinds-told rs (every-tail row_fits r rs t))

pub counted-told : (rs : List Row) → T (every row_fits rs) → counted_from 0 (map section_at rs) ≡ counted_kinds 0 (kinds_in (heads_of rs))
counted-told rs t = counted-kinds 0 (map section_at rs) ∙ ap (counted_kinds 0) (kinds-told rs t)

pub first-told : (rs : List Row) → first_has_condition (map section_at rs) ≡ first_has_in (heads_of rs)
unfolding first_has_condition first_has_in heads_of
first-told [] = refl
first-told (r ∷ rs) = has-told r

pub items-said : (rs : List Row) → Counted rs → items_in_all (map section_at rs) ≡ items_said (heads_of rs)
unfolding items_in_all items_said heads_of section_at
items-said [] c = refl
items-said (r ∷ rs) c = rw (items-said rs c.1, items-length r.entries, c.0)

pub sections-said : (rs : List Row) → length (map section_at rs) ≡ length (heads_of rs)
unfolding heads_of
sections-said [] = refl
sections-said (r ∷ rs) = ap suc (sections-said rs)
