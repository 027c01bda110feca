-- Level 2, scientific bodies: the places, the point and the E fit exactly when NFPartScientific derives the tokens.
-- Assumes nothing.
use Prim.Native.Nat.{ℕ, suc, ◌≤◌}
use native.Mathlib.Omega.{arith}
use mathlib.Core.Path.{◌≡◌, refl, sym, ap, subst, ◌∙◌}
use mathlib.Core.Bool.{Bool, false, true≢false}
use mathlib.Core.List.{List, ◌∷◌, ◌++◌}
use Rattle.lists.specs.Lists.{any, count}
use Rattle.lists.proofs.Counts.{none-count}
use Rattle.formats.specs.Tokens.{Token, zero_place, hash_place, space_place}
use Rattle.formats.specs.Items as item
use Rattle.formats.specs.Items.{Item, scientific_kind, is_place, is_point, is_space, is_exponent, before_cut, from_cut, integer_places, decimal_places}
use Rattle.formats.specs.Kinds.{is_comma, token_makes, token_items, plain_items}
use Rattle.grammar.specs.Bodies.{Free, Side, before_point, behind_point, behind_e, NFPartScientific, scientific-free, integer-place, decimal-place, exponent-zero, exponent-number-sign, scientific-point, integers-E, decimals-E, scientific-end}
use Rattle.grammar.proofs.Quiet.{free-quiet, free-kept}
use Rattle.grammar.proofs.Plain.{View, v-free, v-comma, v-scaled-place, v-scaled-point, v-exponent, Views, v-end, v_next, has, free-has}

-- ---- what the tests of a scientific number see on each side

abbrev integers_at : Side → List Item → ℕ
integers_at before_point is = integer_places is
integers_at behind_point is = 0
integers_at behind_e is = 0

abbrev decimals_at : Side → List Item → ℕ
decimals_at before_point is = decimal_places is
decimals_at behind_point is = count is_place (before_cut is)
decimals_at behind_e is = 0

-- the items of the exponent
abbrev exponent_at : Side → List Item → List Item
exponent_at before_point is = from_cut is
exponent_at behind_point is = from_cut is
exponent_at behind_e is = is

pub record Sums : Type 0 where
  pub integers : ℕ
  pub decimals : ℕ
  pub exponents : ℕ
  pub points : ℕ
  pub marks : ℕ
  -- a point, and a `?`, in the exponent
  pub late_point : Bool
  pub late_space : Bool

abbrev pub sums : Side → List Item → Sums
sums s is =
    record {
      integers = integers_at s is;
      decimals = decimals_at s is;
      exponents = count is_place (exponent_at s is);
      points = count is_point is;
      marks = count is_exponent is;
      late_point = any is_point (exponent_at s is);
      late_space = any is_space (exponent_at s is);
    }

-- how many points may still come, and how many E must
abbrev points_left : Side → ℕ
points_left before_point = 1
points_left behind_point = 0
points_left behind_e = 0

abbrev marks_left : Side → ℕ
marks_left before_point = 1
marks_left behind_point = 1
marks_left behind_e = 0

abbrev pub Held : Side → Sums → Type 0
Held s m = (m.points ≤ points_left s) × (m.marks ≡ marks_left s) × (m.late_point ≡ false) × (m.late_space ≡ false)

by_side : (P : Side → Type 0) → P before_point → P behind_point → P behind_e → (s : Side) → P s
by_side P a b c before_point = a
by_side P a b c behind_point = b
by_side P a b c behind_e = c

-- literals, blanks and fills count for nothing
free-sums : {t : Token} (s : Side) (is : List Item) → Free t → sums s (token_items false t ++ is) ≡ sums s is
unfolding count any integer_places decimal_places before_cut from_cut
free-sums s is g =
    free-kept (sums s) false
    (λ u js. by_side (λ (r : Side). sums r (item.literal u ∷ js) ≡ sums r js) refl refl refl s)
    (λ u js. by_side (λ (r : Side). sums r (item.blank u ∷ js) ≡ sums r js) refl refl refl s)
    (λ u js. by_side (λ (r : Side). sums r (item.fill u ∷ js) ≡ sums r js) refl refl refl s) is g

-- an E among the items is one among the tokens
pub marks-has : {ts : List Token} → Views scientific_kind ts → has scientific_kind ts ≡ any is_exponent (plain_items ts)
unfolding any token_makes token_items plain_items
marks-has v-end = refl
marks-has (v_next {ts = ts} (v-free g) vs) =
    free-has scientific_kind ts g ∙ marks-has vs
    ∙ sym (free-kept (any is_exponent) false (λ u js. refl) (λ u js. refl) (λ u js. refl) (plain_items ts) g)
marks-has (v_next v-comma vs) = marks-has vs
marks-has (v_next v-scaled-place vs) = marks-has vs
marks-has (v_next v-scaled-point vs) = marks-has vs
marks-has (v_next v-exponent vs) = refl

-- ---- from the tests to the grammar

abbrev Derived : Side → Sums → List Token → Type 0
Derived s m ts = NFPartScientific s m.integers m.decimals m.exponents ts

-- an E in front leaves no point to come
at_mark : (is : List Item) → suc (count is_exponent is) ≡ 1 → any is_point is ≡ false → any is_space is ≡ false → Held behind_e (sums behind_e is)
at_mark is m a b = (omega (arith, none-count is_point is a), omega arith, a, b)

pub scientific-of : {ts : List Token} → Views scientific_kind ts → any is_comma ts ≡ false → (s : Side) → Held s (sums s (plain_items ts)) → Derived s (sums s (plain_items ts)) ts
unfolding count any integer_places decimal_places before_cut from_cut plain_items token_items
scientific-of v-end c before_point (p, m, a, b) = absurd (omega arith)
scientific-of v-end c behind_point (p, m, a, b) = absurd (omega arith)
scientific-of v-end c behind_e h = scientific-end
scientific-of (v_next {t = t} {ts = ts} (v-free g) vs) c s h =
    let e = free-sums s (plain_items ts) g in
    subst (λ (m : Sums). Derived s m (t ∷ ts)) (sym e) (scientific-free g (scientific-of vs (rw (free-quiet g).no-comma at c) s (subst (Held s) e h)))
scientific-of (v_next v-comma vs) c s h = absurd (true≢false c)
scientific-of (v_next v-scaled-place vs) c before_point h = integer-place (scientific-of vs c before_point h)
scientific-of (v_next v-scaled-place vs) c behind_point h = decimal-place (scientific-of vs c behind_point h)
scientific-of (v_next (v-scaled-place {q = zero_place}) vs) c behind_e h = exponent-zero (scientific-of vs c behind_e h)
scientific-of (v_next (v-scaled-place {q = hash_place}) vs) c behind_e h = exponent-number-sign (scientific-of vs c behind_e h)
scientific-of (v_next (v-scaled-place {q = space_place}) vs) c behind_e (p, m, a, b) = absurd (true≢false b)
scientific-of (v_next v-scaled-point vs) c before_point (p, m, a, b) = scientific-point (scientific-of vs c behind_point (omega arith, m, a, b))
scientific-of (v_next v-scaled-point vs) c behind_point (p, m, a, b) = absurd (omega arith)
scientific-of (v_next v-scaled-point vs) c behind_e (p, m, a, b) = absurd (omega arith)
scientific-of (v_next {ts = ts} v-exponent vs) c before_point (p, m, a, b) = integers-E (scientific-of vs c behind_e (at_mark (plain_items ts) m a b))
scientific-of (v_next {ts = ts} v-exponent vs) c behind_point (p, m, a, b) = decimals-E (scientific-of vs c behind_e (at_mark (plain_items ts) m a b))
scientific-of (v_next v-exponent vs) c behind_e (p, m, a, b) = absurd (omega arith)

-- ---- from the grammar to the tests

pub record Summed (s : Side) (i d x : ℕ) (ts : List Token) : Type 0 where
  pub views : Views scientific_kind ts
  pub no-commas : any is_comma ts ≡ false
  pub held : Held s (sums s (plain_items ts))
  pub integers : (sums s (plain_items ts)).integers ≡ i
  pub decimals : (sums s (plain_items ts)).decimals ≡ d
  pub exponents : (sums s (plain_items ts)).exponents ≡ x

-- a token in front, and what it makes of the sums
in-front : {r s : Side} {i d x j e y : ℕ} {t : Token} {ts : List Token} → View scientific_kind t → is_comma t ≡ false → Held r (sums r (plain_items (t ∷ ts)))
    → (sums r (plain_items (t ∷ ts))).integers ≡ j → (sums r (plain_items (t ∷ ts))).decimals ≡ e → (sums r (plain_items (t ∷ ts))).exponents ≡ y
    → Summed s i d x ts → Summed r j e y (t ∷ ts)
unfolding any
in-front v c h p q x r = record { views = v_next v r.views; no-commas = rw c r.no-commas; held = h; integers = p; decimals = q; exponents = x }

pub scientific-summed : {s : Side} {i d x : ℕ} {ts : List Token} → NFPartScientific s i d x ts → Summed s i d x ts
unfolding count any integer_places decimal_places before_cut from_cut plain_items token_items
scientific-summed {s} (scientific-free {ts = ts} g d) =
    let r = scientific-summed d in
    let e = free-sums s (plain_items ts) g in
    in-front (v-free g) (free-quiet g).no-comma (subst (Held s) (sym e) r.held)
    (ap (λ (m : Sums). m.integers) e ∙ r.integers) (ap (λ (m : Sums). m.decimals) e ∙ r.decimals) (ap (λ (m : Sums). m.exponents) e ∙ r.exponents) r
scientific-summed (integer-place d) =
    let r = scientific-summed d in in-front v-scaled-place refl r.held (ap suc r.integers) r.decimals r.exponents r
scientific-summed (decimal-place d) =
    let r = scientific-summed d in in-front v-scaled-place refl r.held r.integers (ap suc r.decimals) r.exponents r
scientific-summed (exponent-zero d) =
    let r = scientific-summed d in in-front v-scaled-place refl r.held r.integers r.decimals (ap suc r.exponents) r
scientific-summed (exponent-number-sign d) =
    let r = scientific-summed d in in-front v-scaled-place refl r.held r.integers r.decimals (ap suc r.exponents) r
scientific-summed (scientific-point d) =
    let r = scientific-summed d in
    let (p, m, a, b) = r.held in
    in-front v-scaled-point refl (omega arith, m, a, b) r.integers r.decimals r.exponents r
scientific-summed (integers-E d) =
    let r = scientific-summed d in
    let (p, m, a, b) = r.held in
    in-front v-exponent refl (omega arith, ap suc m, a, b) r.integers r.decimals r.exponents r
scientific-summed (decimals-E d) =
    let r = scientific-summed d in
    let (p, m, a, b) = r.held in
    in-front v-exponent refl (p, ap suc m, a, b) r.integers r.decimals r.exponents r
scientific-summed scientific-end =
    record { views = v-end; no-commas = refl; held = (omega arith, refl, refl, refl); integers = refl; decimals = refl; exponents = refl }
