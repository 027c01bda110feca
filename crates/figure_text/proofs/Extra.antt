-- Laws of the digits beyond the places: from the highest one used down.
-- Assumes nothing.
use mathlib.Core.Path.{◌≡◌, refl, sym, ap, ap₂, ◌∙◌}
use mathlib.Core.Bool.{Bool, false, cond, ◌&&◌}
use mathlib.Core.List.{List, [], ◌∷◌, ◌++◌}
use Prim.Native.Nat.{ℕ, zero, suc, ◌+◌, ◌-◌, ◌≤◌, ◌<◌}
use native.Mathlib.Nat.{add-zero, add-suc}
use native.Mathlib.Omega.{arith}
use borrow.Author.Tests.{le-leb, lt-leb, lt-ltb, eq-eqb, ne_eqb}
use lib.Dec.{ltb, eqb, eqb-suc-suc}
use lib.ListN.{get_or}
use Rattle.figures.specs.Digits.{digit_unit}
use Rattle.formats.specs.Tokens.{hash_place}
use Rattle.formats.specs.Text.{Context, insignificant, figure_units, extra_units, units_beyond, point_units}
use Rattle.writing.specs.Put.{Put, Rest}
use Rattle.writing.proofs.Laws.{rest-start, rest_put, rest-done}
use Rattle.figure_text.specs.declared.Figures.{Figures}
use Rattle.figure_text.specs.Shown.{FiguresAre, first_place, place_of_tag, separated, units_before}
use Rattle.figure_text.proofs.Digits.{nothing-shows, integer-idle, figure-idle, figure-digit, figures-used}

-- the first integer place is told by its digit's place, and so is that there is none
first-place : (n : ℕ) → first_place (suc n) ≡ 14 + suc n
unfolding first_place
first-place n = rw (ne_eqb (suc n) 0 (λ e. omega arith))

first-least : (n : ℕ) → 15 ≤ first_place n
unfolding first_place
first-least zero = omega arith
first-least (suc n) = omega (arith, first-place n)

first-told : (n q : ℕ) → q < 40 → ltb 0 n && eqb (suc q) (15 + n) ≡ eqb q (first_place n)
unfolding first_place
first-told zero q h = sym (ne_eqb q 40 (λ e. omega arith))
first-told (suc n) q h =
    let e : 15 + suc n ≡ suc (14 + suc n) = omega arith in
    rw (lt-ltb 0 (suc n) (omega arith), e, eqb-suc-suc q (14 + suc n)) (ap (eqb q) (sym (first-place n)))

none_told : (n : ℕ) → n ≤ 25 → eqb n 0 ≡ eqb (first_place n) 40
unfolding first_place
none_told zero h = refl
none_told (suc n) h = ne_eqb (suc n) 0 (λ e. omega arith) ∙ sym (ne_eqb (first_place (suc n)) 40 (λ e. omega (arith, first-place n)))

module _ {digits : List ℕ} {f : Figures} {c : Context} (are : FiguresAre digits f c) where
  abbrev extra : ℕ → ℕ → List ℕ
  extra q count = extra_units c.figures c.grouped q count

  -- an integer place that is not used shows nothing under `#`
  unused-shows : (q : ℕ) → 15 ≤ q → q < 40 → f.used ≤ q → figure_units c.figures c.grouped hash_place q ≡ []
  unfolding place_of_tag
  unused-shows q low h u =
      figure-idle are 5 q h refl (sym (integer-idle are q low) ∙ le-leb f.used q u) ∙ nothing-shows f.grouped q

  -- the places above those that are used
  extra-more : (q a d : ℕ) → 15 ≤ q → q + (a + d) ≤ 40 → f.used ≤ q + a → extra q (a + d) ≡ extra q a
  unfolding extra_units
  extra-more q a zero low h u = ap (extra q) (add-zero a)
  extra-more q a (suc d) low h u =
      ap (extra q) (add-suc a d)
      ∙ ap (λ (us : List ℕ). us ++ extra q (a + d)) (unused-shows (q + (a + d)) (omega arith) (omega arith) (omega arith))
      ∙ extra-more q a d low (omega arith) u

  pub extra-used : (q : ℕ) → 15 ≤ q → q ≤ 40 → extra q (40 - q) ≡ extra q (f.used - q)
  extra-used q low h =
      let most : f.used ≤ 40 = figures-used are in
      let e : 40 - q ≡ (f.used - q) + (40 - q - (f.used - q)) = omega arith in
      ap (extra q) e ∙ extra-more q (f.used - q) (40 - q - (f.used - q)) low (omega arith) (omega arith)

  pub extra-start : (l : List ℕ) (at q : ℕ) → 15 ≤ q → q ≤ 40
      → Rest l at (extra_units c.figures c.grouped q (40 - q)) l at (extra_units c.figures c.grouped q (f.used - q))
  extra-start l at q low h = rw (extra-used q low h) (rest-start l at (extra q (f.used - q)))

  -- the highest of them
  pub extra-next : (q k : ℕ) → 15 ≤ q → q < k → k ≤ f.used
      → extra q (k - q) ≡ separated f.grouped (k - 1) (digit_unit (get_or digits (k - 1) 0) ∷ []) ++ extra q (k - 1 - q)
  unfolding extra_units place_of_tag
  extra-next q k low h u =
      let most : f.used ≤ 40 = figures-used are in
      let e : k - q ≡ suc (k - 1 - q) = omega arith in
      let i : q + (k - 1 - q) ≡ k - 1 = omega arith in
      let t : insignificant c.figures (k - 1) ≡ false = sym (integer-idle are (k - 1) (omega arith)) ∙ lt-leb f.used (k - 1) (omega arith) in
      ap (extra q) e
      ∙ ap (λ (us : List ℕ). us ++ extra q (k - 1 - q))
      (ap (figure_units c.figures c.grouped hash_place) i ∙ figure-digit are 5 (k - 1) (omega arith) refl t)

  pub extra-end : (q k : ℕ) → k ≤ q → extra q (k - q) ≡ []
  unfolding extra_units
  extra-end q k h = let e : k - q ≡ 0 = omega arith in ap (extra q) e

  -- a turn of the loop, and its end
  pub extra-turn : {l m o t : List ℕ} {s at a u : ℕ} (q k : ℕ) → 15 ≤ q → q < k → k ≤ f.used → u ≡ digit_unit (get_or digits (k - 1) 0)
      → Rest l s t m at (extra_units c.figures c.grouped q (k - q))
      → Put m at (separated f.grouped (k - 1) (u ∷ [])) a o
      → Rest l s t o a (extra_units c.figures c.grouped q (k - 1 - q))
  extra-turn q k low h most e x y = rest_put (rw (extra-next q k low h most) at x) (rw e at y)

  pub extra-done : {l m t : List ℕ} {s at : ℕ} (q k : ℕ) → k ≤ q
      → Rest l s t m at (extra_units c.figures c.grouped q (k - q)) → Put l s t at m
  extra-done q k h x = rest-done (rw (extra-end q k h) at x)

  -- before the digit at q the digits from the next higher place on where it is the first integer place's, else nothing
  before-is : (q : ℕ) → q < 40 → units_before c q ≡ cond (eqb q f.first) (units_beyond c q) []
  before-is q h =
      ap (λ (b : Bool). cond b (units_beyond c q) []) (first-told c.integer_places q h ∙ ap (eqb q) (sym are.first))

  pub before-others : (q : ℕ) → q < 40 → (q ≡ f.first → ⊥) → units_before c q ≡ []
  before-others q h d = before-is q h ∙ rw (ne_eqb q f.first d)

  pub before-first : (q s : ℕ) → q < 40 → q ≡ f.first → s ≡ suc q → units_before c q ≡ extra s (40 - s)
  before-first q s h e es = before-is q h ∙ rw (eq-eqb q f.first e) (ap₂ extra (sym es) (omega arith))

  pub place-first : (q : ℕ) → q ≡ f.first → 15 ≤ q
  place-first q e = omega (arith, are.first, first-least c.integer_places)

  -- the point, with the integer digits before it and without
  none_is : eqb c.integer_places 0 ≡ eqb f.first 40
  none_is = none_told c.integer_places are.places ∙ ap (λ (q : ℕ). eqb q 40) (sym are.first)

  pub point-first : f.first ≡ 40 → point_units c ≡ extra 15 25 ++ (46 ∷ [])
  unfolding point_units
  point-first e = rw (none_is ∙ eq-eqb f.first 40 e)

  pub point-behind : (f.first ≡ 40 → ⊥) → point_units c ≡ 46 ∷ []
  unfolding point_units
  point-behind d = rw (none_is ∙ ne_eqb f.first 40 d)
