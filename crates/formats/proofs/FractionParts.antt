-- The parts of a fraction section's items (R132, R134): what the rules for a fraction say of the integer part, the numerator and what is below.
-- Assumes nothing.
use mathlib.Core.Path.{◌≡◌, refl, sym, ap, ◌∙◌}
use Prim.Native.Nat.{ℕ, ◌≤◌}
use native.Mathlib.Omega.{arith}
use mathlib.Core.Bool.{Bool, true, false, not, ◌&&◌, ◌||◌, true≢false}
use mathlib.Core.List.{List, [], ◌∷◌, ◌++◌}
use borrow.Author.Tests.{lt-ltb}
use lib.Dec.{T, leb, leb→le, eqb→eq}
use Rattle.lists.specs.Lists.{every, any, count, is_empty}
use Rattle.lists.proofs.Bools.{by_cases, carry, and_left, and_right, every-head, every-tail, implied, true-T, T_true}
use Rattle.lists.proofs.Counts.{every-both, any-either, any-count, any_same, positive-count}
use Rattle.formats.specs.Tokens.{Place}
use Rattle.formats.specs.Items.{Item, literal, blank, fill, place, solidus, fixed, Section, fraction_kind, kind_of, item_makes, items_kind, item_allowed, item_in_range, items_fit, is_place, is_point, is_solidus, is_fixed, before_cut, from_cut, integer_places, places_behind, end_places, start_places, behind_start, numerator_items, whole_items, main_items, denominator_fits, fraction_fits}
use Rattle.formats.specs.Limits.{section_within}
use Rattle.formats.specs.WellFormed.{section_formed, section_fits}
use Rattle.formats.specs.Reading.{fixed_in}
use Rattle.formats.proofs.Each.{by-item}
use Rattle.formats.proofs.FigureItems.{item-case}
use Rattle.formats.proofs.Cutting.{cut-count, every-from, whole-joins, cut-any, cut-joins, Solidus, solidus-cut, none_passes, no-exponent, made_some, FractionRules, fraction-rules}

-- what holds of each place holds of what is a place
pub place-case : (P : Item → Type 0) → ((p : Place) → P (place p)) → (i : Item) → T (is_place i) → P i
place-case P f =
    item-case (λ (i : Item). T (is_place i) → P i) (λ p t. f p) absurd (λ m. absurd) absurd (λ i not_place not_point not_e other t. absurd (rw not_place at t))

-- what holds of each item that a fraction section may hold
pub held-case : (P : Item → Type 0) → ((u : ℕ) → P (literal u)) → ((u : ℕ) → P (blank u)) → ((u : ℕ) → P (fill u)) → ((p : Place) → P (place p))
    → P solidus → ((n : ℕ) → P (fixed n)) → (i : Item) → T (item_allowed fraction_kind i) → P i
unfolding item_allowed
held-case P l b f p s n =
    by-item (λ (i : Item). T (item_allowed fraction_kind i) → P i) (λ u t. l u) (λ u t. b u) (λ u t. f u) (λ q t. p q) absurd absurd absurd absurd
    (λ n. absurd) (λ n. absurd) (λ n. absurd) (λ n. absurd) (λ n. absurd) (λ n. absurd) (λ n. absurd) (λ e n. absurd) (λ h. absurd) (λ m. absurd)
    (λ t. s) (λ d t. n d)

pub no-point : (is : List Item) → T (every (item_allowed fraction_kind) is) → any is_point is ≡ false
no-point =
    none_passes is_point (item_allowed fraction_kind)
    (held-case (λ (i : Item). is_point i ≡ false) (λ u. refl) (λ u. refl) (λ u. refl) (λ p. refl) refl (λ n. refl))

-- what holds of all items holds of parts of them
pub every-parts : (f : Item → Bool) {is : List Item} (xs ys : List Item) → xs ++ ys ≡ is → T (every f is) → T (every f xs) × T (every f ys)
every-parts f xs ys e t =
    let both : T (every f xs && every f ys) = carry (ap (every f) (sym e) ∙ every-both f xs ys) t in
    (and_left (every f xs) (every f ys) both, and_right (every f xs) (every f ys) both)

-- what no place is, none of a run of places is
pub places-none : (f : Item → Bool) → ((p : Place) → f (place p) ≡ false) → (is : List Item) → T (every is_place is) → any f is ≡ false
places-none f h = none_passes f is_place (place-case (λ (i : Item). f i ≡ false) h)

-- runs of places at the end and at the start
end-places : (is : List Item) → T (every is_place (end_places is))
unfolding end_places every
end-places [] = tt
end-places (i ∷ is) = by_cases (every is_place (i ∷ is)) (λ e. rw (e, e) tt) (λ e. rw e (end-places is))

pub numerator-places : (is : List Item) → T (every is_place (numerator_items is))
unfolding numerator_items
numerator-places is = end-places (before_cut is)

pub start-places : (is : List Item) → T (every is_place (start_places is))
unfolding start_places every
start-places [] = tt
start-places (i ∷ is) = by_cases (is_place i) (λ e. rw (e, e) (start-places is)) (λ e. rw e tt)

pub start-joins : (is : List Item) → start_places is ++ behind_start is ≡ is
unfolding start_places behind_start
start-joins [] = refl
start-joins (i ∷ is) = by_cases (is_place i) (λ e. rw e (ap (λ (js : List Item). i ∷ js) (start-joins is))) (λ e. rw e)

-- a run of places that is not empty has one
run-some : (is : List Item) → T (every is_place is) → is_empty is ≡ false → any is_place is ≡ true
unfolding any is_empty
run-some [] t some = absurd (true≢false some)
run-some (i ∷ is) t some = rw (T_true (is_place i) (every-head is_place i is t))

-- integer places stand before the solidus
integers-solidus : (is js : List Item) → integer_places (is ++ (solidus ∷ js)) ≡ integer_places is
unfolding integer_places
integers-solidus [] js = refl
integers-solidus (i ∷ is) js = rw (integers-solidus is js)

main-parts : (is : List Item) (c : Solidus is) → any is_solidus is ≡ true → main_items is ≡ numerator_items is ++ (solidus ∷ c.behind)
unfolding main_items
main-parts is c some = rw (some, c.from)

-- what stands behind the solidus: a fixed number or places, and then neither of them
pub data Denominator : List Item → Type 0 where
  fixed_below : (n : ℕ) (is : List Item) → any is_place is ≡ false → any is_fixed is ≡ false → Denominator (fixed n ∷ is)
  places_below : (p : Place) (is : List Item) → any is_place (behind_start is) ≡ false → any is_fixed is ≡ false → Denominator (place p ∷ is)

neither : (a b : Bool) → T (not a && not b) → (a ≡ false) × (b ≡ false)
neither true b t = absurd t
neither false true t = absurd t
neither false false t = (refl, refl)

denominator : (is : List Item) → T (denominator_fits is) → Denominator is
unfolding denominator_fits
denominator [] = absurd
denominator (i ∷ is) =
    by-item (λ (j : Item). T (denominator_fits (j ∷ is)) → Denominator (j ∷ is)) (λ u. absurd) (λ u. absurd) (λ u. absurd)
    (λ p t. let none = neither (any is_place (behind_start is)) (any is_fixed is) t in places_below p is none.0 none.1)
    absurd absurd absurd absurd
    (λ n. absurd) (λ n. absurd) (λ n. absurd) (λ n. absurd) (λ n. absurd) (λ n. absurd) (λ n. absurd) (λ e n. absurd) (λ h. absurd) (λ m. absurd)
    absurd (λ n t. let none = neither (any is_place is) (any is_fixed is) t in fixed_below n is none.0 none.1) i

-- the fixed number stands behind the solidus
fixed_later : (is js : List Item) → any is_fixed is ≡ false → fixed_in (is ++ js) ≡ fixed_in js
unfolding fixed_in any
fixed_later [] js none = refl
fixed_later (i ∷ is) js none =
    by_cases (is_fixed i) (λ e. absurd (true≢false (rw e at none))) (λ e. rw e (fixed_later is js (rw e at none)))

fixed-behind : (is : List Item) (c : Solidus is) → any is_fixed (before_cut is) ≡ false
    → (any is_fixed is ≡ any is_fixed c.behind) × (fixed_in is ≡ fixed_in c.behind)
unfolding any fixed_in
fixed-behind is c none =
    (cut-any is_fixed is ∙ rw (none, c.from), sym (ap fixed_in (cut-joins is)) ∙ fixed_later (before_cut is) (from_cut is) none ∙ rw c.from)

makes-fraction : (i : Item) → item_makes fraction_kind i ≡ (is_solidus i || is_fixed i)
unfolding item_makes
makes-fraction =
    by-item (λ (i : Item). item_makes fraction_kind i ≡ (is_solidus i || is_fixed i)) (λ u. refl) (λ u. refl) (λ u. refl) (λ p. refl) refl refl refl refl
    (λ n. refl) (λ n. refl) (λ n. refl) (λ n. refl) (λ n. refl) (λ n. refl) (λ n. refl) (λ e n. refl) (λ h. refl) (λ m. refl)
    refl (λ n. refl)

-- the fixed number is in range
abbrev InRange : ℕ → Type 0
InRange n = (1 ≤ n) × (n ≤ 999)

fixed-range : (is : List Item) → Denominator is → T (every item_in_range is) → any is_fixed is ≡ true → InRange (fixed_in is)
unfolding any fixed_in item_in_range
fixed-range _ (fixed_below n is no_place no_fixed) t some =
    let here : T (leb 1 n && leb n 999) = every-head item_in_range (fixed n) is t in
    (leb→le 1 n (and_left (leb 1 n) (leb n 999) here), leb→le n 999 (and_right (leb 1 n) (leb n 999) here))
fixed-range _ (places_below p is no_place no_fixed) t some = absurd (true≢false (sym some ∙ no_fixed))

-- without a fixed number there is a place below
some_below_lem : (is : List Item) → Denominator is → any is_fixed is ≡ false → 1 ≤ count is_place is
unfolding any count
some_below_lem _ (fixed_below n is no_place no_fixed) e = absurd (true≢false e)
some_below_lem _ (places_below p is no_place no_fixed) e = omega arith

-- what is known of the items of a fraction section
pub record FractionItems (is : List Item) : Type 0 where
  pub whole_held : T (every (item_allowed fraction_kind) (whole_items is))
  pub main_held : T (every (item_allowed fraction_kind) (main_items is))
  pub parts : Solidus is
  pub main : main_items is ≡ numerator_items is ++ (solidus ∷ parts.behind)
  pub one : any is_solidus parts.behind ≡ false
  pub numerator : any is_place (numerator_items is) ≡ true
  pub fixed_behind : (any is_fixed is ≡ any is_fixed parts.behind) × (fixed_in is ≡ fixed_in parts.behind)
  pub below : Denominator parts.behind
  pub integers : integer_places (whole_items is) ≤ 20
  pub numerators : integer_places (numerator_items is) ≤ 20
  pub places : places_behind is ≡ count is_place parts.behind
  pub denominators : count is_place parts.behind ≤ 3
  pub some_below : any is_fixed is ≡ false → 1 ≤ places_behind is
  pub range : any is_fixed is ≡ true → InRange (fixed_in is)

-- a fraction section has a solidus, and one alone
fraction-some : (is : List Item) → items_kind is ≡ fraction_kind → T (fraction_fits is) → any is_solidus is ≡ true
unfolding fraction_fits
fraction-some is kind fits =
    let made = sym (any-either is_solidus is_fixed is) ∙ sym (any_same (item_makes fraction_kind) _ makes-fraction is) ∙ made_some fraction_kind is refl kind in
    let all = implied (any is_solidus is || any is_fixed is) _ fits (true-T made) in
    let one : count is_solidus is ≡ 1 = search (and_left, and_right, eqb→eq) depth 16 in
    sym (positive-count is_solidus is) ∙ lt-ltb 0 (count is_solidus is) (omega (arith, one))

one-solidus : (is : List Item) (c : Solidus is) → count is_solidus is ≡ 1 → any is_solidus c.behind ≡ false
unfolding count
one-solidus is c one =
    by_cases (any is_solidus c.behind)
    (λ e. absurd (omega (arith, any-count is_solidus c.behind e, cut-count is_solidus is, ap (count is_solidus) c.from, one))) (λ e. e)

places_behind_lem : (is : List Item) (c : Solidus is) → places_behind is ≡ count is_place c.behind
unfolding places_behind count
places_behind_lem is c = ap (count is_place) c.from

pub fraction-items : (s : Section) → kind_of s ≡ fraction_kind → T (section_formed s) → FractionItems s.items
unfolding section_formed section_fits section_within items_fit kind_of
fraction-items s kind formed =
    let is : List Item = s.items in
    let fits : T (fraction_fits is) = search (and_left, and_right) depth 16 in
    let ranges : T (every item_in_range is) = search (and_left, and_right) depth 16 in
    let held : T (every (item_allowed (items_kind is)) is) = search (and_left, and_right) depth 16 in
    let most : integer_places (main_items is) ≤ 20 = search (and_left, and_right, leb→le) depth 16 in
    let few : places_behind is ≤ 3 = search (and_left, and_right, leb→le) depth 16 in
    let held-here : T (every (item_allowed fraction_kind) is) = rw kind at held in
    let both = every-parts (item_allowed fraction_kind) (whole_items is) (main_items is) (whole-joins is) held-here in
    let some : any is_solidus is ≡ true = fraction-some is kind fits in
    let r : FractionRules is = fraction-rules is some fits in
    let c : Solidus is = solidus-cut is (no-exponent fraction_kind is refl held-here) some in
    let below : Denominator c.behind = denominator c.behind (rw c.from at r.denominator) in
    let same = fixed-behind is c r.no_fixed in
    let places : places_behind is ≡ count is_place c.behind = places_behind_lem is c in
    record {
      whole_held = both.0;
      main_held = both.1;
      parts = c;
      main = main-parts is c some;
      one = one-solidus is c r.one;
      numerator = run-some (numerator_items is) (numerator-places is) r.numerator;
      fixed_behind = same;
      below = below;
      integers = search (and_left, and_right, leb→le) depth 16;
      numerators = rw (main-parts is c some, integers-solidus (numerator_items is) c.behind) at most;
      places = places;
      denominators = omega (arith, places, few);
      some_below = λ none. omega (arith, places, some_below_lem c.behind below (sym same.0 ∙ none));
      range = λ e. rw same.1
          (fixed-range c.behind below (every-tail item_in_range solidus c.behind (rw c.from at (every-from item_in_range is ranges))) (sym same.0 ∙ e));
    }
