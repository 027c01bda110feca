-- A list of items cut at its first E or solidus (R127, R132): what stands before it, what stands from it on, and what is counted on either side.
-- Assumes nothing.
use mathlib.Core.Path.{◌≡◌, refl, sym, ap, subst, ◌∙◌}
use Prim.Native.Nat.{◌+◌, ◌≤◌}
use native.Mathlib.Omega.{arith}
use mathlib.Core.Bool.{Bool, true, false, ◌&&◌, ◌||◌, true≢false}
use mathlib.Core.List.{List, [], ◌∷◌, ◌++◌, append_assoc}
use borrow.Author.Tests.{eqb-true}
use lib.ListN.{drop}
use lib.Dec.{T, leb→le, eqb→eq, eqb_refl}
use Rattle.lists.specs.Lists.{every, any, count, is_empty}
use Rattle.lists.proofs.Bools.{by_cases, cond-case, and_left, and_right, every-head, every-tail, implied, not_so, true-T, T_true, carry, or-false}
use Rattle.lists.proofs.Counts.{count-append, any_append, any-either, every-both, any-count, any_same}
use Rattle.formats.specs.Tokens.{ExponentMark}
use Rattle.formats.specs.Items.{Item, literal, blank, fill, place, point, percent, general, at, year, month, day, hour, minute, second, part, elapsed, half, exponent, solidus, fixed, Kind, text_kind, general_kind, date_kind, scientific_kind, fraction_kind, number_kind, literal_kind, kind_row, same_kind, kind_from, item_makes, items_kind, item_allowed, is_place, is_point, is_space, is_exponent, is_solidus, is_cut, before_cut, from_cut, integer_places, decimal_places, places_behind, exponent_fits, is_fixed, end_places, before_end, numerator_items, whole_items, main_items, literal_follows, denominator_fits, fraction_fits}
use Rattle.formats.proofs.Each.{by-item}

-- an item is an E, the solidus, or neither
pub cut-case {ℓ} : (P : Item → Type ℓ) → ((m : ExponentMark) → P (exponent m)) → P solidus → ((i : Item) → is_cut i ≡ false → P i)
    → (i : Item) → P i
cut-case P f g h =
    by-item P (λ u. h (literal u) refl) (λ u. h (blank u) refl) (λ u. h (fill u) refl) (λ p. h (place p) refl)
    (h point refl) (h percent refl) (h general refl) (h at refl)
    (λ n. h (year n) refl) (λ n. h (month n) refl) (λ n. h (day n) refl) (λ n. h (hour n) refl)
    (λ n. h (minute n) refl) (λ n. h (second n) refl) (λ n. h (part n) refl) (λ e n. h (elapsed e n) refl) (λ a. h (half a) refl) f
    g (λ n. h (fixed n) refl)

-- the two parts are the whole
pub cut-joins : (is : List Item) → before_cut is ++ from_cut is ≡ is
unfolding before_cut from_cut
cut-joins [] = refl
cut-joins (i ∷ is) = by_cases (is_cut i) (λ e. rw e) (λ e. rw e (ap (λ (js : List Item). i ∷ js) (cut-joins is)))

-- no E and no solidus stands before the first
pub before-bare : (is : List Item) → any is_cut (before_cut is) ≡ false
unfolding before_cut any
before-bare [] = refl
before-bare (i ∷ is) = by_cases (is_cut i) (λ e. rw e) (λ e. rw (e, e) (before-bare is))

-- without them all stands before it
pub bare-before : (is : List Item) → any is_cut is ≡ false → before_cut is ≡ is
unfolding before_cut any
bare-before [] none = refl
bare-before (i ∷ is) none =
    by_cases (is_cut i) (λ e. absurd (true≢false (rw e at none)))
    (λ e. rw e (ap (λ (js : List Item). i ∷ js) (bare-before is (rw e at none))))

pub bare-from : (is : List Item) → any is_cut is ≡ false → from_cut is ≡ []
unfolding from_cut any
bare-from [] none = refl
bare-from (i ∷ is) none =
    by_cases (is_cut i) (λ e. absurd (true≢false (rw e at none))) (λ e. rw e (bare-from is (rw e at none)))

-- counts and tests of the whole by those of its parts
pub cut-count : (f : Item → Bool) (is : List Item) → count f is ≡ count f (before_cut is) + count f (from_cut is)
cut-count f is = sym (ap (count f) (cut-joins is)) ∙ count-append f (before_cut is) (from_cut is)

pub cut-any : (f : Item → Bool) (is : List Item) → any f is ≡ (any f (before_cut is) || any f (from_cut is))
cut-any f is = sym (ap (any f) (cut-joins is)) ∙ any_append f (before_cut is) (from_cut is)

pub cut-every : (f : Item → Bool) (is : List Item) → every f is ≡ (every f (before_cut is) && every f (from_cut is))
cut-every f is = sym (ap (every f) (cut-joins is)) ∙ every-both f (before_cut is) (from_cut is)

pub every-before : (f : Item → Bool) (is : List Item) → T (every f is) → T (every f (before_cut is))
every-before f is t = and_left (every f (before_cut is)) (every f (from_cut is)) (carry (cut-every f is) t)

pub every-from : (f : Item → Bool) (is : List Item) → T (every f is) → T (every f (from_cut is))
every-from f is t = and_right (every f (before_cut is)) (every f (from_cut is)) (carry (cut-every f is) t)

-- integer and decimal places are those before the E or solidus
pub integers-before : (is : List Item) → integer_places (before_cut is) ≡ integer_places is
unfolding before_cut integer_places
integers-before [] = refl
integers-before (i ∷ is) =
    cut-case (λ (j : Item). integer_places (before_cut (j ∷ is)) ≡ integer_places (j ∷ is)) (λ m. refl) refl
    (λ j e. rw (e, e, integers-before is)) i

pub decimals-before : (is : List Item) → decimal_places (before_cut is) ≡ decimal_places is
unfolding before_cut decimal_places
decimals-before [] = refl
decimals-before (i ∷ is) =
    cut-case (λ (j : Item). decimal_places (before_cut (j ∷ is)) ≡ decimal_places (j ∷ is)) (λ m. refl) refl
    (λ j e. rw (e, e, decimals-before is, bare-before (before_cut is) (before-bare is))) i

-- without a point, an E and a solidus all places are integer places
pub places-integers : (is : List Item) → any is_point is ≡ false → any is_cut is ≡ false → integer_places is ≡ count is_place is
unfolding integer_places any count
places-integers [] no_point bare = refl
places-integers (i ∷ is) no_point bare =
    by_cases (is_point i) (λ e. absurd (true≢false (rw e at no_point)))
    (λ e. by_cases (is_cut i) (λ f. absurd (true≢false (rw f at bare)))
    (λ f. rw (e, f, places-integers is (rw e at no_point) (rw f at bare))))

pub no-decimals : (is : List Item) → any is_point is ≡ false → decimal_places is ≡ 0
unfolding decimal_places any
no-decimals [] no_point = refl
no-decimals (i ∷ is) no_point =
    by_cases (is_point i) (λ e. absurd (true≢false (rw e at no_point)))
    (λ e. rw (e, no-decimals is (rw e at no_point)) (by_cases (is_cut i) (λ f. rw f) (λ f. rw f)))

-- what stands from the E on: the E, and what is behind it
pub record Cut (is : List Item) : Type 0 where
  pub mark : ExponentMark
  pub behind : List Item
  pub from : from_cut is ≡ exponent mark ∷ behind

pub cut : (is : List Item) → any is_solidus is ≡ false → any is_exponent is ≡ true → Cut is
unfolding from_cut any
cut [] = λ none some. absurd (true≢false (sym some))
cut (i ∷ is) =
    cut-case (λ (j : Item). any is_solidus (j ∷ is) ≡ false → any is_exponent (j ∷ is) ≡ true → Cut (j ∷ is))
    (λ m none some. record { mark = m; behind = is; from = refl })
    (λ none. absurd (true≢false none))
    (λ j e none some.
    let (x, y) = or-false (is_exponent j) (is_solidus j) e in
    let c = cut is (rw y at none) (rw x at some) in
    record { mark = c.mark; behind = c.behind; from = rw e c.from })
    i

-- what stands from the solidus on
pub record Solidus (is : List Item) : Type 0 where
  pub behind : List Item
  pub from : from_cut is ≡ solidus ∷ behind

pub solidus-cut : (is : List Item) → any is_exponent is ≡ false → any is_solidus is ≡ true → Solidus is
unfolding from_cut any
solidus-cut [] = λ none some. absurd (true≢false (sym some))
solidus-cut (i ∷ is) =
    cut-case (λ (j : Item). any is_exponent (j ∷ is) ≡ false → any is_solidus (j ∷ is) ≡ true → Solidus (j ∷ is))
    (λ m none. absurd (true≢false none))
    (λ none some. record { behind = is; from = refl })
    (λ j e none some.
    let (x, y) = or-false (is_exponent j) (is_solidus j) e in
    let c = solidus-cut is (rw x at none) (rw y at some) in
    record { behind = c.behind; from = rw e c.from })
    i

-- the rules for an E (R127, R129), of items that have one
pub record ExponentRules (is : List Item) : Type 0 where
  pub one : count is_exponent is ≤ 1
  pub integer : 1 ≤ integer_places is
  pub places : 1 ≤ places_behind is
  pub no_point : any is_point (from_cut is) ≡ false
  pub no_space : any is_space (from_cut is) ≡ false

pub exponent-rules : (is : List Item) → any is_exponent is ≡ true → T (exponent_fits is) → ExponentRules is
unfolding exponent_fits
exponent-rules is some t =
    let all = implied (any is_exponent is) _ t (true-T some) in
    record {
      one = search (and_left, and_right, leb→le) depth 16;
      integer = search (and_left, and_right, leb→le) depth 16;
      places = search (and_left, and_right, leb→le) depth 16;
      no_point = not_so (any is_point (from_cut is)) (search (and_left, and_right) depth 16);
      no_space = not_so (any is_space (from_cut is)) (search (and_left, and_right) depth 16);
    }

-- the rules for a solidus (R132, R134), of items that have one
pub record FractionRules (is : List Item) : Type 0 where
  pub one : count is_solidus is ≡ 1
  pub numerator : is_empty (numerator_items is) ≡ false
  pub literal : T (literal_follows (whole_items is))
  pub no_fixed : any is_fixed (before_cut is) ≡ false
  pub denominator : T (denominator_fits (drop 1 (from_cut is)))

pub fraction-rules : (is : List Item) → any is_solidus is ≡ true → T (fraction_fits is) → FractionRules is
unfolding fraction_fits
fraction-rules is some t =
    let all = implied (any is_solidus is || any is_fixed is) _ t (rw some tt) in
    record {
      one = search (and_left, and_right, eqb→eq) depth 16;
      numerator = not_so (is_empty (numerator_items is)) (search (and_left, and_right) depth 16);
      literal = search (and_left, and_right) depth 16;
      no_fixed = not_so (any is_fixed (before_cut is)) (search (and_left, and_right) depth 16);
      denominator = search (and_left, and_right) depth 16;
    }

-- a list of items and the run of places at its end
pub end-joins : (is : List Item) → before_end is ++ end_places is ≡ is
unfolding before_end end_places
end-joins [] = refl
end-joins (i ∷ is) = by_cases (every is_place (i ∷ is)) (λ e. rw e) (λ e. rw e (ap (λ (js : List Item). i ∷ js) (end-joins is)))

-- the integer part of a fraction and the rest are the whole
pub whole-joins : (is : List Item) → whole_items is ++ main_items is ≡ is
unfolding whole_items main_items numerator_items
whole-joins is =
    by_cases (any is_solidus is)
    (λ e.
    rw (e, ← append_assoc (before_end (before_cut is)) (end_places (before_cut is)) (from_cut is))
    (ap (λ (js : List Item). js ++ from_cut is) (end-joins (before_cut is)) ∙ cut-joins is))
    (λ e. rw e)

-- no E and no solidus stands in the integer part, and the cut is the rest's
from-bare : (is js : List Item) → any is_cut is ≡ false → from_cut (is ++ js) ≡ from_cut js
unfolding from_cut any
from-bare [] js none = refl
from-bare (i ∷ is) js none = by_cases (is_cut i) (λ e. absurd (true≢false (rw e at none))) (λ e. rw e (from-bare is js (rw e at none)))

end-bare : (is : List Item) → any is_cut is ≡ false → (any is_cut (before_end is) ≡ false) × (any is_cut (end_places is) ≡ false)
end-bare is none =
    or-false (any is_cut (before_end is)) (any is_cut (end_places is))
    (sym (any_append is_cut (before_end is) (end_places is)) ∙ ap (any is_cut) (end-joins is) ∙ none)

pub whole-bare : (is : List Item) → any is_cut (whole_items is) ≡ false
unfolding whole_items any
whole-bare is = by_cases (any is_solidus is) (λ e. rw e (end-bare (before_cut is) (before-bare is)).0) (λ e. rw e)

from-again : (is : List Item) → from_cut (from_cut is) ≡ from_cut is
unfolding from_cut
from-again [] = refl
from-again (i ∷ is) = by_cases (is_cut i) (λ e. rw (e, e)) (λ e. rw e (from-again is))

pub main-from : (is : List Item) → from_cut (main_items is) ≡ from_cut is
unfolding main_items numerator_items
main-from is =
    by_cases (any is_solidus is)
    (λ e. rw e (from-bare (end_places (before_cut is)) (from_cut is) (end-bare (before_cut is) (before-bare is)).1 ∙ from-again is)) (λ e. rw e)

-- so the places behind the cut are the rest's
pub whole-exponents : (is : List Item) → places_behind (whole_items is) ≡ 0
unfolding places_behind count
whole-exponents is = ap (count is_place) (bare-from (whole_items is) (whole-bare is))

pub main-exponents : (is : List Item) → places_behind (main_items is) ≡ places_behind is
unfolding places_behind
main-exponents is = ap (count is_place) (main-from is)

-- without a solidus there is no integer part that stands apart
pub main-all : (is : List Item) → any is_solidus is ≡ false → main_items is ≡ is
unfolding main_items
main-all is none = rw none

pub whole-none : (is : List Item) → any is_solidus is ≡ false → whole_items is ≡ []
unfolding whole_items
whole-none is none = rw none

module _ {is : List Item} (c : Cut is) where
  pub behind_places : count is_place c.behind ≡ places_behind is
  unfolding places_behind count
  behind_places = sym (ap (count is_place) c.from)

  pub behind-bare : any is_solidus is ≡ false → count is_exponent is ≤ 1 → any is_cut c.behind ≡ false
  unfolding count any
  behind-bare none one =
      let none-behind : any is_exponent c.behind ≡ false = by_cases (any is_exponent c.behind)
      (λ e. absurd (omega (arith, any-count is_exponent c.behind e, cut-count is_exponent is, ap (count is_exponent) c.from)))
      (λ e. e) in
      any-either is_exponent is_solidus c.behind
      ∙ rw (none-behind) (sym (ap (any is_solidus) c.from) ∙ (or-false (any is_solidus (before_cut is)) (any is_solidus (from_cut is)) (sym (cut-any is_solidus is) ∙ none)).1)

  pub behind-pointless : any is_point (from_cut is) ≡ false → any is_point c.behind ≡ false
  unfolding any
  behind-pointless none = sym (ap (any is_point) c.from) ∙ none

  -- the places behind the E are integer places of what stands there
  pub behind-integers : any is_solidus is ≡ false → count is_exponent is ≤ 1 → any is_point (from_cut is) ≡ false
      → integer_places c.behind ≡ places_behind is
  behind-integers bare one none = places-integers c.behind (behind-pointless none) (behind-bare bare one) ∙ behind_places

-- an E makes a body scientific, and only an E does
pub makes-exponent : (i : Item) → item_makes scientific_kind i ≡ is_exponent i
unfolding item_makes
makes-exponent =
    by-item (λ (i : Item). item_makes scientific_kind i ≡ is_exponent i) (λ u. refl) (λ u. refl) (λ u. refl) (λ p. refl) refl refl refl refl
    (λ n. refl) (λ n. refl) (λ n. refl) (λ n. refl) (λ n. refl) (λ n. refl) (λ n. refl) (λ e n. refl) (λ h. refl) (λ m. refl)
    refl (λ n. refl)

-- where items are of a kind one of them makes it, unless they are literals only
kind-made : (made : Kind → Bool) → same_kind (kind_from made) literal_kind ≡ false → made (kind_from made) ≡ true
unfolding kind_from
kind-made made =
    let P : Kind → Type 0 = λ (k : Kind). same_kind k literal_kind ≡ false → made k ≡ true in
    cond-case P (made text_kind) (λ e h. e) (λ t. cond-case P (made general_kind) (λ e h. e)
    (λ g. cond-case P (made date_kind) (λ e h. e) (λ d. cond-case P (made scientific_kind) (λ e h. e)
    (λ s. cond-case P (made fraction_kind) (λ e h. e) (λ f. cond-case P (made number_kind) (λ e h. e) (λ n h. absurd (true≢false h)))))))

pub made_some : (k : Kind) (is : List Item) → same_kind k literal_kind ≡ false → items_kind is ≡ k → any (item_makes k) is ≡ true
unfolding items_kind
made_some k is other e =
    let made : Kind → Bool = λ (j : Kind). any (item_makes j) is in
    subst (λ (j : Kind). same_kind j literal_kind ≡ false → made j ≡ true) e (kind-made made) other

pub scientific-some : (is : List Item) → items_kind is ≡ scientific_kind → any is_exponent is ≡ true
scientific-some is h = sym (any_same (item_makes scientific_kind) is_exponent makes-exponent is) ∙ made_some scientific_kind is refl h

-- what no item is that passes a test, as that of a kind's items, no item is where all pass
pub none_passes : (f g : Item → Bool) → ((i : Item) → T (g i) → f i ≡ false) → (is : List Item) → T (every g is) → any f is ≡ false
unfolding any every
none_passes f g h [] t = refl
none_passes f g h (i ∷ is) t = rw (h i (every-head g i is t)) (none_passes f g h is (every-tail g i is t))

kinds-either : (j k : Kind) → T (same_kind j k) → same_kind k j ≡ true
kinds-either j k t = rw (eqb-true (kind_row j).number (kind_row k).number (T_true (same_kind j k) t)) (T_true _ (eqb_refl (kind_row k).number))

-- only a scientific section holds an E, only a fraction a solidus
pub no-exponent : (k : Kind) (is : List Item) → same_kind k scientific_kind ≡ false → T (every (item_allowed k) is) → any is_exponent is ≡ false
unfolding item_allowed
no-exponent k is other =
    none_passes is_exponent (item_allowed k)
    (cut-case (λ (j : Item). T (item_allowed k j) → is_exponent j ≡ false)
    (λ m t. absurd (true≢false (sym (kinds-either scientific_kind k t) ∙ other))) (λ t. refl)
    (λ j e t. (or-false (is_exponent j) (is_solidus j) e).0)) is

pub no-solidus : (k : Kind) (is : List Item) → same_kind k fraction_kind ≡ false → T (every (item_allowed k) is) → any is_solidus is ≡ false
unfolding item_allowed
no-solidus k is other =
    none_passes is_solidus (item_allowed k)
    (cut-case (λ (j : Item). T (item_allowed k j) → is_solidus j ≡ false)
    (λ m t. refl) (λ t. absurd (true≢false (sym (kinds-either fraction_kind k t) ∙ other)))
    (λ j e t. (or-false (is_exponent j) (is_solidus j) e).1)) is

-- where another kind's items are held there is neither
pub held-bare : (k : Kind) (is : List Item) → same_kind k scientific_kind ≡ false → same_kind k fraction_kind ≡ false
    → T (every (item_allowed k) is) → any is_cut is ≡ false
held-bare k is other another t = any-either is_exponent is_solidus is ∙ rw (no-exponent k is other t, no-solidus k is another t)
