-- What places and a point show is a decimal number, commas and spaces set aside, where one of the places is a `0`.
-- Assumes nothing.
use mathlib.Core.Path.{◌≡◌, refl, ◌∙◌}
use Prim.Native.Nat.{ℕ, ◌≤◌}
use native.Mathlib.Omega.{arith}
use mathlib.Core.Bool.{Bool, true, false, cond, ◌&&◌, ◌||◌, or-true}
use mathlib.Core.List.{List, [], ◌∷◌, ◌++◌, flatten}
use borrow.Author.Tests.{eqb-true}
use lib.Dec.{T, eqb}
use Rattle.lists.specs.Lists.{every, any, count}
use Rattle.lists.proofs.Bools.{no, by_cases, cond_both, cond-self, every-head, every-tail, every_append}
use Rattle.lists.proofs.Counts.{count-append, any_append, every-weaker}
use Rattle.figures.specs.Digits.{digit, digit_unit}
use Rattle.figures.proofs.Digits.{digit-small}
use Rattle.formats.specs.Tokens.{Place, zero_place, hash_place, space_place, is_digit}
use Rattle.formats.specs.Items as item
use Rattle.formats.specs.Items.{Item, place, point}
use Rattle.formats.specs.Text.{Context, first_decimal, insignificant, idle_units, ends_group, with_separator, figure_units, units_beyond, place_units, point_units, item_units, digit_after, along, first_of, item_pieces, at_first_integer}
use Rattle.formats.specs.Figures.{is_figure}
use Rattle.formats.proofs.FigureUnits.{digit-test, beyond-plain, place-plain}
use Rattle.formats.proofs.FigureItems.{item-case}
use Rattle.monotone.specs.Seen.{is_point}
use Rattle.monotone.proofs.Plain.{is_piece, is_zero_place}
use Rattle.monotone.proofs.Read.{is_shown, Decimal}

-- a place or the point
pub piece-case : (P : Item → Type 0) → ((p : Place) → P (place p)) → P point → (i : Item) → T (is_piece i) → P i
piece-case P f g =
    item-case (λ (i : Item). T (is_piece i) → P i) (λ p t. f p) (λ t. g) (λ m t. absurd t) (λ t. absurd t)
    (λ i not_place not_point not_cut other t. absurd (rw (not_place, not_point) at t))

-- figures are shown, and no point is one
figure-shown : (u : ℕ) → T (is_figure u) → T (is_shown u)
figure-shown u t = weaker (is_figure u) (is_point u) t
  where
    weaker : (a b : Bool) → T a → T (a || b)
    weaker true b t = tt
    weaker false b t = absurd t

pointless : (us : List ℕ) → T (every is_figure us) → count is_point us ≡ 0
unfolding count is_digit
pointless [] t = refl
pointless (u ∷ us) t =
    by_cases (is_point u)
    (λ e. absurd (rw (eqb-true u 46 e) at (every-head is_figure u us t)))
    (λ e. rw e (pointless us (every-tail is_figure u us t)))

-- a `0` shows a digit, which a separator leaves in front
first-digit : (u : ℕ) (b : Bool) → is_digit u ≡ true → any is_digit (cond b (with_separator (u ∷ [])) (u ∷ [])) ≡ true
unfolding any with_separator
first-digit u true e = rw e
first-digit u false e = rw e

zero-shows : (n : ℕ) (grouped : Bool) (q : ℕ) → any is_digit (figure_units n grouped zero_place q) ≡ true
unfolding figure_units idle_units
zero-shows n grouped q =
    let b : Bool = grouped && ends_group q in
    cond_both (λ (us : List ℕ). any is_digit (cond b (with_separator us) us) ≡ true) (insignificant n q)
    (first-digit 48 b (digit-test 0 (omega arith))) (first-digit (digit_unit (digit n q)) b (digit-test (digit n q) (digit-small n q)))

-- what items show
record Show (is : List Item) (us : List ℕ) : Type 0 where
  shown : T (every is_shown us)
  points : count is_point us ≡ count item.is_point is
  digit : any is_zero_place is ≡ true → any is_digit us ≡ true

show-append : {is js : List Item} {us vs : List ℕ} → Show is us → Show js vs → Show (is ++ js) (us ++ vs)
show-append {is} {js} {us} {vs} one rest =
    record {
      shown = every_append is_shown us vs one.shown rest.shown;
      points = rw (count-append is_point us vs, count-append item.is_point is js, one.points, rest.points);
      digit = λ e.
          rw (any_append is_digit us vs)
          (by_cases (any is_zero_place is) (λ h. rw (one.digit h))
          (λ h. rw (rest.digit (rw (any_append is_zero_place is js, h) at e), or-true (any is_digit us))));
    }

place-digit : (c : Context) (q : ℕ) (p : Place) → is_zero_place (place p) ≡ true → any is_digit (place_units c p q) ≡ true
unfolding place_units
place-digit c q zero_place e =
    let beyond : List ℕ = cond (at_first_integer c q) (units_beyond c q) [] in
    any_append is_digit beyond (figure_units c.figures c.grouped zero_place q)
    ∙ rw (zero-shows c.figures c.grouped q, or-true (any is_digit beyond))
place-digit c q hash_place e = no e
place-digit c q space_place e = no e

place-shows : (c : Context) (q : ℕ) (p : Place) → Show (place p ∷ []) (place_units c p q)
unfolding count any
place-shows c q p =
    record {
      shown = every-weaker is_figure is_shown figure-shown (place_units c p q) (place-plain c p q);
      points = pointless (place_units c p q) (place-plain c p q);
      digit = λ e. place-digit c q p (rw (cond-self (is_zero_place (place p))) at e);
    }

point-shows : (c : Context) → Show (point ∷ []) (point_units c)
unfolding point_units count any every is_digit
point-shows c =
    let beyond : List ℕ = cond (eqb c.integer_places 0) (units_beyond c first_decimal) [] in
    let plain : T (every is_figure beyond) = beyond-plain c (eqb c.integer_places 0) first_decimal in
    record {
      shown = every_append is_shown beyond (46 ∷ []) (every-weaker is_figure is_shown figure-shown beyond plain) tt;
      points = count-append is_point beyond (46 ∷ []) ∙ rw (pointless beyond plain);
      digit = λ e. no e;
    }

item-shows : (c : Context) (q : ℕ) (i : Item) → T (is_piece i) → Show (i ∷ []) (item_units c q i)
unfolding item_units
item-shows c q = piece-case (λ (i : Item). Show (i ∷ []) (item_units c q i)) (place-shows c q) (point-shows c)

items-show : (c : Context) (q : ℕ) (is : List Item) → T (every is_piece is) → Show is (flatten (item_pieces c q is))
unfolding along flatten every count any
items-show c q [] t = record { shown = tt; points = refl; digit = λ e. no e }
items-show c q (i ∷ is) t =
    show-append (item-shows c q i (every-head is_piece i is t))
    (items-show c (digit_after (first_of c.integer_places) q i) is (every-tail is_piece i is t))

pub items-decimal : (c : Context) (q : ℕ) (is : List Item) → T (every is_piece is) → any is_zero_place is ≡ true → count item.is_point is ≤ 1
    → Decimal (flatten (item_pieces c q is))
items-decimal c q is t some one_point =
    let s = items-show c q is t in
    record { shown = s.shown; digit = s.digit some; points = rw s.points one_point }
