-- What places behind an E show (R128): digits alone, since no `?` stands there and nothing is grouped.
-- Assumes nothing.
use mathlib.Core.Path.{◌≡◌, refl}
use Prim.Native.Nat.{ℕ, zero, suc, ◌+◌}
use mathlib.Core.Bool.{false, true≢false}
use mathlib.Core.List.{List, [], ◌∷◌}
use lib.Dec.{T}
use Rattle.lists.specs.Lists.{every, any}
use Rattle.lists.proofs.Bools.{by_cases, cond_both, every_append}
use Rattle.figures.proofs.Digits.{digit-small}
use Rattle.formats.specs.Tokens.{Place, zero_place, hash_place, space_place, is_digit}
use Rattle.formats.specs.Items.{Item, place, exponent, solidus, is_point, is_space}
use Rattle.formats.specs.Text.{Context, insignificant, idle_units, figure_units, extra_units, at_first_integer, place_units, item_units, digit_after, along, first_of, item_pieces}
use Rattle.formats.specs.Figures.{units_of, figure_pieces}
use Rattle.formats.proofs.FigureUnits.{digit-test}
use Rattle.formats.proofs.FigureItems.{item-case}

abbrev Digits : List ℕ → Type 0
Digits us = T (every is_digit us)

none-digits : Digits []
unfolding every
none-digits = tt

idle-digits : (p : Place) → is_space (place p) ≡ false → Digits (idle_units p)
unfolding every idle_units is_digit
idle-digits zero_place e = tt
idle-digits hash_place e = tt
idle-digits space_place e = absurd (true≢false e)

figure-digits : (n : ℕ) (p : Place) (q : ℕ) → is_space (place p) ≡ false → Digits (figure_units n false p q)
unfolding figure_units every
figure-digits n p q e =
    cond_both Digits (insignificant n q) (idle-digits p e) (rw (digit-test _ (digit-small n q)) tt)

extra-digits : (n q count : ℕ) → Digits (extra_units n false q count)
unfolding extra_units
extra-digits n q zero = none-digits
extra-digits n q (suc count) = every_append is_digit _ _ (figure-digits n hash_place (q + count) refl) (extra-digits n q count)

module _ (c : Context) (ungrouped : c.grouped ≡ false) where
  place-digits : (p : Place) (q : ℕ) → is_space (place p) ≡ false → Digits (place_units c p q)
  unfolding place_units
  place-digits p q e =
      rw ungrouped
      (every_append is_digit _ _ (cond_both Digits (at_first_integer c q) (extra-digits c.figures _ _) none-digits) (figure-digits c.figures p q e))

  abbrev after : ℕ → Item → ℕ
  after q i = digit_after (first_of c.integer_places) q i

  -- the figure pieces of items without a point and without a `?`
  pub items-digits : (q : ℕ) (is : List Item) → any is_point is ≡ false → any is_space is ≡ false → Digits (figure_pieces is (item_pieces c q is))
  unfolding any every units_of along item_units
  items-digits q [] = λ no_point no_space. tt
  items-digits q (i ∷ is) =
      item-case (λ (j : Item). any is_point (j ∷ is) ≡ false → any is_space (j ∷ is) ≡ false → Digits (figure_pieces (j ∷ is) (item_pieces c q (j ∷ is))))
      (λ p no_point no_space.
      by_cases (is_space (place p)) (λ e. absurd (true≢false (rw e at no_space)))
      (λ e.
      every_append is_digit (place_units c p q) (figure_pieces is (item_pieces c (after q (place p)) is)) (place-digits p q e)
      (items-digits (after q (place p)) is no_point (rw e at no_space))))
      (λ no_point no_space. absurd (true≢false no_point))
      (λ m no_point no_space. items-digits (after q (exponent m)) is no_point no_space)
      (λ no_point no_space. items-digits (after q solidus) is no_point no_space)
      (λ j not_place not_point not_e other no_point no_space.
      rw (not_place, not_point) (items-digits (after q j) is (rw not_point at no_point) (rw not_place at no_space)))
      i
