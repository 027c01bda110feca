-- What a caller of `fraction_fits` needs: each literal of a code has a unit, and a body of another kind whose items fit keeps the rules for a solidus.
-- Assumes nothing.
use Prim.Native.Nat.{ℕ}
use mathlib.Core.Path.{◌≡◌, refl, sym, ap, ◌∙◌}
use mathlib.Core.Bool.{Bool, true, false, cond, not, ◌&&◌, ◌||◌, true≢false}
use mathlib.Core.List.{List, [], ◌∷◌}
use lib.Dec.{T, eqb_refl}
use borrow.Author.Tests.{eqb-true}
use Rattle.lists.specs.Lists.{every, any, is_empty}
use Rattle.lists.proofs.Bools.{T_true, and_left, and_right, every-head, every-tail}
use Rattle.lists.proofs.Counts.{any-either}
use Rattle.formats.specs.Tokens.{Token, literal}
use Rattle.formats.specs.Items.{Item, Kind, fraction_kind, kind_row, same_kind, item_allowed, items_kind, is_solidus, is_fixed, fraction_fits, items_fit, settled}
use Rattle.formats.specs.Kinds.{body_kind, token_items, body_items, last_fill}
use Rattle.formats.proofs.Each.{by_token, by-item}
use Rattle.formats.proofs.TokenRanges.{token_passes}
use Rattle.formats.proofs.FormedItems.{both-kept}
use Rattle.formats.proofs.FormedKinds.{kind-of-body}
use Rattle.bodies.specs.Fraction.{has_units}

pub units-passed : (test : ℕ → Bool) (t : Token) → T (token_passes test t) → T (has_units t)
unfolding has_units token_items token_passes is_empty
units-passed test =
    by_token (λ (t : Token). T (token_passes test t) → T (has_units t))
    go (λ u h. tt) (λ u h. tt) (λ u h. tt) (λ p h. tt) (λ h. tt) (λ h. tt) (λ h. tt) (λ h. tt) (λ h. tt) (λ h. tt)
    (λ x h. tt) (λ l n h. tt) (λ x n h. tt) (λ n h. tt) (λ w h. tt) (λ m h. tt) (λ p h. tt) (λ p n h. tt)
  where
    go : (us : List ℕ) → T (every test us && not (is_empty us)) → T (has_units (literal us))
    go [] h = and_right (every test []) false h
    go (u ∷ us) h = tt

-- the items that only a fraction holds
abbrev of_fraction : Item → Bool
of_fraction i = is_solidus i || is_fixed i

module _ (k : Kind) (other : same_kind k fraction_kind ≡ false) where
  refused : T (same_kind fraction_kind k) → true ≡ false
  refused t = sym (rw (eqb-true 4 (kind_row k).number (T_true (same_kind fraction_kind k) t)) (T_true _ (eqb_refl (kind_row k).number))) ∙ other

  held : (i : Item) → T (item_allowed k i) → of_fraction i ≡ false
  unfolding item_allowed
  held =
      by-item (λ (i : Item). T (item_allowed k i) → of_fraction i ≡ false)
      (λ u t. refl) (λ u t. refl) (λ u t. refl) (λ p t. refl) (λ t. refl) (λ t. refl) (λ t. refl) (λ t. refl) (λ n t. refl) (λ n t. refl) (λ n t. refl)
      (λ n t. refl) (λ n t. refl) (λ n t. refl) (λ n t. refl) (λ e n t. refl) (λ h t. refl) (λ m t. refl)
      (λ t. absurd (true≢false (refused t))) (λ n t. absurd (true≢false (refused t)))

  held_none : (is : List Item) → T (every (item_allowed k) is) → any of_fraction is ≡ false
  unfolding any every
  held_none [] t = refl
  held_none (i ∷ is) t = rw (held i (every-head (item_allowed k) i is t)) (held_none is (every-tail (item_allowed k) i is t))

pub others-fit : (ts : List Token) → same_kind (body_kind ts) fraction_kind ≡ false → T (items_fit (settled (last_fill (body_items ts)))) → fraction_fits (body_items ts) ≡ true
unfolding items_fit fraction_fits any
others-fit ts other fit =
    let is = body_items ts in
    let allowed : T (every (item_allowed (items_kind (settled (last_fill is)))) (settled (last_fill is))) = search (and_left, and_right) depth 16 in
    let none = held_none (body_kind ts) other (settled (last_fill is)) (rw (kind-of-body ts) at allowed) in
    let kept = both-kept (any of_fraction) (λ i js ks e. ap (λ (b : Bool). cond (of_fraction i) true b) e) (λ u js. refl) (λ n js. refl) is in
    rw (sym (any-either is_solidus is_fixed is) ∙ sym kept ∙ none)
