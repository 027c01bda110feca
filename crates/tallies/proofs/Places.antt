-- All places of a section are integer, decimal or exponent places.
-- Assumes nothing.
use Prim.Native.Nat.{◌+◌}
use native.Mathlib.Omega.{arith}
use mathlib.Core.Path.{◌≡◌, refl, ap}
use mathlib.Core.Bool.{false}
use mathlib.Core.List.{List, [], ◌∷◌}
use borrow.Author.Tests.{eqb-true}
use Rattle.lists.specs.Lists.{any, count}
use Rattle.lists.proofs.Bools.{by_cases}
use Rattle.formats.specs.Items.{Item, item_number, is_place, is_point, is_cut, from_cut, integer_places, decimal_places, places_behind}
use Rattle.formats.proofs.Cutting.{cut-case, bare-from, cut-count}

pub places-counted : (is : List Item) → integer_places is + (decimal_places is + places_behind is) ≡ count is_place is
unfolding integer_places decimal_places places_behind from_cut count
places-counted [] = refl
places-counted (i ∷ is) =
    let h = places-counted is in
    cut-case (λ (j : Item). integer_places (j ∷ is) + (decimal_places (j ∷ is) + places_behind (j ∷ is)) ≡ count is_place (j ∷ is))
    (λ m. omega arith) (omega arith)
    (λ j x. by_cases (is_point j) (λ g. rw (eqb-true (item_number j) 4 g) (omega (arith, cut-count is_place is)))
    (λ g. rw (x, g) (by_cases (is_place j) (λ k. rw k (omega arith)) (λ k. rw k (omega arith))))) i

-- without an E and a solidus there is none behind it
pub places-bare : (is : List Item) → any is_cut is ≡ false → integer_places is + decimal_places is ≡ count is_place is
unfolding places_behind count
places-bare is bare = omega (arith, places-counted is, ap (count is_place) (bare-from is bare))
