-- Pieces of items, a piece an item: of lists that are joined, and the units of those that pass a test.
-- Assumes nothing.
use mathlib.Core.Path.{◌≡◌, refl, sym, ap}
use Prim.Native.Nat.{ℕ, zero, suc}
use native.Mathlib.Omega.{arith}
use mathlib.Core.Bool.{Bool, false, cond, true≢false}
use mathlib.Core.List.{List, [], ◌∷◌, ◌++◌, append_assoc, flatten}
use lib.Dec.{T}
use lib.ListN.{length, drop}
use Rattle.lists.specs.Lists.{every, any}
use Rattle.lists.proofs.Bools.{by_cases, every-head, every-tail, T_true}
use Rattle.values.specs.declared.Number.{Number}
use Rattle.formats.specs.Items.{Item}
use Rattle.formats.specs.Text.{digit_after, along, self}
use Rattle.formats.specs.Figures.{PiecesOf, empty, more, units_of}

pub along-length : (f : ℕ → Item → List ℕ) (anew q : ℕ) (is : List Item) → length (along self f anew q is) ≡ length is
unfolding along
along-length f anew q [] = refl
along-length f anew q (i ∷ is) = ap suc (along-length f anew (digit_after anew q i) is)

-- what stands behind so many pieces
pub drop-front : {A : Type 0} (n : ℕ) (xs ys : List A) → length xs ≡ n → drop n (xs ++ ys) ≡ ys
drop-front zero [] ys e = refl
drop-front zero (x ∷ xs) ys e = absurd (omega arith)
drop-front (suc n) [] ys e = absurd (omega arith)
drop-front (suc n) (x ∷ xs) ys e = drop-front n xs ys (omega arith)

pub flatten-joins : (ps qs : List (List ℕ)) → flatten (ps ++ qs) ≡ flatten ps ++ flatten qs
unfolding flatten
flatten-joins [] qs = refl
flatten-joins (us ∷ ps) qs = rw (flatten-joins ps qs) (sym (append_assoc us (flatten ps) (flatten qs)))

pub pieces-join : (x : Number) (added below exact : Bool) {is js : List Item} {ps qs : List (List ℕ)}
    → PiecesOf x added below exact is ps → PiecesOf x added below exact js qs → PiecesOf x added below exact (is ++ js) (ps ++ qs)
pieces-join x added below exact empty later = later
pieces-join x added below exact (more i us is ps one rest) later = more i us _ _ one (pieces-join x added below exact rest later)

module _ (f : Item → Bool) where
  -- the units of items in front of others
  pub units-front : (is : List Item) (ps qs : List (List ℕ)) → length ps ≡ length is → units_of f is (ps ++ qs) ≡ units_of f is ps
  unfolding units_of
  units-front [] ps qs e = refl
  units-front (i ∷ is) [] qs e = absurd (omega arith)
  units-front (i ∷ is) (us ∷ ps) qs e = rw (units-front is ps qs (omega arith))

  pub units-join : (is js : List Item) (ps qs : List (List ℕ)) → length ps ≡ length is
      → units_of f (is ++ js) (ps ++ qs) ≡ units_of f is ps ++ units_of f js qs
  unfolding units_of
  units-join [] js [] qs e = refl
  units-join [] js (us ∷ ps) qs e = absurd (omega arith)
  units-join (i ∷ is) js [] qs e = absurd (omega arith)
  units-join (i ∷ is) js (us ∷ ps) qs e =
      rw (units-join is js ps qs (omega arith)) (sym (append_assoc (cond (f i) us []) (units_of f is ps) (units_of f js qs)))

  pub units-none : (is : List Item) (ps : List (List ℕ)) → any f is ≡ false → units_of f is ps ≡ []
  unfolding units_of any
  units-none [] ps e = refl
  units-none (i ∷ is) [] e = refl
  units-none (i ∷ is) (us ∷ ps) e = by_cases (f i) (λ h. absurd (true≢false (rw h at e))) (λ h. rw h (units-none is ps (rw h at e)))

  pub units-all : (is : List Item) (ps : List (List ℕ)) → T (every f is) → length ps ≡ length is → units_of f is ps ≡ flatten ps
  unfolding units_of flatten
  units-all [] [] t e = refl
  units-all [] (us ∷ ps) t e = absurd (omega arith)
  units-all (i ∷ is) [] t e = absurd (omega arith)
  units-all (i ∷ is) (us ∷ ps) t e =
      rw (T_true (f i) (every-head f i is t)) (ap (λ (vs : List ℕ). us ++ vs) (units-all is ps (every-tail f i is t) (omega arith)))
