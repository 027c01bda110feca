-- The added minus of a number, as `has_minus` tells it.
-- Assumes nothing.
use Prim.Native.Nat.{ℕ}
use native.Mathlib.Omega.{arith}
use mathlib.Core.Path.{◌≡◌, refl, sym}
use mathlib.Core.Bool.{Bool, true, false, cond, not, ◌&&◌}
use mathlib.Core.List.{List, [], ◌∷◌}
use lib.Dec.{eqb}
use lib.IntN.{pos}
use lib.Signed.{lt_z}
use lib.ListN.{length}
use borrow.Author.Tests.{eq-eqb, ne_eqb}
use Rattle.values.specs.declared.Number.{Number}
use Rattle.lists.specs.Lists.{is_empty}
use Rattle.formats.specs.Items.{Item, Section}
use Rattle.formats.specs.Choice.{number_exact}
use Rattle.formats.specs.Minus.{minus, not_negative, no_item, for_negatives, nought, sign_for, sign_units}
use Rattle.choosing.proofs.Choosing.{below-zero}
use Rattle.section_text.specs.Show.{sign_text}
use Rattle.planning.specs.Minus.{minus_told}

empty-told : (is : List Item) (n : ℕ) → n ≡ length is → is_empty is ≡ eqb n 0
unfolding is_empty
empty-told [] n e = sym (eq-eqb n 0 e)
empty-told (i ∷ is) n e = sym (ne_eqb n 0 (λ f. omega arith))

four : (negative empty excepted held : Bool)
    → sign_units (cond (not negative) not_negative (cond empty no_item (cond excepted for_negatives (cond held nought minus))))
    ≡ sign_text (minus_told negative empty excepted held)
unfolding sign_units sign_text minus_told
four false true a b = refl
four false false true b = refl
four false false false true = refl
four false false false false = refl
four true true a b = refl
four true false true b = refl
four true false false true = refl
four true false false false = refl

-- the units of the sign
pub sign-told : (x : Number) (s : Section) (excepted held : Bool) (n : ℕ) → n ≡ length s.items
    → sign_units (sign_for (number_exact x) s excepted held) ≡ sign_text (minus_told (lt_z x.coefficient (pos 0)) (eqb n 0) excepted held)
unfolding sign_for number_exact
sign-told x s a b n e =
    rw (below-zero (number_exact x), empty-told s.items n e) (four (lt_z x.coefficient (pos 0)) (eqb n 0) a b)

-- as the code says it
pub minus-said : (empty excepted held negative : Bool) → not empty && not excepted && not held && negative ≡ minus_told negative empty excepted held
unfolding minus_told
minus-said true excepted held negative = refl
minus-said false true held negative = refl
minus-said false false true negative = refl
minus-said false false false negative = refl
