-- The negation of a signed number, at any width: it fits where the number's distance from 0 is below half the width's power.
-- Assumes nothing.
use mathlib.Core.Path.{◌≡◌, refl, sym, ◌∙◌}
use mathlib.Core.Bool.{true, false}
use Prim.Native.Nat.{ℕ, zero, suc, ◌^◌, ◌≤◌, ◌<◌}
use native.Mathlib.Omega.{arith}
use borrow.Author.Tests.{ltb-true}
use lib.Dec.{T, ltb, leb-suc-suc, ltb→lt, leb→le}
use lib.IntN.{ℤ, pos, negsuc, neg_ℤ, nat_abs, ◌-ℤ◌, +ℤ_idl}
use lib.Signed.{mag, lt_z, non_neg}
use mir.Syntax.{Width}
use mir.Val.{SFits, hbits, to_z, of_z}
use mir.Facts.{to_z-of_z}
use lib.Dec.{leb}
use Rattle.values.specs.declared.Number.{Number}
use Rattle.figures.specs.declared.Signed.{Signed}
use Rattle.std.specs.Prelude.{Option, Some, None}
use Rattle.figures.specs.Sign.{signed_of, taken_of}
use Rattle.values.specs.Ranges.{number_in_range}
use Rattle.lists.proofs.Bools.{cond-case, and_left, and_right, true-T}

mag-nat_abs : (z : ℤ) {H : ℕ} → nat_abs z < H → mag z < H
mag-nat_abs (pos n) h = h
mag-nat_abs (negsuc n) h = omega arith

mag-negℤ : (z : ℤ) {H : ℕ} → nat_abs z < H → mag (neg_ℤ z) < H
mag-negℤ (pos zero) h = h
mag-negℤ (pos (suc n)) h = omega arith
mag-negℤ (negsuc n) h = h

pub nat_abs-negℤ : (z : ℤ) → nat_abs (neg_ℤ z) ≡ nat_abs z
nat_abs-negℤ (pos zero) = refl
nat_abs-negℤ (pos (suc n)) = refl
nat_abs-negℤ (negsuc n) = refl

module _ (w : Width) (z : ℤ) (h : nat_abs z < 2 ^ hbits w) where
  pub back : to_z w (of_z w z) ≡ z
  back = to_z-of_z (record { sfits = mag-nat_abs z h })

  -- what `-z` asks
  pub minus-fits : SFits w (pos 0 -ℤ to_z w (of_z w z))
  minus-fits = rw (back, +ℤ_idl) (record { sfits = mag-negℤ z h })

  -- what `-z` is
  pub minus_is : to_z w (of_z w (pos 0 -ℤ to_z w (of_z w z))) ≡ neg_ℤ z
  minus_is = to_z-of_z minus-fits ∙ rw (back, +ℤ_idl) refl

-- what the door answers
module _ (x : Number) where
  pub in-says : (s : Signed) → taken_of x ≡ Some s → (number_in_range x ≡ true) × (s ≡ signed_of x)
  unfolding taken_of
  in-says s =
      cond-case (λ (t : Option Signed). t ≡ Some s → (number_in_range x ≡ true) × (s ≡ signed_of x)) (number_in_range x)
      (λ b e. let q : s ≡ signed_of x = cc in (b, q))
      (λ b e. cc)

  pub out-says : taken_of x ≡ None → number_in_range x ≡ false
  unfolding taken_of
  out-says =
      cond-case (λ (t : Option Signed). t ≡ None → number_in_range x ≡ false) (number_in_range x)
      (λ b e. cc)
      (λ b e. b)

  pub range-says : number_in_range x ≡ true → ((signed_of x).magnitude < 10 ^ 15) × ((signed_of x).scale ≤ 15)
  unfolding signed_of
  range-says e =
      let t = true-T e in (
        ltb→lt (nat_abs x.coefficient) (10 ^ 15) (and_left (ltb (nat_abs x.coefficient) (10 ^ 15)) (leb x.scale 15) t),
        leb→le x.scale 15 (and_right (ltb (nat_abs x.coefficient) (10 ^ 15)) (leb x.scale 15) t),
      )
