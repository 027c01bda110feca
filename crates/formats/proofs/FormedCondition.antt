-- The number of a condition within the limits is in range.
-- Assumes nothing.
use Prim.Native.Nat.{ℕ, zero, suc, ◌+◌, ◌-◌, ◌*◌, ◌^◌, ◌≤◌, ◌<◌}
use native.Mathlib.Omega.{arith}
use native.Mathlib.Nat.{pow-suc, pow-le-pow_right, mul-le-mul_right, mul-lt-mul_of_pos_right}
use mathlib.Core.Path.{◌≡◌, refl, sym, ◌∙◌, ap}
use mathlib.Core.Bool.{Bool, true, false, not, ◌&&◌}
use mathlib.Core.List.{List, [], ◌∷◌}
use mathlib.Core.Option.{Option, none, some}
use lib.ListN.{length}
use lib.Pow.{pow-add}
use lib.Dec.{T, leb, ltb, eqb, leb→le, ltb→lt, lt→ltb}
use Rattle.lists.specs.Lists.{every}
use Rattle.lists.proofs.Bools.{and_left, and_right, and_in, every-head, every-tail, or_right}
use Rattle.formats.specs.Tokens.{Written, number_from}
use Rattle.formats.specs.Kinds.{millionths_of, condition_of}
use Rattle.formats.specs.Where.{implies}
use Rattle.formats.specs.Limits.{written_within}
use Rattle.formats.specs.WellFormed.{condition_in_range}
use Rattle.formats.proofs.TokenRanges.{written_in_range, condition_digits}

-- a digit more: the algebra over plain variables
digit-more : (v d p : ℕ) → d < 10 → suc (10 * v + d) * p ≤ suc v * (p * 10)
digit-more v d p h =
    let m : suc (10 * v + d) * p ≤ (10 * suc v) * p = mul-le-mul_right p (omega arith) in
    let e : (10 * suc v) * p ≡ suc v * (p * 10) = omega arith in
    omega arith

-- as many digits as there are make a number below that power of ten
number-below : (v : ℕ) (ds : List ℕ) → T (every (λ (d : ℕ). ltb d 10) ds) → number_from v ds < suc v * 10 ^ length ds
unfolding number_from
number-below v [] t = omega arith
number-below v (d ∷ ds) t =
    let h : d < 10 = ltb→lt d 10 (every-head (λ (d : ℕ). ltb d 10) d ds t) in
    let r : number_from (10 * v + d) ds < suc (10 * v + d) * 10 ^ length ds = number-below (10 * v + d) ds (every-tail (λ (d : ℕ). ltb d 10) d ds t) in
    let m : suc (10 * v + d) * 10 ^ length ds ≤ suc v * (10 ^ length ds * 10) = digit-more v d (10 ^ length ds) h in
    let e : 10 ^ suc (length ds) ≡ 10 ^ length ds * 10 = pow-suc 10 (length ds) in
    rw e (omega arith)

pow-positive : (n : ℕ) → 0 < 10 ^ n
pow-positive n = pow-le-pow_right {n = 10} (omega arith) {i = 0} {j = n} (omega arith)

-- digits with room for n more, moved to the front of n places
digits-fill : (m n : ℕ) (ds : List ℕ) → T (every (λ (d : ℕ). ltb d 10) ds) → length ds ≤ m → n ≡ m - length ds
    → number_from 0 ds * 10 ^ n < 10 ^ m
digits-fill m n ds t h e =
    let b : number_from 0 ds < 1 * 10 ^ length ds = number-below 0 ds t in
    let c : number_from 0 ds < 10 ^ length ds = omega arith in
    let q : number_from 0 ds * 10 ^ n < 10 ^ length ds * 10 ^ n = mul-lt-mul_of_pos_right c (pow-positive n) in
    let s : length ds + n ≡ m = omega arith in
    let p : 10 ^ m ≡ 10 ^ length ds * 10 ^ n = ap (λ (k : ℕ). 10 ^ k) (sym s) ∙ pow-add 10 (length ds) n in
    omega arith

digits-most : (m : ℕ) (ds : List ℕ) → T (every (λ (d : ℕ). ltb d 10) ds) → length ds ≤ m → number_from 0 ds < 10 ^ m
digits-most m ds t h =
    let b : number_from 0 ds < 1 * 10 ^ length ds = number-below 0 ds t in
    let p : 10 ^ length ds ≤ 10 ^ m = pow-le-pow_right {n = 10} (omega arith) h in
    omega arith

millionths-below : (w : Written) → T (condition_digits (some w)) → T (written_within (some w)) → millionths_of w < 10 ^ 15
unfolding condition_digits written_in_range written_within millionths_of
millionths-below w t u =
    let a : T (every (λ (d : ℕ). ltb d 10) w.whole) = search and_left in
    let b : T (every (λ (d : ℕ). ltb d 10) w.decimals) = search (and_left, and_right) in
    let c : T (leb (length w.whole) 9) = search and_left in
    let d : T (leb (length w.decimals) 6) = search (and_left, and_right) in
    let m : number_from 0 w.whole < 10 ^ 9 = digits-most 9 w.whole a (leb→le (length w.whole) 9 c) in
    let n : number_from 0 w.decimals * 10 ^ (6 - length w.decimals) < 10 ^ 6
    = digits-fill 6 (6 - length w.decimals) w.decimals b (leb→le (length w.decimals) 6 d) refl in
    omega arith

-- "0 at zero" for the sign
sign-false : (negative : Bool) (n : ℕ) → T (implies (negative && not (eqb n 0)) (ltb 0 n))
sign-false false n = tt
sign-false true zero = tt
sign-false true (suc n) = or_right (not (not (eqb (suc n) 0))) (ltb 0 (suc n)) (lt→ltb 0 (suc n) (omega arith))

pub condition-in-range : (o : Option Written) → T (condition_digits o) → T (written_within o) → T (condition_in_range (condition_of o))
unfolding condition_of condition_in_range
condition-in-range none t u = tt
condition-in-range (some w) t u =
    and_in (ltb (millionths_of w) (10 ^ 15)) (implies (w.negative && not (eqb (millionths_of w) 0)) (ltb 0 (millionths_of w)))
    (lt→ltb (millionths_of w) (10 ^ 15) (millionths-below w t u)) (sign-false w.negative (millionths_of w))
