-- The laws of the tests on one head.
-- Assumes nothing.
use Prim.Native.Nat.{ℕ, ◌+◌, ◌-◌, ◌*◌, ◌/◌, ◌<◌}
use native.Mathlib.Omega.{arith}
use mathlib.Core.Path.{◌≡◌, refl, sym, ◌∙◌, ap}
use mathlib.Core.Bool.{Bool, true, false, ◌&&◌, beq}
use lib.Dec.{T, leb, eqb, eqb→eq}
use borrow.Author.Tests.{eq-eqb}
use Rattle.lists.proofs.Bools.{and_left, and_right, same_test, true-T}
use Rattle.tables.specs.Words.{Head}
use Rattle.tables.specs.Decode.{two_words, whole_at, millionths_at, thousands_at}
use Rattle.tables.specs.Rules.{shift_tells}
use Rattle.checking.specs.Checking.{agree, compared_told, condition_told}

-- no condition, and its words: their sum is 0 where each is
none-compared : (negative a b c d : ℕ)
    → eqb (negative + a + b + c + d) 0 ≡ compared_told 0 negative (a + 65536 * b) (c + 65536 * d)
none-compared negative a b c d = same_test _ _ into out
  where
    into : T (eqb (negative + a + b + c + d) 0) → T (compared_told 0 negative (a + 65536 * b) (c + 65536 * d))
    into t =
        let z : negative + a + b + c + d ≡ 0 = eqb→eq _ _ t in
        let n : negative ≡ 0 = omega arith in
        let w : a + 65536 * b ≡ 0 = omega arith in
        let m : c + 65536 * d ≡ 0 = omega arith in
        rw (n, w, m) tt

    out : T (compared_told 0 negative (a + 65536 * b) (c + 65536 * d)) → T (eqb (negative + a + b + c + d) 0)
    out t =
        let n : negative ≡ 0 = search (and_left, and_right, eqb→eq) depth 10 in
        let w : a + 65536 * b ≡ 0 = search (and_left, and_right, eqb→eq) depth 10 in
        let m : c + 65536 * d ≡ 0 = search (and_left, and_right, eqb→eq) depth 10 in
        let z : negative + a + b + c + d ≡ 0 = omega arith in
        true-T (eq-eqb _ _ z)

pub no-condition : (h : Head) → h.operator ≡ 0
    → eqb (h.negative + h.whole_low + h.whole_high + h.millionths_low + h.millionths_high) 0 ≡ condition_told h
unfolding condition_told whole_at millionths_at two_words
no-condition h e =
    none-compared h.negative h.whole_low h.whole_high h.millionths_low h.millionths_high
    ∙ ap (λ (o : ℕ). compared_told o h.negative (whole_at h) (millionths_at h)) (sym e)

pub thousands-some : (shift percents : ℕ) → (15 + 2 * percents - shift) / 3 ≡ thousands_at shift percents
unfolding thousands_at
thousands-some shift percents = refl

pub thousands-none : (shift percents : ℕ) → 15 + 2 * percents < shift → 0 ≡ thousands_at shift percents
unfolding thousands_at
thousands-none shift percents h = omega arith

pub shift-plain : (shift percents : ℕ) → (eqb shift 15 && eqb percents 0) ≡ true → true ≡ shift_tells shift percents
unfolding shift_tells thousands_at
shift-plain shift percents t =
    let s : shift ≡ 15 = eqb→eq _ _ (and_left (eqb shift 15) (eqb percents 0) (true-T t)) in
    let p : percents ≡ 0 = eqb→eq _ _ (and_right (eqb shift 15) (eqb percents 0) (true-T t)) in
    rw (s, p)

pub shift-told : (shift percents t : ℕ) → t ≡ thousands_at shift percents
    → (leb t 5 && eqb (shift + 3 * t) (15 + 2 * percents)) ≡ shift_tells shift percents
unfolding shift_tells
shift-told shift percents t e = rw e

-- two answers that are equal
pub agree-told : (a b : Bool) → beq a b ≡ agree a b
agree-told true true = refl
agree-told true false = refl
agree-told false true = refl
agree-told false false = refl
