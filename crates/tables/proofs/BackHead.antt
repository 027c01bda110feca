-- The words of a head that are in range and fit are those of the condition and of the shift that they tell.
-- Assumes nothing.
use Prim.Native.Nat.{ℕ, ◌+◌, ◌-◌, ◌*◌, ◌/◌, ◌%◌, ◌^◌, ◌≤◌, ◌<◌}
use native.Mathlib.Omega.{arith}
use mathlib.Core.Path.{◌≡◌, refl, sym}
use mathlib.Core.Bool.{Bool, true, false, cond, ◌&&◌}
use mathlib.Core.Option.{Option}
use lib.Dec.{T, ltb, eqb, lt→ltb, eqb→eq}
use borrow.Author.Tests.{eqb-true, eqb-false}
use Rattle.lists.proofs.Bools.{and_left, and_right, and_in, implied, implies-in, by_cases, cond-case}
use Rattle.formats.specs.Items.{Condition}
use Rattle.formats.specs.Where.{implies}
use Rattle.formats.specs.WellFormed.{condition_in_range}
use Rattle.tables.specs.Words.{Head}
use Rattle.tables.specs.Encode.{comparison_word, operator_word, bit, negative_word, whole_part, millionths_part, low_word, high_word}
use Rattle.tables.specs.Decode.{comparison_at, two_words, whole_at, millionths_at, condition_at, thousands_at}
use Rattle.tables.specs.Rules.{condition_fits, shift_tells}
use Rattle.tables.proofs.Ranges.{HeadRanges}
use Rattle.tables.proofs.BackEntries.{span-at}

-- with no comparison there is no number, and with no number no sign
pub record ConditionFacts (h : Head) : Type 0 where
  pub missing : h.operator ≡ 0 → (h.negative ≡ 0) × (whole_at h ≡ 0) × (millionths_at h ≡ 0)
  pub unsigned : whole_at h ≡ 0 → millionths_at h ≡ 0 → h.negative ≡ 0

pub condition-facts : (h : Head) → T (condition_fits h) → ConditionFacts h
unfolding condition_fits
condition-facts h t = record { missing = missing; unsigned = unsigned }
  where
    zeros : Bool
    zeros = eqb h.negative 0 && eqb (whole_at h) 0 && eqb (millionths_at h) 0

    no_number : Bool
    no_number = eqb (whole_at h) 0 && eqb (millionths_at h) 0

    missing : h.operator ≡ 0 → (h.negative ≡ 0) × (whole_at h ≡ 0) × (millionths_at h ≡ 0)
    missing e =
        let rule : T (implies (eqb h.operator 0) zeros) = search and_left in
        let all : T zeros = implied (eqb h.operator 0) zeros rule (rw e tt) in
        search (and_left, and_right, eqb→eq)

    unsigned : whole_at h ≡ 0 → millionths_at h ≡ 0 → h.negative ≡ 0
    unsigned w m =
        let rule : T (implies no_number (eqb h.negative 0)) = search and_right in
        eqb→eq h.negative 0 (implied no_number (eqb h.negative 0) rule (rw (w, m) tt))

-- a number's two words
pub low-back : (low high : ℕ) → low < 65536 → low_word (two_words low high) ≡ low
unfolding low_word two_words
low-back low high h = omega arith

pub high-back : (low high : ℕ) → low < 65536 → high_word (two_words low high) ≡ high
unfolding high_word two_words
high-back low high h = omega arith

comparison-back : (o : ℕ) → 1 ≤ o → o ≤ 6 → comparison_word (comparison_at o) ≡ o
unfolding comparison_word comparison_at
comparison-back o least most =
    span-at (λ n. comparison_word (comparison_at n) ≡ n) 1 6 o (refl, (refl, (refl, (refl, (refl, (refl, tt)))))) least (omega arith)

bit-back : (n : ℕ) → n ≤ 1 → bit (eqb n 1) ≡ n
unfolding bit
bit-back n most = span-at (λ k. bit (eqb k 1) ≡ k) 0 2 n (refl, (refl, tt)) (omega arith) (omega arith)

-- a condition has the words of this head
pub record ConditionBack (h : Head) (c : Option Condition) : Type 0 where
  pub operator : operator_word c ≡ h.operator
  pub negative : negative_word c ≡ h.negative
  pub whole : whole_part c ≡ whole_at h
  pub millionths : millionths_part c ≡ millionths_at h

pub condition-back : (h : Head) → HeadRanges h → ConditionFacts h → ConditionBack h (condition_at h)
unfolding condition_at operator_word negative_word whole_part millionths_part
condition-back h f c =
    cond-case (ConditionBack h) (eqb h.operator 0)
    (λ e. let z : h.operator ≡ 0 = eqb-true h.operator 0 e in
    record {
      operator = sym z;
      negative = sym (c.missing z).0;
      whole = sym (c.missing z).1;
      millionths = sym (c.missing z).2;
    })
    (λ e. record {
      operator = comparison-back h.operator (positive (eqb-false h.operator 0 e)) f.operator;
      negative = bit-back h.negative f.negative;
      whole = whole_back (whole_at h) (millionths_at h) f.millionths;
      millionths = millionths-back (whole_at h) (millionths_at h) f.millionths;
    })
  where
    positive : (h.operator ≡ 0 → ⊥) → 1 ≤ h.operator
    positive apart = omega arith

    whole_back : (w m : ℕ) → m ≤ 999999 → (w * 10 ^ 6 + m) / 10 ^ 6 ≡ w
    whole_back w m most = omega arith

    millionths-back : (w m : ℕ) → m ≤ 999999 → (w * 10 ^ 6 + m) % 10 ^ 6 ≡ m
    millionths-back w m most = omega arith

pub condition-ranged : (h : Head) → HeadRanges h → ConditionFacts h → T (condition_in_range (condition_at h))
unfolding condition_at condition_in_range
condition-ranged h f c =
    cond-case (λ k. T (condition_in_range k)) (eqb h.operator 0) (λ _. tt)
    (λ _.
    let bound : T (ltb number (10 ^ 15)) =
    lt→ltb number (10 ^ 15) (below (whole_at h) (millionths_at h) f.whole f.millionths) in
    let sign : T (implies (eqb h.negative 1) (ltb 0 number)) =
    implies-in (eqb h.negative 1) (ltb 0 number)
    (λ e. lt→ltb 0 number (positive (whole_at h) (millionths_at h) h.negative c.unsigned (eqb-true h.negative 1 e))) in
    search and_in)
  where
    number : ℕ
    number = whole_at h * 10 ^ 6 + millionths_at h

    below : (w m : ℕ) → w ≤ 999999999 → m ≤ 999999 → w * 10 ^ 6 + m < 10 ^ 15
    below w m whole_most millionths_most = omega arith

    positive : (w m n : ℕ) → (w ≡ 0 → m ≡ 0 → n ≡ 0) → n ≡ 1 → 0 < w * 10 ^ 6 + m
    positive w m n unsigned e =
        by_cases (eqb (w * 10 ^ 6 + m) 0)
        (λ z. absurd (none (eqb-true (w * 10 ^ 6 + m) 0 z)))
        (λ z. some (eqb-false (w * 10 ^ 6 + m) 0 z))
      where
        none : w * 10 ^ 6 + m ≡ 0 → ⊥
        none z = omega (arith, unsigned (omega arith) (omega arith))

        some : (w * 10 ^ 6 + m ≡ 0 → ⊥) → 0 < w * 10 ^ 6 + m
        some z = omega arith

-- a shift that tells its commas is the shift of those commas; the test is whether the section is a number section
pub shift_back : (is_number : Bool) (shift percents : ℕ) → T (cond is_number (shift_tells shift percents) (eqb shift 0))
    → cond is_number (15 + 2 * percents - 3 * cond is_number (thousands_at shift percents) 0) 0 ≡ shift
unfolding shift_tells
shift_back true shift percents t =
    let tells : shift + 3 * thousands_at shift percents ≡ 15 + 2 * percents = search (and_right, eqb→eq) in
    omega arith
shift_back false shift percents t = sym (eqb→eq shift 0 t)
