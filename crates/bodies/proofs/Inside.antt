-- The condition that units inside a bracket write, part by part.
-- Assumes nothing.
use Prim.Native.Nat.{ℕ, zero, suc, ◌+◌, ◌-◌, ◌≤◌, min}
use mathlib.Core.Path.{◌≡◌, refl, sym, ◌∙◌}
use mathlib.Core.Bool.{Bool, true, false, cond, not, ◌&&◌, and-false, true≢false}
use mathlib.Core.List.{List, [], ◌∷◌, map}
use mathlib.Core.Option.{Option, none, some}
use native.Mathlib.Omega.{arith}
use native.Mathlib.Numerals.{add-one}
use native.Mathlib.Nat.{min_comm}
use lib.Dec.{leb, ltb, eqb}
use borrow.Author.Tests.{ltb-true, ltb-false, ne_eqb, eq-eqb, eqb-true, eqb-false}
use lib.ListN.{length, take, drop, get_or, length-drop, drop_of_length-le}
use Rattle.std.proofs.lemmas.List.{take_min}
use lib.Seq.{drop-drop, get_or-drop, take_all}
use Rattle.calendar.specs.Names.{units}
use Rattle.lists.specs.Lists.{every, is_empty, is_some}
use Rattle.lists.proofs.Bools.{by_cases, cond_both}
use Rattle.formats.specs.Tokens.{Token, condition, Comparison, equal, less, greater, at_most, at_least, unequal, starts_with, leading, is_digit, digit_of, decimals_of, whole_of, signed_of, condition_inside}
use Rattle.formats.specs.Kinds.{condition_in}
use Rattle.std.specs.Prelude as std
use Rattle.tables.specs.Encode.{comparison_word}
use Rattle.tables.specs.Decode.{comparison_at}
use Rattle.marks.specs.Marks.{mark_rows, written_or, written_in, condition_of, mark_token, token_at}
use Rattle.bodies.specs.Forms.{one}
use Rattle.bodies.specs.Conditions.{written_inside, operator_by, operator_width, operator_in, signed_in, negative_in, number_in, whole_units, decimal_units, written_of, AmountOf, ComparedBy}
use Rattle.bodies.specs.declared.conditions.Amount.{Amount}
use Rattle.bodies.proofs.Comparing.{word_back}

-- a word of one or two units, none of which is 0
starts-one : (a : ℕ) (us : List ℕ) → eqb a 0 ≡ false → starts_with (a ∷ []) us ≡ eqb a (get_or us 0 0)
unfolding starts_with
starts-one a [] e = sym e
starts-one a (u ∷ us) e = by_cases (eqb a u) (λ t. rw t) (λ t. rw t)

starts-two : (a b : ℕ) (us : List ℕ) → eqb a 0 ≡ false → eqb b 0 ≡ false → starts_with (a ∷ b ∷ []) us ≡ (eqb a (get_or us 0 0) && eqb b (get_or us 1 0))
unfolding starts_with
starts-two a b [] e f = rw e
starts-two a b (u ∷ us) e f = by_cases (eqb a u) (λ t. rw t (starts-one b us f)) (λ t. rw t)

-- the comparison at the start
by_operator : List ℕ → ℕ → Option Token
by_operator us n = cond (eqb n 0) none (signed_of (comparison_at n) (drop (operator_width n) us))

operator-found : (us : List ℕ) → condition_inside us ≡ by_operator us (operator_in us)
unfolding condition_inside units operator_in by_operator comparison_at
operator-found us =
    rw (starts-two 60 61 us refl refl, starts-two 62 61 us refl refl, starts-two 60 62 us refl refl, starts-one 61 us refl, starts-one 60 us refl, starts-one 62 us refl)
    (go (eqb 60 (get_or us 0 0) && eqb 61 (get_or us 1 0)) (eqb 62 (get_or us 0 0) && eqb 61 (get_or us 1 0)) (eqb 60 (get_or us 0 0) && eqb 62 (get_or us 1 0))
    (eqb 61 (get_or us 0 0)) (eqb 60 (get_or us 0 0)) (eqb 62 (get_or us 0 0)))
  where
    go : (a b c d e f : Bool)
        → cond a (signed_of at_most (drop 2 us)) (cond b (signed_of at_least (drop 2 us)) (cond c (signed_of unequal (drop 2 us))
        (cond d (signed_of equal (drop 1 us)) (cond e (signed_of less (drop 1 us)) (cond f (signed_of greater (drop 1 us)) none)))))
        ≡ by_operator us (cond a 4 (cond b 5 (cond c 6 (cond d 1 (cond e 2 (cond f 3 0))))))
    go true b c d e f = refl
    go false true c d e f = refl
    go false false true d e f = refl
    go false false false true e f = refl
    go false false false false true f = refl
    go false false false false false true = refl
    go false false false false false false = refl

-- a minus, if there is one
minus-found : (c : Comparison) (us : List ℕ) → signed_of c us ≡ whole_of c (eqb 45 (get_or us 0 0)) (drop (one (eqb 45 (get_or us 0 0))) us)
unfolding signed_of units
minus-found c us = rw (starts-one 45 us refl) (by_cases (eqb 45 (get_or us 0 0)) (λ e. rw e) (λ e. rw e))

-- what a number's digits write
module _ (n : ℕ) (negative : Bool) where
  decimals-found : (whole rest : List ℕ) → is_some (decimals_of (comparison_at n) negative whole rest) ≡ true
      → (decimals_of (comparison_at n) negative whole rest
      ≡ some (condition (record { comparison = comparison_at n; negative = negative; whole = map digit_of whole; decimals = map digit_of (drop 1 rest) })))
      × (every is_digit (drop 1 rest) ≡ true)
  unfolding decimals_of is_some every
  decimals-found whole [] e = (refl, refl)
  decimals-found whole (u ∷ us) e = by_cases (eqb u 46 && not (is_empty us) && every is_digit us)
      (λ t. (rw t, all-last (eqb u 46) (not (is_empty us)) (every is_digit us) t))
      (λ t. absurd (true≢false (sym (rw t at e))))
    where
      all-last : (a b c : Bool) → (a && b && c) ≡ true → c ≡ true
      all-last true true c e = e
      all-last true false c e = absurd (true≢false (sym e))
      all-last false b c e = absurd (true≢false (sym e))

  whole-found : (us : List ℕ) → is_some (whole_of (comparison_at n) negative us) ≡ true
      → (whole_of (comparison_at n) negative us ≡ some (condition (written_of n negative us))) × (every is_digit (decimal_units us) ≡ true)
  unfolding whole_of is_some written_of whole_units decimal_units
  whole-found us e = by_cases (eqb (leading is_digit us) 0)
      (λ t. absurd (true≢false (sym (rw t at e))))
      (λ t. let d = decimals-found (take (leading is_digit us) us) (drop (leading is_digit us) us) (rw t at e) in
      rw (t, ← (drop-drop 1 (leading is_digit us) us)) d)

-- ---- the units of a condition
pub record Read (us : List ℕ) : Type 0 where
  pub compares : eqb (operator_in us) 0 ≡ false
  pub same : written_inside us ≡ written_of (operator_in us) (negative_in us) (number_in us)
  pub decimals : every is_digit (decimal_units (number_in us)) ≡ true

pub read-inside : (us : List ℕ) → is_some (condition_inside us) ≡ true → Read us
unfolding by_operator written_inside is_some written_or written_in condition_in signed_in negative_in number_in
read-inside us e = by_cases (eqb (operator_in us) 0)
    (λ t. let None-found : condition_inside us ≡ none = operator-found us ∙ rw t in absurd (true≢false (sym (rw None-found at e))))
    (λ t.
    let found : condition_inside us ≡ whole_of (comparison_at (operator_in us)) (negative_in us) (number_in us)
    = operator-found us ∙ rw t (minus-found (comparison_at (operator_in us)) (signed_in us)) in
    let d = whole-found (operator_in us) (negative_in us) (number_in us) (rw found at e) in
    record { compares = t; same = rw (found, d.0); decimals = d.1 })

-- ---- the parts
operator-most : (u v : ℕ) → operator_by u v ≤ 6
operator-most u v =
    cond_both (λ n. n ≤ 6) (eqb 60 u && eqb 61 v) (omega arith)
    (cond_both (λ n. n ≤ 6) (eqb 62 u && eqb 61 v) (omega arith)
    (cond_both (λ n. n ≤ 6) (eqb 60 u && eqb 62 v) (omega arith)
    (cond_both (λ n. n ≤ 6) (eqb 61 u) (omega arith)
    (cond_both (λ n. n ≤ 6) (eqb 60 u) (omega arith) (cond_both (λ n. n ≤ 6) (eqb 62 u) (omega arith) (omega arith))))))

width-most : (n : ℕ) → operator_width n ≤ 2
width-most n = by_cases (leb n 3) (λ e. rw e (omega arith)) (λ e. rw e (omega arith))

one_unit : (a b c : Bool) → operator_width (cond a 1 (cond b 2 (cond c 3 0))) ≤ 1
one_unit true b c = omega arith
one_unit false true c = omega arith
one_unit false false true = omega arith
one_unit false false false = omega arith

-- a comparison stands among the units
operator-room : (us : List ℕ) → eqb (operator_in us) 0 ≡ false → operator_width (operator_in us) ≤ length us
unfolding operator_in
operator-room [] e = absurd (true≢false e)
operator-room (u ∷ []) e = rw (and-false (eqb 60 u), and-false (eqb 62 u)) (one_unit (eqb 61 u) (eqb 60 u) (eqb 62 u))
operator-room (u ∷ v ∷ us) e = let w = width-most (operator_by u v) in omega arith

-- the units of a condition in their parts: its comparison, whether a minus stands behind that, and the place of its number
pub record Parted (us : List ℕ) (operator : ℕ) (negative : Bool) (from : ℕ) : Type 0 where
  pub compares : operator ≡ operator_in us
  pub minus : negative ≡ negative_in us
  pub behind : from ≡ operator_width operator + one negative

flip : (a b : ℕ) → eqb a b ≡ eqb b a
flip a b = by_cases (eqb a b) (λ e. e ∙ sym (eq-eqb b a (sym (eqb-true a b e)))) (λ e. e ∙ sym (ne_eqb b a (λ h. eqb-false a b e (sym h))))

pub parted : (us : List ℕ) (u v operator width unit k : ℕ)
    → u ≡ get_or us 0 0 → v ≡ get_or us 1 0 → operator ≡ operator_by u v → width ≡ operator_width operator → unit ≡ get_or us width 0
    → k ≡ one (eqb unit 45) → Parted us operator (eqb unit 45) (width + k)
unfolding operator_in negative_in signed_in
parted us u v operator width unit k first second compares wide behind minus =
    let o : operator ≡ operator_by (get_or us 0 0) (get_or us 1 0) = compares ∙ rw (first, second) in
    let z : width + 0 ≡ width = omega arith in
    record {
      compares = o;
      minus = rw (← o, ← wide, get_or-drop width us 0 0, z, ← behind) (flip unit 45);
      behind = rw (wide, minus);
    }

-- a minus stands among the units
minus-room : (us : List ℕ) (w : ℕ) → w ≤ length us → w + one (eqb 45 (get_or (drop w us) 0 0)) ≤ length us
minus-room us w h = by_cases (ltb w (length us))
    (λ t. let l = ltb-true w (length us) t in let m = one-most (eqb 45 (get_or (drop w us) 0 0)) in omega arith)
    (λ t. rw (drop_of_length-le us {i = w} (ltb-false w (length us) t)) (omega arith))
  where
    one-most : (b : Bool) → one b ≤ 1
    one-most true = omega arith
    one-most false = omega arith

module _ (us : List ℕ) (found : is_some (condition_inside us) ≡ true) (operator : ℕ) (negative : Bool) (from : ℕ) (p : Parted us operator negative from) where
  pub from-inside : from ≤ length us
  unfolding negative_in signed_in
  from-inside =
      rw (p.behind, p.compares, p.minus) (minus-room us (operator_width (operator_in us)) (operator-room us (read-inside us found).compares))

  number_same : number_in us ≡ take (length us - from) (drop from us)
  unfolding number_in signed_in
  number_same =
      rw (← p.compares, ← p.minus, drop-drop (one negative) (operator_width operator) us, ← p.behind)
      (sym (take_all (length us - from) (drop from us) (rw (length-drop from us) (omega arith))))

  pub number-digits : every is_digit (decimal_units (take (length us - from) (drop from us))) ≡ true
  number-digits = rw (← number_same) (read-inside us found).decimals

  pub compared-inside : (r : std.Option Amount) → ((o : ℕ) → AmountOf (written_of o negative (take (length us - from) (drop from us))) r)
      → ComparedBy (written_inside us) (record { operator = operator; amount = r })
  unfolding operator_in written_of
  compared-inside r a =
      let i = read-inside us found in
      let most : operator_in us ≤ 6 = operator-most (get_or us 0 0) (get_or us 1 0) in
      let o : operator ≡ comparison_word (comparison_at (operator_in us)) = p.compares ∙ word_back (operator_in us) most i.compares in
      rw (i.same, ← p.minus, number_same) (record { operator = o; amount = a (operator_in us) })

-- the bracket has units behind its first one
inside-none : (n : ℕ) → is_some (condition_inside (take n [])) ≡ false
unfolding condition_inside is_some units starts_with
inside-none zero = refl
inside-none (suc n) = refl

pub start-inside : (code : List ℕ) (start size : ℕ) → is_some (condition_inside (take size (drop (suc start) code))) ≡ true → suc start ≤ length code
start-inside code start size e = by_cases (ltb start (length code)) (λ t. let h = ltb-true start (length code) t in omega arith)
    (λ t. let h = ltb-false start (length code) t in absurd (true≢false (sym e ∙ rw (drop_of_length-le code {i = suc start} (omega arith)) (inside-none size))))

-- the units in the bracket, which end with the code
pub inside-units : (code : List ℕ) (start size from n : ℕ) → from ≡ start → n ≡ min (length (take (length code - (from + 1)) (drop (from + 1) code))) size
    → take n (take (length code - (from + 1)) (drop (from + 1) code)) ≡ take size (drop (suc start) code)
inside-units code start size from n e m =
    let us : List ℕ = drop (suc start) code in
    let all : take (length code - suc start) us ≡ us = take_all (length code - suc start) us (rw (length-drop (suc start) code) (omega arith)) in
    rw (m, e, add-one start, all, min_comm (length us) size) (take_min size us)

-- the token of a condition has the condition that its units write
pub condition-at : (code : List ℕ) (size start : ℕ) → condition_in (token_at code 24 size start) ≡ some (written_inside (take size (drop (suc start) code)))
unfolding condition_in token_at mark_token mark_rows condition_of written_inside
condition-at code size start = refl
