-- Laws of digits stored the last one first, and of numerals.
-- Assumes nothing.
use mathlib.Core.Path.{◌≡◌, refl, sym, ap, ap₂, ◌∙◌}
use mathlib.Core.List.{List, [], ◌∷◌, ◌++◌}
use Prim.Native.Nat.{ℕ, zero, suc, ◌+◌, ◌-◌, ◌/◌, ◌%◌, ◌^◌, ◌<◌, ◌≤◌, max}
use native.Mathlib.Nat.{div-div-eq-div-mul, pow-suc, mul_comm, max-eq_left, max-eq_right, max-le}
use native.Mathlib.Omega.{arith}
use native.Mathlib.Decide.{dec_lt}
use lib.ListN.{length, set}
use lib.Seq.{sets}
use Rattle.figures.specs.Digits.{digit, digit_units, width, numeral}
use Rattle.figures.proofs.Digits.{digit_units-length, width-most, width-unique}
use Rattle.writing.specs.Put.{Put}
use Rattle.writing.proofs.Laws.{sets_last, put-out, put-size}

-- a digit one place higher is a digit of the tenth
pub digit-tenth : (n k : ℕ) → digit n (suc k) ≡ digit (n / 10) k
unfolding digit
digit-tenth n k =
    ap (λ (x : ℕ). x % 10)
    (ap (λ (x : ℕ). n / x) (pow-suc 10 k ∙ mul_comm (10 ^ k) 10) ∙ sym (div-div-eq-div-mul n 10 (10 ^ k)))

digit-last : (n : ℕ) → digit n 0 ≡ n % 10
unfolding digit
digit-last n = omega arith

-- the last digit, and those before it
pub digits_last : (m n : ℕ) → digit_units (suc m) n ≡ digit_units m (n / 10) ++ ((48 + n % 10) ∷ [])
unfolding digit_units
digits_last zero n = rw (digit-last n)
digits_last (suc m) n = ap₂ (λ (x : ℕ) (l : List ℕ). (48 + x) ∷ l) (digit-tenth n m) (digits_last m n)

-- digits stored the last one first: those left, of `rest` up to place `o`, lead to what all of them give
pub record Peeled (old : List ℕ) (at count n : ℕ) (room : List ℕ) (o rest : ℕ) : Type 0 where
  pub same : sets room at (digit_units (o - at) rest) ≡ sets old at (digit_units count n)
  pub least : at ≤ o
  pub most : o ≤ at + count
  pub size : length room ≡ length old

pub peeled-start : (l : List ℕ) (at count n : ℕ) → Peeled l at count n l (at + count) n
peeled-start l at count n =
    let e : at + count - at ≡ count = omega arith in
    record { same = ap (λ (k : ℕ). sets l at (digit_units k n)) e; least = omega arith; most = omega arith; size = refl }

step : (l : List ℕ) (at m n : ℕ)
    → sets (set l (at + m) (48 + n % 10)) at (digit_units m (n / 10)) ≡ sets l at (digit_units (suc m) n)
step l at m n =
    let e : length (digit_units m (n / 10)) ≡ m = digit_units-length m (n / 10) in
    ap (λ (k : ℕ). sets (set l (at + k) (48 + n % 10)) at (digit_units m (n / 10))) (sym e)
    ∙ sets_last l at (digit_units m (n / 10)) (48 + n % 10)
    ∙ ap (sets l at) (sym (digits_last m n))

pub peeled-put : {l m o : List ℕ} {at count n a rest r : ℕ} → Peeled l at count n m a rest → at < a
    → Put m (a - 1) ((48 + rest % 10) ∷ []) r o → Peeled l at count n o (a - 1) (rest / 10)
peeled-put {l} {m} {o} {at} {count} {n} {a} {rest} x h y =
    let k : ℕ = a - 1 - at in
    let e : at + k ≡ a - 1 = omega arith in
    let f : suc k ≡ a - at = omega arith in
    record {
      same = ap (λ (i : List ℕ). sets i at (digit_units k (rest / 10))) (y.room ∙ ap (λ (i : ℕ). set m i (48 + rest % 10)) (sym e))
          ∙ step m at k rest ∙ ap (λ (i : ℕ). sets m at (digit_units i rest)) f ∙ x.same;
      least = omega arith;
      most = omega (arith, x.most);
      size = put-size y ∙ x.size;
    }

pub peeled-done : {l m : List ℕ} {at count n o rest : ℕ} → Peeled l at count n m o rest → o ≤ at
    → Put l at (digit_units count n) (at + count) m
unfolding digit_units
peeled-done {l} {m} {at} {count} {n} {o} {rest} x h =
    let e : 0 ≡ o - at = omega arith in
    record {
      next = ap (λ (k : ℕ). at + k) (sym (digit_units-length count n));
      room = ap (λ (k : ℕ). sets m at (digit_units k rest)) e ∙ x.same;
    }

-- digits at or past the room's end
pub digits-out : (l : List ℕ) (at count n : ℕ) → length l ≤ at → Put l at (digit_units count n) (at + count) l
digits-out l at count n h = rw (digit_units-length count n) at (put-out l at (digit_units count n) h)

-- the two digits of a number below 100
pub digits-two : (n : ℕ) → n < 100 → digit_units 2 n ≡ ((48 + n / 10) ∷ []) ++ ((48 + n % 10) ∷ [])
unfolding digit_units digit
digits-two n h =
    let e : n / 10 ^ 1 % 10 ≡ n / 10 = omega arith in
    let f : n / 10 ^ 0 % 10 ≡ n % 10 = omega arith in
    rw (e, f)

width_one : (n : ℕ) → n < 10 → width n ≡ 1
width_one n h = width-unique n 1 (omega arith) (omega arith) h (λ g. absurd (omega arith))

width_two : (n : ℕ) → 9 < n → n ≤ 99 → width n ≡ 2
width_two n h g = width-unique n 2 (omega arith) (omega arith) (omega arith) (λ _. h)

-- a numeral is as many digits as are asked for at least, or as the number has
pub numeral-least : (least n w : ℕ) → w ≡ width n → w < least → numeral least n ≡ digit_units least n
unfolding numeral
numeral-least least n w e h = let f : max least (width n) ≡ least = max-eq_left (omega arith) in rw f

pub numeral-whole : (least n w : ℕ) → w ≡ width n → least ≤ w → numeral least n ≡ digit_units w n
unfolding numeral
numeral-whole least n w e h = let f : max least (width n) ≡ w = max-eq_right (omega arith) ∙ sym e in rw f

-- its length, where no more digits are asked for than a number has at most
pub numeral-short : (least n : ℕ) → least ≤ 25 → length (numeral least n) ≤ 25
unfolding numeral
numeral-short least n h = rw (digit_units-length (max least (width n)) n) (max-le h (width-most n))

-- one digit, and two
pub numeral-one : (least n : ℕ) → least ≤ 1 → n < 10 → numeral least n ≡ (48 + n) ∷ []
unfolding digit_units digit
numeral-one least n h g =
    let e : n / 10 ^ 0 % 10 ≡ n = omega arith in
    numeral-whole least n 1 (sym (width_one n g)) h ∙ rw e

pub numeral-two : (least n : ℕ) → least ≤ 2 → 9 < n → n ≤ 99 → numeral least n ≡ digit_units 2 n
numeral-two least n h g f = numeral-whole least n 2 (sym (width_two n g f)) h

pub numeral-two-least : (n : ℕ) → n ≤ 99 → numeral 2 n ≡ digit_units 2 n
numeral-two-least n h =
    elim (dec_lt 9 n) [
      | yes g ↦ numeral-two 2 n (omega arith) g h
      | no g ↦ numeral-least 2 n 1 (sym (width_one n (omega arith))) (omega arith)
    ]
