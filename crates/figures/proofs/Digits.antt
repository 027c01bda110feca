-- Laws of the digits of a number, and of a number written in digits.
-- Assumes nothing.
use mathlib.Core.Path.{◌≡◌, refl, sym, ap, ap₂, ◌∙◌}
use mathlib.Core.List.{List}
use Prim.Native.Nat.{ℕ, zero, suc, ◌+◌, ◌-◌, ◌*◌, ◌/◌, ◌%◌, ◌^◌, ◌≤◌, ◌<◌}
use native.Mathlib.Nat.{div-div-eq-div-mul, zero-div, zero-mul, mod-one, mul_assoc, mul_comm, mul-mod_left, mul-div_cancel, mod-eq_of_lt, pow-suc, suc-sub-suc, sub-zero, zero-add, add-zero, suc-add, add-suc}
use native.Mathlib.Omega.{arith}
use borrow.Author.Tests.{leb-true, leb-false}
use lib.Pow.{pow-add}
use lib.Arith.{mod-mul}
use lib.Dec.{leb}
use lib.ListN.{get_or, length}
use lib.Seq.{ext_get_or}
use Rattle.std.proofs.Common.{replicate}
use Rattle.std.proofs.lemmas.List.{get_or-replicate}
use Rattle.lists.proofs.Bools.{cond-case}
use Rattle.figures.specs.Digits.{digit, figures, digit_units, width_up_to, width}
use Rattle.lists.specs.Tables.{values}
use Rattle.figures.specs.Reading.{digits_value}
use Rattle.figures.proofs.Tens.{ten-pos, ten-le, shift_one}
use Rattle.lists.proofs.Tables.{value-at, values_length}

pub digit-small : (n k : ℕ) → digit n k < 10
unfolding digit
digit-small n k = omega arith

pub digit-zero : (k : ℕ) → digit 0 k ≡ 0
unfolding digit
digit-zero k = ap (λ (x : ℕ). x % 10) (zero-div (10 ^ k))

-- the digits of m times 10^z below z are 0
pub digit-below : (m z k : ℕ) → k < z → digit (m * 10 ^ z) k ≡ 0
unfolding digit
digit-below m z k h =
    let j : ℕ = z - suc k in
    let e : m * 10 ^ z ≡ m * 10 ^ j * 10 * 10 ^ k =
    ap (λ (x : ℕ). m * x) (ap (λ (x : ℕ). 10 ^ x) (omega arith) ∙ pow-add 10 (suc j) k ∙ ap (λ (x : ℕ). x * 10 ^ k) (pow-suc 10 j))
    ∙ sym (mul_assoc m (10 ^ j * 10) (10 ^ k)) ∙ ap (λ (x : ℕ). x * 10 ^ k) (sym (mul_assoc m (10 ^ j) 10)) in
    ap (λ (x : ℕ). x / 10 ^ k % 10) e
    ∙ ap (λ (x : ℕ). x % 10) (mul-div_cancel (m * 10 ^ j * 10) (ten-pos k))
    ∙ mul-mod_left (m * 10 ^ j) 10

-- one place more
pub mod-next : (n k : ℕ) → n % 10 ^ suc k ≡ digit n k * 10 ^ k + n % 10 ^ k
unfolding digit
mod-next n k = ap (λ (x : ℕ). n % x) (pow-suc 10 k ∙ mul_comm (10 ^ k) 10) ∙ mod-mul n {m = 10} {c = 10 ^ k} (omega arith) (ten-pos k)

pub div-next : (n k : ℕ) → n / 10 ^ k ≡ digit n k + 10 * (n / 10 ^ suc k)
unfolding digit
div-next n k =
    let e : n / 10 ^ k / 10 ≡ n / 10 ^ suc k = shift_one n k ∙ ap (λ (x : ℕ). n / 10 ^ x) (omega arith) in
    omega arith

pub figures-at : (n j : ℕ) → j < 40 → get_or (figures n) j 0 ≡ digit n j
unfolding figures
figures-at n j h = value-at (digit n) 40 j h

pub figures-length : (n : ℕ) → length (figures n) ≡ 40
unfolding figures
figures-length n = values_length (digit n) 40 0

pub figures-ext : (l : List ℕ) (n : ℕ) → length l ≡ 40 → ((j : ℕ) → j < 40 → get_or l j 0 ≡ digit n j) → l ≡ figures n
figures-ext l n e p =
    ext_get_or 0 l (figures n) (e ∙ sym (figures-length n)) (λ j h. p j (omega arith) ∙ sym (figures-at n j (omega arith)))

-- forty zeros
pub zeros : replicate 40 0 ≡ figures 0
zeros = figures-ext (replicate 40 0) 0 refl (λ j h. get_or-replicate 40 j 0 0 h ∙ sym (digit-zero j))

pub digit_units-length : (m n : ℕ) → length (digit_units m n) ≡ m
unfolding digit_units
digit_units-length zero n = refl
digit_units-length (suc m) n = ap suc (digit_units-length m n)

-- the digits read back as the number, once over the number of places: the digits from 10^k on, m of them
regroup : (d v p r : ℕ) → (d + 10 * v) * p + r ≡ v * (p * 10) + (d * p + r)
regroup d v p r = omega arith

values-value : (n m k : ℕ) → digits_value (values (digit n) k m) * 10 ^ k + n % 10 ^ k ≡ n % 10 ^ (k + m)
unfolding digits_value
values-value n zero k = rw (zero-mul, zero-add, add-zero)
values-value n (suc m) k =
    let v : ℕ = digits_value (values (digit n) (suc k) m) in
    regroup (digit n k) v (10 ^ k) (n % 10 ^ k)
    ∙ ap₂ (λ (x y : ℕ). v * x + y) (sym (pow-suc 10 k)) (sym (mod-next n k))
    ∙ values-value n m (suc k)
    ∙ ap (λ (x : ℕ). n % 10 ^ x) (suc-add k m ∙ sym (add-suc k m))

pub values-read : (n m : ℕ) → digits_value (values (digit n) 0 m) ≡ n % 10 ^ m
values-read n m =
    let e : digits_value (values (digit n) 0 m) * 1 + n % 1 ≡ n % 10 ^ (0 + m) = values-value n m 0 in
    let f : 0 + m ≡ m = omega arith in
    omega (arith, mod-one n, e, ap (λ (x : ℕ). n % 10 ^ x) f)

pub figures-read : (n : ℕ) → n < 10 ^ 40 → digits_value (figures n) ≡ n
unfolding figures
figures-read n h = values-read n 40 ∙ mod-eq_of_lt h

-- the number of digits
width_up_to-least : (k n : ℕ) → 1 ≤ width_up_to k n
unfolding width_up_to
width_up_to-least zero n = omega arith
width_up_to-least (suc k) n =
    cond-case (λ (w : ℕ). 1 ≤ w) (leb (10 ^ suc k) n) (λ e. omega arith) (λ e. width_up_to-least k n)

width_up_to-most : (k n : ℕ) → width_up_to k n ≤ suc k
unfolding width_up_to
width_up_to-most zero n = omega arith
width_up_to-most (suc k) n =
    let ih = width_up_to-most k n in
    cond-case (λ (w : ℕ). w ≤ suc (suc k)) (leb (10 ^ suc k) n) (λ e. omega arith) (λ e. omega arith)

width_up_to-above : (k n : ℕ) → n < 10 ^ suc k → n < 10 ^ width_up_to k n
unfolding width_up_to
width_up_to-above zero n h = h
width_up_to-above (suc k) n h =
    cond-case (λ (w : ℕ). n < 10 ^ w) (leb (10 ^ suc k) n) (λ e. h) (λ e. width_up_to-above k n (leb-false (10 ^ suc k) n e))

width_up_to-below : (k n : ℕ) → 1 < width_up_to k n → 10 ^ (width_up_to k n - 1) ≤ n
unfolding width_up_to
width_up_to-below zero n h = absurd (omega arith)
width_up_to-below (suc k) n h =
    cond-case (λ (w : ℕ). 1 < w → 10 ^ (w - 1) ≤ n) (leb (10 ^ suc k) n)
    (λ e h. rw (suc-sub-suc, sub-zero) (leb-true (10 ^ suc k) n e))
    (λ e h. width_up_to-below k n h)
    h

module _ (n : ℕ) where
  pub width-least : 1 ≤ width n
  unfolding width
  width-least = width_up_to-least 24 n

  pub width-most : width n ≤ 25
  unfolding width
  width-most = width_up_to-most 24 n

  pub width_above : n < 10 ^ 25 → n < 10 ^ width n
  unfolding width
  width_above h = width_up_to-above 24 n h

  pub width-below : 1 < width n → 10 ^ (width n - 1) ≤ n
  unfolding width
  width-below h = width_up_to-below 24 n h

  -- no more digits than the power has that it is below
  pub width-within : (w : ℕ) → 1 ≤ w → n < 10 ^ w → width n ≤ w
  width-within w least above =
      let v : ℕ = width n in
      let not_more : ¬ (w < v) = λ h. omega (arith, ten-le w (v - 1) (omega arith), width-below (omega arith)) in
      omega arith

  -- they determine it
  pub width-unique : (w : ℕ) → 1 ≤ w → w ≤ 25 → n < 10 ^ w → (1 < w → 10 ^ (w - 1) ≤ n) → width n ≡ w
  width-unique w least most above below =
      let small : n < 10 ^ 25 = omega (arith, ten-le w 25 most) in
      let v : ℕ = width n in
      let one : 1 ≤ v = width-least in
      let not-less : ¬ (v < w) = λ h. omega (arith, width_above small, ten-le v (w - 1) (omega arith), below (omega arith)) in
      omega (arith, width-within w least above)

-- the digits above a place are those of the quotient
pub quotient-quotient : (n i k : ℕ) → n / 10 ^ i / 10 ^ k ≡ n / 10 ^ (i + k)
quotient-quotient n i k = div-div-eq-div-mul n (10 ^ i) (10 ^ k) ∙ ap (λ (x : ℕ). n / x) (sym (pow-add 10 i k))

pub digit_shift : (n i k : ℕ) → digit (n / 10 ^ i) k ≡ digit n (i + k)
unfolding digit
digit_shift n i k = ap (λ (x : ℕ). x % 10) (quotient-quotient n i k)
