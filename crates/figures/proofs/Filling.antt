-- Laws of digits put into a list place by place.
-- Assumes nothing.
use mathlib.Core.Path.{◌≡◌, refl, sym, ap, ◌∙◌}
use mathlib.Core.Logic.{◌⊎◌, inl, inr, ⊎_elim}
use mathlib.Core.List.{List}
use Prim.Native.Nat.{ℕ, ◌+◌, ◌-◌, ◌*◌, ◌/◌, ◌%◌, ◌^◌, ◌≤◌, ◌<◌}
use native.Mathlib.Nat.{mul_comm, mul-div_cancel, div-div-eq-div-mul, div-eq_of_lt, zero-div, lt_of_lt_of_le}
use native.Mathlib.Omega.{arith}
use native.Mathlib.Decide.{dec_lt}
use lib.ListN.{get_or, set, length, length-set}
use lib.Seq.{get_or-set_other}
use Rattle.figures.specs.Digits.{digit, figures}
use Rattle.figures.proofs.Tens.{ten-pos, ten-le, ten-split, shift_one}
use Rattle.lists.proofs.Tables.{fill-next}
use Rattle.figures.proofs.Digits.{digit-zero, digit-below, figures-at, figures-length, figures-ext}

pub lt-or-le : (a b : ℕ) → (a < b) ⊎ (b ≤ a)
lt-or-le a b = side (dec_lt a b)
  where
    side : Dec (a < b) → (a < b) ⊎ (b ≤ a)
    side (yes h) = inl h
    side (no h) = inr (omega arith)

-- numbers that agree from 10^i on have the same digits there
pub same_above : (a b i j : ℕ) → i ≤ j → a / 10 ^ i ≡ b / 10 ^ i → digit a j ≡ digit b j
unfolding digit
same_above a b i j h e = ap (λ (x : ℕ). x % 10) (far a ∙ ap (λ (x : ℕ). x / 10 ^ (j - i)) e ∙ sym (far b))
  where
    far : (x : ℕ) → x / 10 ^ j ≡ x / 10 ^ i / 10 ^ (j - i)
    far x = ap (λ (y : ℕ). x / y) (ten-split i j h ∙ mul_comm (10 ^ (j - i)) (10 ^ i)) ∙ sym (div-div-eq-div-mul x (10 ^ i) (10 ^ (j - i)))

-- the places below k are n's digits, the others 0, and the rest is what is left of n
pub record Filled (n k rest : ℕ) (l : List ℕ) : Type 0 where
  pub left : rest ≡ n / 10 ^ k
  pub long : length l ≡ 40
  pub low : (j : ℕ) → j < k → j < 40 → get_or l j 0 ≡ digit n j
  pub high : (j : ℕ) → k ≤ j → j < 40 → get_or l j 0 ≡ 0

-- m times 10^z has only zeros below 10^z
pub filled-start : (m z : ℕ) (l : List ℕ) → l ≡ figures 0 → Filled (m * 10 ^ z) z m l
filled-start m z l e =
    let at : (j : ℕ) → j < 40 → get_or l j 0 ≡ 0 = λ j h. ap (λ (x : List ℕ). get_or x j 0) e ∙ figures-at 0 j h ∙ digit-zero j in
    record {
      left = sym (mul-div_cancel m (ten-pos z));
      long = ap length e ∙ figures-length 0;
      low = λ j g h. at j h ∙ sym (digit-below m z j g);
      high = λ j g h. at j h;
    }

positive : {x y : ℕ} → x ≡ y → 0 < x → y ≡ 0 → ⊥
positive e h g = omega arith

module _ {n k rest : ℕ} {l : List ℕ} (s : Filled n k rest l) where
  -- where something is left, there is a place for it
  pub place-left : n < 10 ^ 40 → 0 < rest → k < 40
  place-left h g =
      ⊎_elim (λ (a : k < 40). a) (λ (b : 40 ≤ k). absurd (positive s.left g (div-eq_of_lt (lt_of_lt_of_le h (ten-le 40 k b))))) (lt-or-le k 40)

  -- the next digit is the rest's last
  pub filled_next : {d : ℕ} → k < 40 → d ≡ rest % 10 → Filled n (k + 1) (rest / 10) (set l k d)
  unfolding digit
  filled_next {d} h same = record {
    left = ap (λ (x : ℕ). x / 10) s.left ∙ shift_one n k;
    long = length-set l k d ∙ s.long;
    low = fill-next (digit n) 40 l k d s.long h (same ∙ ap (λ (x : ℕ). x % 10) s.left) s.low;
    high = λ j g t. get_or-set_other l k j d 0 (omega arith) ∙ s.high j (omega arith) t;
  }

  -- where nothing is left, all digits are there
  pub filled-done : rest ≤ 0 → l ≡ figures n
  filled-done none =
      let e : n / 10 ^ k ≡ 0 = omega (arith, s.left) in
      figures-ext l n s.long
      (λ j h. ⊎_elim (λ g. s.low j g h) (λ g. s.high j g h ∙ sym (same_above n 0 k j g (e ∙ sym (zero-div (10 ^ k))) ∙ digit-zero j)) (lt-or-le j k))

-- a turn puts two digits, and the rest has a place for the second too
module _ {n k rest : ℕ} {l : List ℕ} (h : n < 10 ^ 40) (s : Filled n k rest l) (more : 9 < rest) where
  pub second-place : k + 1 < 40
  second-place = place-left (filled_next s (place-left s h (omega arith)) refl) h (omega arith)

  pub filled-two : Filled n (k + 2) (rest / 100) (set (set l k (rest % 100 % 10)) (k + 1) (rest % 100 / 10))
  filled-two =
      let room : k + 1 < 40 = second-place in
      let two = filled_next (filled_next s {d = rest % 100 % 10} (omega arith) (omega arith)) {d = rest % 100 / 10} room (omega arith) in
      let on : k + 1 + 1 ≡ k + 2 = omega arith in
      let left : rest / 10 / 10 ≡ rest / 100 = omega arith in
      rw (on, left) at two
