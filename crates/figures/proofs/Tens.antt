-- Laws of powers of ten.
-- Assumes nothing.
use mathlib.Core.Path.{◌≡◌, sym, ap, ◌∙◌}
use Prim.Native.Nat.{ℕ, zero, suc, ◌+◌, ◌-◌, ◌*◌, ◌/◌, ◌^◌, ◌≤◌, ◌<◌}
use native.Mathlib.Nat.{one-le-pow, div-div-eq-div-mul, pow-suc, pow-le-pow_right, sub-add_cancel, mul-suc, mul-zero, pow-zero}
use native.Mathlib.Numerals.{add-one}
use native.Mathlib.Omega.{arith}
use lib.Pow.{pow-add}

pub ten-pos : (k : ℕ) → 0 < 10 ^ k
ten-pos k = one-le-pow k 10 (omega arith)

pub ten-le : (i k : ℕ) → i ≤ k → 10 ^ i ≤ 10 ^ k
ten-le i k h = pow-le-pow_right {n = 10} (omega arith) h

pub ten-split : (i k : ℕ) → i ≤ k → 10 ^ k ≡ 10 ^ (k - i) * 10 ^ i
ten-split i k h = ap (λ (x : ℕ). 10 ^ x) (sym (sub-add_cancel h)) ∙ pow-add 10 (k - i) i

-- a power of a power of ten
pub ten-power : (i p : ℕ) → (10 ^ i) ^ p ≡ 10 ^ (i * p)
ten-power i zero = pow-zero (10 ^ i) ∙ ap (λ (x : ℕ). 10 ^ x) (sym (mul-zero i))
ten-power i (suc p) =
    pow-suc (10 ^ i) p
    ∙ ap (λ (x : ℕ). x * 10 ^ i) (ten-power i p)
    ∙ sym (pow-add 10 (i * p) i)
    ∙ ap (λ (x : ℕ). 10 ^ x) (sym (mul-suc i p))

-- one place further
pub shift_one : (n k : ℕ) → n / 10 ^ k / 10 ≡ n / 10 ^ (k + 1)
shift_one n k = div-div-eq-div-mul n (10 ^ k) 10 ∙ ap (λ (x : ℕ). n / x) (sym (pow-suc 10 k) ∙ ap (λ (x : ℕ). 10 ^ x) (sym (add-one k)))
