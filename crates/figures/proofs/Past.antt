-- Where a `match` on a number has tried the numbers from one on, it lies past them.
-- Assumes nothing.
use mathlib.Core.Path.{◌≡◌}
use Prim.Native.Nat.{ℕ, zero, suc, ◌+◌, ◌≤◌}
use native.Mathlib.Omega.{arith}

-- n is none of the j numbers from k on
abbrev pub Apart : ℕ → ℕ → ℕ → Type 0
Apart n k zero = Unit {0}
Apart n k (suc j) = Apart n k j × (¬ (n ≡ k + j))

pub past : (n k j : ℕ) → k ≤ n → Apart n k j → k + j ≤ n
past n k zero h a = omega arith
past n k (suc j) h a = let l = past n k j h a.0 in let g : ¬ (n ≡ k + j) = a.1 in omega arith
