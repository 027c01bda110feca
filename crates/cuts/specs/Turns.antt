-- The decimals cut, as the code counts them.
-- Assumes nothing.
use Rattle.std.specs.Prelude.{ℕ, zero, suc, ◌/◌, ◌%◌, cond, eqb}

-- how many of the k last digits of m are behind a zero at its end: m / 10^k written without trailing zeros has so many decimals
unfoldable pub digits_cut : ℕ → ℕ → ℕ
digits_cut m zero = 0
digits_cut m (suc k) = let r = digits_cut (m / 10) k in cond (eqb (m % 10) 0) r (suc k)
