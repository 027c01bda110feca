-- Digits read place by place, the lowest first.
-- Assumes nothing.
use Rattle.std.specs.Prelude.{ℕ, zero, suc, ◌+◌, cond, List, eqb, get_or}

-- of the first k places, how many there are up to the highest digit that is not 0; 0 where all are 0
unfoldable pub places_used : ℕ → List ℕ → ℕ
places_used zero l = 0
places_used (suc k) l = let r = places_used k l in cond (eqb (get_or l k 0) 0) r (suc k)

-- of f places from k on, the lowest whose digit is not 0; the place behind them where all are 0
unfoldable pub lowest_from : ℕ → ℕ → List ℕ → ℕ
lowest_from zero k l = k
lowest_from (suc f) k l = let r = lowest_from f (suc k) l in cond (eqb (get_or l k 0) 0) r k

unfoldable pub lowest_place : List ℕ → ℕ
lowest_place l = lowest_from 40 0 l

-- the sum of n digits from place k on: 0 where all are 0
unfoldable pub digit_sum : List ℕ → ℕ → ℕ → ℕ
digit_sum l k zero = 0
digit_sum l k (suc n) = digit_sum l k n + get_or l (k + n) 0
