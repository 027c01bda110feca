-- Scientific sections: the exponent and the mantissa (R126, R137).
-- "With n integer places the exponent is the least multiple of n that leaves 1 to n integer digits after rounding [..]. Zero has exponent 0."
-- Assumes nothing.
use Rattle.std.specs.Prelude.{ℕ, zero, suc, ◌+◌, ◌-◌, ◌*◌, ◌^◌, Bool, true, false, cond, ◌&&◌, leb, ltb, eqb}
use Rattle.figures.specs.Rounding.{Magnitude, rounded, rounds_exactly}

-- an exponent of ten: how far from 0, and whether it is below 0
pub record Exponent : Type 0 where
  pub size : ℕ
  pub below : Bool

-- how far it is below 0, and how far above 0
unfoldable pub under : Exponent → ℕ
under e = cond e.below e.size 0

unfoldable pub over : Exponent → ℕ
over e = cond e.below 0 e.size

-- m / 10^scale, a number without its sign
abbrev pub decimal : ℕ → ℕ → Magnitude
decimal m scale = record { above = m; below = 10 ^ scale }

-- x / 10^e
unfoldable pub divided_by : Magnitude → Exponent → Magnitude
divided_by x e = record { above = x.above * 10 ^ under e; below = x.below * 10 ^ over e }

-- the mantissa: x / 10^e rounded to d decimals, as a count of 10^-15
unfoldable pub mantissa_at : Magnitude → ℕ → Exponent → ℕ
mantissa_at x d e = rounded (divided_by x e) d

-- "1 to n integer digits after rounding": a whole part from 1 to 10^n - 1
unfoldable pub leaves : Magnitude → ℕ → ℕ → Exponent → Bool
leaves x n d e = leb (10 ^ 15) (mantissa_at x d e) && ltb (mantissa_at x d e) (10 ^ (15 + n))

-- the multiples of n in order from -15 n on, the k-th counted from 0: a number in range needs none below -15 n and none above 15 n
unfoldable pub multiple : ℕ → ℕ → Exponent
multiple n k = cond (ltb k 15) (record { size = n * (15 - k); below = true }) (record { size = n * (k - 15); below = false })

-- the first of them from the k-th on that leaves 1 to n digits; so many more are looked at
unfoldable pub exponent_from : Magnitude → ℕ → ℕ → ℕ → ℕ → Exponent
exponent_from x n d k zero = multiple n k
exponent_from x n d k (suc more) =
    let r = exponent_from x n d (suc k) more in
    cond (leaves x n d (multiple n k)) (multiple n k) r

-- the exponent of x under n integer places and d decimals
unfoldable pub exponent_of : Magnitude → ℕ → ℕ → Exponent
exponent_of x n d = cond (eqb x.above 0) (multiple n 15) (exponent_from x n d 0 30)

-- the mantissa of x
unfoldable pub mantissa_of : Magnitude → ℕ → ℕ → ℕ
mantissa_of x n d = mantissa_at x d (exponent_of x n d)

-- "whether the rounded number equals the exact one" (R137): the mantissa against x / 10^e with the exponent shown
unfoldable pub mantissa_exactly : Magnitude → ℕ → ℕ → Bool
mantissa_exactly x n d = rounds_exactly (divided_by x (exponent_of x n d)) d
