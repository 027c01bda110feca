-- What the exponent is to be (R126), apart from the search for it: "the least multiple of n that leaves 1 to n integer digits after rounding".
-- Assumes nothing.
use Rattle.std.specs.Prelude.{◌≡◌, Bool, false, ℕ, ◌+◌, ◌%◌, T, leb}
use Rattle.figures.specs.Rounding.{Magnitude}
use Rattle.exponents.specs.Exponent.{Exponent, under, over, leaves}

-- e is at most f, as numbers with their signs
unfoldable pub at_most : Exponent → Exponent → Bool
at_most e f = leb (over e + under f) (over f + under e)

-- e is the exponent of x under n integer places and d decimals
pub record LeastExponent (x : Magnitude) (n d : ℕ) (e : Exponent) : Type 0 where
  -- nought has no sign
  pub signed : e.size ≡ 0 → e.below ≡ false
  pub multiple : e.size % n ≡ 0
  pub digits : T (leaves x n d e)
  pub least : (f : Exponent) → f.size % n ≡ 0 → T (leaves x n d f) → T (at_most e f)
