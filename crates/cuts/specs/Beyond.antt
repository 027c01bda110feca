-- What is promised of a number of decimals cut (R139), apart from the search for it.
-- Assumes nothing.
use Rattle.std.specs.Prelude.{◌≡◌, false, ℕ, ◌+◌, ◌-◌, ◌*◌, ◌%◌, ◌^◌, ◌<◌, T}
use Rattle.figures.specs.Rounding.{Magnitude}
use Rattle.cuts.specs.Cut.{whole_at}

-- x is written with so many decimals, its figures read as one number being `figures`, and the last decimal is no zero. `cut` of the decimals are
-- beyond those kept: with so many more than are kept x is whole, with fewer it is not.
pub record CutOf (x : Magnitude) (kept cut : ℕ) : Type 0 where
  pub decimals : ℕ
  pub figures : ℕ
  pub written : figures * x.below ≡ x.above * 10 ^ decimals
  pub no_end_zero : 0 < decimals → 0 < figures % 10
  pub beyond : cut ≡ decimals - kept
  pub enough : T (whole_at x (kept + cut))
  pub fewer : (k : ℕ) → k < cut → whole_at x (kept + k) ≡ false
