-- What the code goes by: an exponent as its distance below 0 and its distance above 0, one of which is 0.
-- Assumes nothing.
use Rattle.std.specs.Prelude.{◌≡◌, ℕ, ◌+◌, ◌*◌, ◌%◌, ◌^◌, ◌≤◌, ◌<◌, ltb}
use Rattle.exponents.specs.Exponent.{Exponent}

-- the exponent that is so far below 0 or so far above 0
unfoldable pub exponent_by : ℕ → ℕ → Exponent
exponent_by under over = record { size = under + over; below = ltb 0 under }

-- it is a multiple of n
pub record MultipleBy (n under over : ℕ) : Type 0 where
  pub one_side : 0 < under → over ≡ 0
  pub below : under % n ≡ 0
  pub above : over % n ≡ 0

-- it is the multiple of n that leaves m / 10^s 1 to n integer digits before it is rounded: a number from 1 to below 10^n
pub record Leading (m s n under over : ℕ) : Type 0 where
  pub multiple : MultipleBy n under over
  pub least : 10 ^ (s + over) ≤ m * 10 ^ under
  pub most : m * 10 ^ under < 10 ^ (s + over + n)
  -- what the code's numbers hold
  pub under_small : under ≤ s + n
  pub over_small : over ≤ 14

-- the multiple of n behind it
pub record Next (n under over under' over' : ℕ) : Type 0 where
  pub multiple : MultipleBy n under' over'
  pub net : under + over' ≡ under' + over + n
  pub small : under' + over' ≤ under + over + n
