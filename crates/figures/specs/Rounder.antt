-- What the rounder takes.
-- Assumes nothing.
use Rattle.std.specs.Prelude.{ℕ, ◌*◌, ◌^◌, ◌≤◌, ◌<◌}

-- a magnitude that has 25 digits at most behind 10^up, and fifteen decimals at most: forty places are enough. Only nought needs the bound on up.
pub record Roundable (m up d : ℕ) : Type 0 where
  pub whole : m * 10 ^ up < 10 ^ 25
  pub power : up ≤ 25
  pub decimals : d ≤ 15
