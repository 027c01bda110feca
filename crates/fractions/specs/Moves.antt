-- What the code goes by: two fractions on either side of a number, one of which moves towards the other.
-- Assumes nothing.
use Rattle.std.specs.Prelude.{◌≡◌, ℕ, ◌+◌, ◌-◌, ◌*◌, ◌/◌, ◌^◌, ◌≤◌, min, Bool, cond}
use Rattle.figures.specs.Rounding.{Magnitude}
use Rattle.fractions.specs.declared.Fraction.{Fraction}
use Rattle.fractions.specs.declared.Mixed.{Mixed}
use Rattle.fractions.specs.declared.Side.{Side}
use Rattle.fractions.specs.Fractions.{carried, unparted}

-- a whole number more
unfoldable pub shifted : ℕ → Fraction → Fraction
shifted w f = record { above = f.above + w * f.below; below = f.below }

-- a whole number and the fraction of the part behind the point, as they are told
unfoldable pub told_of : Bool → ℕ → Fraction → Mixed
told_of parted whole part = cond parted (carried whole part) (unparted (shifted whole part))

-- a side's fraction
abbrev pub at : Side → Fraction
at s = record { above = s.above; below = s.below }

-- low is not above x, high not below it, and they are neighbours
pub record Between (x : Magnitude) (most : ℕ) (low high : Side) : Type 0 where
  pub unit : low.below * high.above ≡ low.above * high.below + 1
  pub low_rest : low.rest + low.above * x.below ≡ x.above * low.below
  pub high_rest : high.rest + x.above * high.below ≡ high.above * x.below
  pub low_from : 1 ≤ low.below
  pub low_up_to : low.below ≤ most
  pub high_from : 1 ≤ high.below
  pub high_up_to : high.below ≤ most

-- how many steps near goes towards far: as many as leave the number between them, and keep the denominator at most
unfoldable pub steps_to : Side → Side → ℕ → ℕ
steps_to near far most = min (near.rest / far.rest) ((most - near.below) / far.below)

-- near, so many steps nearer to far
unfoldable pub stepped : Side → Side → ℕ → Side
stepped near far k = record { above = near.above + k * far.above; below = near.below + k * far.below; rest = near.rest - k * far.rest }

unfoldable pub moved_to : Side → Side → ℕ → Side
moved_to near far most = stepped near far (steps_to near far most)

-- what the code's numbers hold
pub record Movable (near far : Side) (most : ℕ) : Type 0 where
  pub near_proper : near.above ≤ near.below
  pub far_proper : far.above ≤ far.below
  pub near_up_to : near.below ≤ most
  pub far_from : 1 ≤ far.below
  pub far_up_to : far.below ≤ most
  pub few : most ≤ 999
  pub near_rest : near.rest ≤ 10 ^ 15
  pub far_rest : 1 ≤ far.rest
