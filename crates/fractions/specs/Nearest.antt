-- What the nearest fraction is to be (R133), apart from the search for it: "Show that no allowed denominator comes closer."
-- Assumes nothing.
use Rattle.std.specs.Prelude.{◌≡◌, ℕ, ◌+◌, ◌*◌, ◌≤◌, ◌<◌}
use Rattle.figures.specs.Rounding.{Magnitude}
use Rattle.fractions.specs.declared.Fraction.{Fraction}
use Rattle.fractions.specs.declared.Mixed.{Mixed}
use Rattle.fractions.specs.Fractions.{apart}

-- g is not nearer to x than f and, if equally near, has no smaller denominator
pub record Preferred (x : Magnitude) (f g : Fraction) : Type 0 where
  pub near : apart x f * g.below ≤ apart x g * f.below
  pub small : apart x f * g.below ≡ apart x g * f.below → f.below ≤ g.below

-- f is the fraction nearest to x of all whose denominator is from 1 to most
pub record NearestFraction (x : Magnitude) (most : ℕ) (f : Fraction) : Type 0 where
  pub from : 1 ≤ f.below
  pub up_to : f.below ≤ most
  pub best : (g : Fraction) → 1 ≤ g.below → g.below ≤ most → Preferred x f g

-- r is the same amount as w and f, with less than 1 behind the whole number
pub record Carried (w : ℕ) (f : Fraction) (r : Mixed) : Type 0 where
  pub kept : r.whole * r.below + r.above ≡ w * f.below + f.above
  pub same : r.below ≡ f.below
  pub proper : r.above < r.below
