-- An instant as the chooser is asked for it.
-- Assumes nothing.
use mathlib.Core.Path.{◌≡◌}
use Rattle.values.specs.declared.Day.{Day}
use Rattle.values.specs.declared.Millisecond.{Millisecond}
use Rattle.formats.specs.Choice.{instant_exact}
use Rattle.choosing.specs.declared.sought.Sought.{Sought}
use Rattle.choosing.specs.Seeking.{parts_of_one, exact_of, AsksInstant}

pub instant-exact : (d : Day) (m : Millisecond) {v : Sought} → AsksInstant d m v → instant_exact d m ≡ exact_of v
unfolding instant_exact exact_of parts_of_one
instant-exact d m a = rw (a.negative, a.instant, a.above)
