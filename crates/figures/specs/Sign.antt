-- The sign at the door: "a signed coefficient of at most fifteen digits and a scale 0 to 15".
-- Assumes nothing.
use Rattle.std.specs.Prelude.{cond, nat_abs, pos, Option, Some, None}
use Rattle.std.specs.Int.Signed.{lt_z}
use Rattle.values.specs.declared.Number.{Number}
use Rattle.values.specs.Ranges.{number_in_range}
use Rattle.figures.specs.declared.Signed.{Signed}

-- the number with its sign apart
unfoldable pub signed_of : Number → Signed
signed_of x = record { negative = lt_z x.coefficient (pos 0); magnitude = nat_abs x.coefficient; scale = x.scale }

-- a number in range, its sign apart; none of one out of range
unfoldable pub taken_of : Number → Option Signed
taken_of x = cond (number_in_range x) (Some (signed_of x)) None
