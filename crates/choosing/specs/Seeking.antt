-- What the chooser is asked, and what it answers.
-- Assumes nothing.
use Rattle.std.specs.Prelude.{◌≡◌, ℕ, ◌^◌, Bool, true, false, cond, Option, Some, None}
use Rattle.values.specs.declared.Day.{Day}
use Rattle.values.specs.declared.Millisecond.{Millisecond}
use Rattle.calendar.specs.Clock.{since_day_zero}
use Rattle.formats.specs.Items.{Section}
use Rattle.formats.specs.Choice.{Exact, Choice, nothing, chosen, TextChoice, itself, text_in, reason_for, reason_holds}
use Rattle.choosing.specs.declared.sought.Sought.{Sought}

-- in how many parts one is divided
unfoldable pub parts_of_one : Sought → ℕ
parts_of_one v = cond v.instant 86400000 (10 ^ v.scale)

-- the number that is meant
unfoldable pub exact_of : Sought → Exact
exact_of v = record { negative = v.negative; size = record { above = v.above; below = parts_of_one v } }

-- this is asked for an instant
pub record AsksInstant (d : Day) (m : Millisecond) (v : Sought) : Type 0 where
  pub negative : v.negative ≡ false
  pub instant : v.instant ≡ true
  pub above : v.above ≡ since_day_zero d.0 m.0
  pub scale : v.scale ≡ 0

-- the place of the section that is chosen
unfoldable pub found_of : Choice → Option ℕ
found_of nothing = None
found_of (chosen i s why) = Some i

-- the same for a text: none where the text itself is shown
unfoldable pub text_found_of : TextChoice → Option ℕ
text_found_of itself = None
text_found_of (text_in i s) = Some i

-- whether section i, which counts, takes a value, where N sections count
unfoldable pub takes : ℕ → ℕ → Section → Exact → Bool
takes counted i s x = reason_holds (reason_for counted i s) s x
