-- "Times are cut, never rounded" (R86 to R88): the clock of a millisecond of the day, and the whole units since day 0.
-- Assumes nothing.
use Rattle.std.specs.Prelude.{ℕ, ◌+◌, ◌*◌, ◌/◌, ◌%◌, Bool, cond, eqb, leb}

pub record Clock : Type 0 where
  pub hour : ℕ
  pub minute : ℕ
  pub second : ℕ
  pub thousandth : ℕ

-- the millisecond of the day cut to whole units (R86)
unfoldable pub clock_of : ℕ → Clock
clock_of ms =
    record {
      hour = ms / 3600000;
      minute = ms / 60000 % 60;
      second = ms / 1000 % 60;
      thousandth = ms % 1000;
    }

-- "a 12-hour clock (12, 1 to 11)" (R87)
unfoldable pub twelve_hour : ℕ → ℕ
twelve_hour h = cond (eqb (h % 12) 0) 12 (h % 12)

-- from noon on (R87)
unfoldable pub afternoon : ℕ → Bool
afternoon h = leb 12 h

-- the milliseconds since the start of day 0
unfoldable pub since_day_zero : ℕ → ℕ → ℕ
since_day_zero day ms = day * 86400000 + ms

-- "Elapsed tokens count all whole units since day 0" (R88)
unfoldable pub elapsed_hours : ℕ → ℕ
elapsed_hours total = total / 3600000

unfoldable pub elapsed_minutes : ℕ → ℕ
elapsed_minutes total = total / 60000

unfoldable pub elapsed_seconds : ℕ → ℕ
elapsed_seconds total = total / 1000
