-- Clocks of milliseconds of the day, computed from the definitions.
-- Assumes nothing.
use mathlib.Core.Path.{◌≡◌, refl}
use mathlib.Core.Bool.{Bool, true, false}
use mathlib.Core.List.{List, [], ◌∷◌}
use Prim.Native.Nat.{ℕ}
use Rattle.lists.specs.Lists.{All}
use Rattle.calendar.specs.Clock.{clock_of, twelve_hour, afternoon}

pub record Time : Type 0 where
  pub ms : ℕ
  pub hour : ℕ
  pub minute : ℕ
  pub afternoon : Bool

abbrev pub time : ℕ → ℕ → ℕ → Bool → Time
time n h m b = record { ms = n; hour = h; minute = m; afternoon = b }

-- 0:00, 11:59, 12:00, 12:59, 13:00, 23:59: the hour on a 12-hour clock, the minute, whether it is afternoon
abbrev pub times : List Time
times =
    time 0 12 0 false
    ∷ time 43140000 11 59 false
    ∷ time 43200000 12 0 true
    ∷ time 46740000 12 59 true
    ∷ time 46800000 1 0 true
    ∷ time 86340000 11 59 true
    ∷ []

abbrev pub shown : ℕ → Time
shown n = let c = clock_of n in time n (twelve_hour c.hour) c.minute (afternoon c.hour)

pub times-right : All (λ (t : Time). shown t.ms ≡ t) times
unfolding clock_of twelve_hour afternoon
times-right = (refl, (refl, (refl, (refl, (refl, (refl, tt))))))
