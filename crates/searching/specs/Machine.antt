-- How the search (R124) asks. It keeps the entries that are not told yet, those from `low` to `last`, and asks for the one in their middle;
-- first it asks for the two entries at the border of a guess.
-- Assumes nothing.
use Rattle.std.specs.Prelude.{ℕ, zero, suc, ◌+◌, ◌-◌, ◌*◌, ◌/◌, Bool, true, false, cond, ◌&&◌, leb, ltb}
use Rattle.searching.specs.declared.Search.{Search}
use Rattle.searching.specs.declared.Turn.{Turn}
use Rattle.searching.specs.declared.Turn.TheVariants.{Read, Found, Nothing}

-- how many entries are not above a day, if they are the first days of the years from 1900 on: the four years from 1900 on have 1,461
-- days, and so have the four from 2101 and from 2201 on
unfoldable pub later_guess : ℕ → ℕ
later_guess day =
    cond (ltb 146463 day) 401
    (cond (ltb day 109940) ((4 * (day - 73416) + 3) / 1461 + 202) ((4 * (day - 109940) + 3) / 1461 + 302))

unfoldable pub guessed : ℕ → ℕ
guessed day = cond (ltb day 73416) ((4 * day + 1457) / 1461) (later_guess day)

-- behind this entry and in front of it there are few enough that eight turns tell them, once its neighbour is told too
abbrev pub border : ℕ
border = 144

-- the last of so many entries or the entry behind them, whichever leaves the fewer entries untold where it goes as guessed
unfoldable pub first_asked : ℕ → ℕ
first_asked count = cond (ltb border count) (count - 1) count

abbrev pub reading : ℕ → ℕ → ℕ → ℕ → Bool → Turn
reading day low last asked first = Read asked (record { day = day; low = low; last = last; asked = asked; first = first })

unfoldable pub between : ℕ → ℕ → ℕ → Turn
between day low last = reading day low last (low + (last - low) / 2) false

-- the answer where so many entries are not above the day
unfoldable pub answer : ℕ → Turn
answer zero = Nothing
answer (suc k) = Found k

-- the entry asked for is above the day
unfoldable pub above : Search → Turn
above s =
    cond (leb s.asked s.low) (answer s.low)
    (cond (s.first && leb s.asked border)
    (reading s.day s.low (s.asked - 1) (s.asked - 1) false)
    (between s.day s.low (s.asked - 1)))

-- the entry asked for is not above the day
unfoldable pub not_above : Search → Turn
not_above s =
    cond (leb s.last s.asked) (Found s.asked)
    (cond (s.first && leb border s.asked)
    (reading s.day (s.asked + 1) s.last (s.asked + 1) false)
    (between s.day (s.asked + 1) s.last))

unfoldable pub started : ℕ → Turn
started day = reading day 0 400 (first_asked (guessed day)) true

unfoldable pub told_of : Search → ℕ → Turn
told_of s number = cond (ltb s.day number) (above s) (not_above s)
