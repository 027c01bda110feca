-- "Names are the English ones." (R84, R85)
-- Assumes nothing.
use Rattle.std.specs.Prelude.{ℕ, pred, List, [], ◌∷◌, get_or, take}
use Prim.Native.Char.{code}
use Prim.Native.String.{String, [] as []ˢ, ◌∷◌ as ◌∷ˢ◌}

-- the units of a quoted text
unfoldable pub units : String → List ℕ
units []ˢ = []
units (c ∷ˢ s) = code c ∷ units s

unfoldable pub month_names : List String
month_names =
    "January" ∷ "February" ∷ "March" ∷ "April" ∷ "May" ∷ "June"
    ∷ "July" ∷ "August" ∷ "September" ∷ "October" ∷ "November" ∷ "December" ∷ []

-- by the weekday's number, which is 0 for Saturday
unfoldable pub weekday_names : List String
weekday_names = "Saturday" ∷ "Sunday" ∷ "Monday" ∷ "Tuesday" ∷ "Wednesday" ∷ "Thursday" ∷ "Friday" ∷ []

-- months are numbered from 1
unfoldable pub month_name : ℕ → List ℕ
month_name m = units (get_or month_names (pred m) "")

unfoldable pub weekday_name : ℕ → List ℕ
weekday_name w = units (get_or weekday_names w "")

-- a short name is the first three letters (R84)
unfoldable pub short_name : List ℕ → List ℕ
short_name name = take 3 name

-- "mmmmm is the month's first letter" (R85)
unfoldable pub first_letter : List ℕ → List ℕ
first_letter name = take 1 name
