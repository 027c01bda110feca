-- The line that is written for a code.
-- Assumes nothing.
use Rattle.std.specs.Prelude.{ℕ, Bool, true, false, List, [], ◌∷◌, ◌++◌, length}
use Rattle.figures.specs.Digits.{numeral}

-- `!` where something is not sound
unfoldable pub mark : Bool → List ℕ
mark true = []
mark false = 33 ∷ []

-- a number behind a space
unfoldable pub spaced : ℕ → List ℕ
spaced n = (32 ∷ []) ++ numeral 1 n

unfoldable pub spaced_all : List ℕ → List ℕ
spaced_all [] = []
spaced_all (w ∷ ws) = spaced w ++ spaced_all ws

unfoldable pub line_of : Bool → ℕ → ℕ → List ℕ → List ℕ
line_of sound answer place words =
    mark sound ++ numeral 1 answer ++ spaced place ++ spaced (length words) ++ spaced_all words ++ (10 ∷ [])
