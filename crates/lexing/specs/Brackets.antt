-- What the parts of a bracket's inside answer.
-- Assumes nothing.
use Rattle.std.specs.Prelude.{ℕ, Bool, not, ◌&&◌, List, [], ◌∷◌, eqb, drop, get_or, Option as Found, Some, None}
use Prim.Native.Char.{code}
use Rattle.std.specs.List.{list_any}
use Rattle.std.proofs.Math.Option.{Option, none, some}
use Rattle.lists.specs.Lists.{every, is_empty}
use Rattle.calendar.specs.Names.{units}
use Rattle.formats.specs.Tokens.{Token, colour, starts_with, is_digit}

-- a colour by its number
unfoldable pub colour_meant : Found ℕ → Option Token
colour_meant (Some n) = some (colour n)
colour_meant None = none

-- u once or more, and nothing else
abbrev pub is_run_of : ℕ → List ℕ → Bool
is_run_of u us = not (is_empty us) && every (eqb u) us

-- a comparison of two units, or of one, at the start
unfoldable pub is_wide : List ℕ → Bool
is_wide us = list_any (λ (word : List ℕ). starts_with word us) (units "<=" ∷ units ">=" ∷ units "<>" ∷ [])

unfoldable pub is_narrow : List ℕ → Bool
is_narrow us = list_any (λ (word : List ℕ). starts_with word us) (units "=" ∷ units "<" ∷ units ">" ∷ [])

-- a point, and digits behind it
unfoldable pub is_pointed : List ℕ → Bool
is_pointed us = eqb (get_or us 0 0) (code ".") && not (is_empty (drop 1 us)) && every is_digit (drop 1 us)
