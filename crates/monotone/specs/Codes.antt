-- "a code of one number section with only places, at most one point, grouping and dividing commas, and at least one `0` place" (R145), and the unit
-- of its last place (R147).
-- Assumes nothing.
use Rattle.std.specs.Prelude.{ℕ, ◌^◌, Bool, true, false, ◌&&◌, List, [], ◌∷◌, eqb}
use Rattle.lists.specs.Lists.{every, any}
use Rattle.calendar.specs.Names.{units}
use Rattle.figures.specs.Rounding.{Magnitude}
use Rattle.formats.specs.Items.{Section, decimal_places}
use Rattle.formats.specs.Accept.{Accepted, sections, refusal, accept, sections_in}

-- "only places, at most one point, grouping and dividing commas": no other unit, so that there is no second section, no colour, no condition, no
-- literal, no blank, no fill and no percent
unfoldable pub is_plain : ℕ → Bool
is_plain u = any (eqb u) (units "0#?.,")

-- "at least one `0` place"
abbrev pub is_nought : ℕ → Bool
is_nought u = eqb u 48

unfoldable pub is_accepted : Accepted → Bool
is_accepted (sections ss) = true
is_accepted (refusal a k) = false

-- an accepted code has at most one point, and its commas group or divide (R33 to R36)
unfoldable pub plain_code : List ℕ → Bool
plain_code code = every is_plain code && any is_nought code && is_accepted (accept code)

-- "one unit of the code's last place, times 1,000 for each dividing comma": the last place is the last decimal place, or that of 10^0 where there is none
unfoldable pub section_unit : Section → Magnitude
section_unit s = record { above = 1000 ^ s.thousands; below = 10 ^ decimal_places s.items }

-- a plain code has one section
unfoldable pub first_unit : List Section → Magnitude
first_unit [] = record { above = 0; below = 1 }
first_unit (s ∷ ss) = section_unit s

unfoldable pub last_unit : List ℕ → Magnitude
last_unit code = first_unit (sections_in code)
