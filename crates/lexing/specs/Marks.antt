-- What a step and a bracket's inside stand for, by the forms and arguments of marks.
-- Assumes nothing.
use Rattle.std.specs.Prelude.{ℕ, suc, ◌-◌, List, [], ◌∷◌, drop, get_or, Option as Found, Some, None}
use Prim.Native.Char.{code}
use Rattle.std.proofs.Math.Option.{Option, none, some}
use Rattle.formats.specs.Tokens.{Place, zero_place, hash_place, space_place, Letter, letter_y, letter_m, letter_d, letter_h, letter_s, hours, minutes, seconds, Token, condition_inside, elapsed_inside, first_form, Step as SpecStep, read, broken}
use Rattle.marks.specs.Marks.{mark_token}
use Rattle.lexing.specs.declared.Step.{Step}
use Rattle.lexing.specs.declared.brackets.Inside.{Inside}

-- the letter of a run's form
unfoldable pub letter_at : ℕ → Letter
letter_at form = get_or (letter_y ∷ letter_m ∷ letter_d ∷ letter_h ∷ []) (form - 15) letter_s

-- the place of a place's form
unfoldable pub place_at : ℕ → Place
place_at form = get_or (zero_place ∷ hash_place ∷ []) (form - 4) space_place

-- a step where the units us stand behind the first one
unfoldable pub step_behind : List ℕ → Found Step → SpecStep
step_behind us (Some s) = read (mark_token s.form s.argument us) s.more
step_behind us None = broken

unfoldable pub step_meant : List ℕ → ℕ → Found Step → SpecStep
step_meant units start s = step_behind (drop (suc start) units) s

-- what stands in a bracket whose opening unit is before us
unfoldable pub inside_meant : List ℕ → Found Inside → Option Token
inside_meant us (Some m) = some (mark_token m.form m.argument us)
inside_meant us None = none

-- the same of a form alone, with its argument
unfoldable pub form_meant : List ℕ → ℕ → Found ℕ → Option Token
form_meant us argument (Some form) = some (mark_token form argument us)
form_meant us argument None = none

-- the forms inside a bracket that are no colours
unfoldable pub plain_inside : List ℕ → Option Token
plain_inside us =
    first_form (elapsed_inside (code "h") hours us)
    (first_form (elapsed_inside (code "m") minutes us)
    (first_form (elapsed_inside (code "s") seconds us) (condition_inside us)))
