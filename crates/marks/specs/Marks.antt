-- Tokens as marks: a form, an argument and the place of the first unit, read against the code.
-- Assumes nothing.
use Rattle.std.specs.Prelude.{ℕ, suc, false, List, [], ◌∷◌, map, take, drop, get_or}
use Rattle.std.proofs.Math.Option.{Option, none, some}
use Rattle.formats.specs.Tokens.{zero_place, hash_place, space_place, letter_y, letter_m, letter_d, letter_h, letter_s, hours, minutes, seconds, short, long, e_plus, e_minus, equal, Written, Token, literal, bare, blank, fill, place, point, comma, percent, at, semicolon, general, half, run, elapsed, colour, condition, exponent, over, over_fixed, condition_inside, Placed}
use Rattle.formats.specs.Kinds.{condition_in}
use Rattle.marks.specs.declared.Mark.{Mark}

-- a condition that compares with nothing, where there is none
unfoldable pub written_or : Option Written → Written
written_or none = record { comparison = equal; negative = false; whole = []; decimals = [] }
written_or (some w) = w

unfoldable pub written_in : Option Token → Option Written
written_in none = none
written_in (some t) = condition_in t

-- the condition that the units inside a bracket write
unfoldable pub condition_of : List ℕ → Token
condition_of us = condition (written_or (written_in (condition_inside us)))

-- the tokens by their forms from 0 on, with the argument a, where the units us stand behind the first one
unfoldable pub mark_rows : ℕ → List ℕ → List Token
mark_rows a us =
    literal (take a us) ∷ bare a ∷ blank a ∷ fill a
    ∷ place zero_place ∷ place hash_place ∷ place space_place ∷ point ∷ comma ∷ percent ∷ at ∷ semicolon
    ∷ general ∷ half short ∷ half long
    ∷ run letter_y a ∷ run letter_m a ∷ run letter_d a ∷ run letter_h a ∷ run letter_s a
    ∷ elapsed hours a ∷ elapsed minutes a ∷ elapsed seconds a ∷ colour a ∷ condition_of (take a us)
    ∷ exponent e_plus ∷ exponent e_minus
    ∷ over zero_place ∷ over hash_place ∷ over space_place ∷ over_fixed zero_place a ∷ over_fixed hash_place a ∷ over_fixed space_place a ∷ []

-- the token of a form: its row, and a literal without units for a number that is no form
unfoldable pub mark_token : ℕ → ℕ → List ℕ → Token
mark_token form a us = get_or (mark_rows a us) form (literal [])

-- the same of a code, where the token's first unit stands at the place start
unfoldable pub token_at : List ℕ → ℕ → ℕ → ℕ → Token
token_at code form argument start = mark_token form argument (drop (suc start) code)

-- the token that a mark stands for, and the same with its place
unfoldable pub marked : List ℕ → Mark → Token
marked code m = token_at code m.form m.argument m.start

unfoldable pub placed : List ℕ → Mark → Placed
placed code m = record { token = marked code m; start = m.start }

-- the tokens of a buffer with their places, and alone
unfoldable pub placed_in : List ℕ → List Mark → List Placed
placed_in code ms = map (placed code) ms

unfoldable pub tokens_in : List ℕ → List Mark → List Token
tokens_in code ms = map (marked code) ms
