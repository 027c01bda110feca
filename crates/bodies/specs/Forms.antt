-- What a token is by the number of its form, as `mark_token` numbers the forms.
-- Assumes nothing.
use Rattle.std.specs.Prelude.{ℕ, Bool, cond, ◌&&◌, ◌||◌, List, [], ◌∷◌, leb, eqb}
use Rattle.lists.specs.Lists.{any}

abbrev pub place_form : ℕ → Bool
place_form f = leb 4 f && leb f 6

unfoldable pub date_forms : List ℕ
date_forms = 15 ∷ 16 ∷ 17 ∷ 18 ∷ 19 ∷ 20 ∷ 21 ∷ 22 ∷ []

-- a place with a solidus behind it
abbrev pub over_form : ℕ → Bool
over_form f = leb 27 f && leb f 32

-- an E or a place with a solidus behind it: the places behind it show a number of their own
abbrev pub cut_form : ℕ → Bool
cut_form f = leb 25 f && leb f 32

-- What a token of a form that is no place and no cut adds to the sum of a body's, digits of base 256: one to the tokens that make it a
-- date, to those that make it General or a text, to its brackets, to its fills, or to its commas.
abbrev pub weight_form : ℕ → ℕ
weight_form f =
    cond (any (eqb f) date_forms) 16777216
    (cond (eqb f 10 || eqb f 12) 4294967296
    (cond (eqb f 23 || eqb f 24) 1099511627776
    (cond (eqb f 3) 281474976710656
    (cond (eqb f 8) 72057594037927936 0))))

abbrev pub one : Bool → ℕ
one b = cond b 1 0
