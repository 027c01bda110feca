-- "Tokens" (R14 to R27, R127, R132): the tokens of a code, read from its units.
-- Assumes nothing.
use Rattle.std.specs.Prelude.{ℕ, zero, suc, ◌+◌, ◌-◌, ◌*◌, min, Bool, true, false, cond, not, ◌&&◌, ◌||◌, List, [], ◌∷◌, map, length, take, drop, leb, eqb}
use Prim.Native.Char.{Char, code}
use Prim.Native.String.{String}
use Rattle.std.proofs.Math.Option.{Option, none, some}
use Rattle.lists.specs.Lists.{every, any, is_empty}
use Rattle.calendar.specs.Names.{units}

-- the places `0`, `#` and `?`
pub data Place : Type 0 where
  zero_place hash_place space_place : Place

-- each counted from 0, in this order
abbrev pub place_index : Place → ℕ
place_index zero_place = 0
place_index hash_place = 1
place_index space_place = 2

-- the letter of a date or time run
pub data Letter : Type 0 where
  letter_y letter_m letter_d letter_h letter_s : Letter

-- each counted from 0, in this order
abbrev pub letter_index : Letter → ℕ
letter_index letter_y = 0
letter_index letter_m = 1
letter_index letter_d = 2
letter_index letter_h = 3
letter_index letter_s = 4

-- what an elapsed token counts
pub data Elapsed : Type 0 where
  hours minutes seconds : Elapsed

-- each counted from 0, in this order
abbrev pub elapsed_index : Elapsed → ℕ
elapsed_index hours = 0
elapsed_index minutes = 1
elapsed_index seconds = 2

-- the half-day marks `A/P` and `AM/PM`
pub data HalfDay : Type 0 where
  short long : HalfDay

-- each counted from 0, in this order
abbrev pub half_index : HalfDay → ℕ
half_index short = 0
half_index long = 1

-- `E+` and `E-` (R127)
pub data ExponentMark : Type 0 where
  e_plus e_minus : ExponentMark

-- each counted from 0, in this order
abbrev pub exponent_index : ExponentMark → ℕ
exponent_index e_plus = 0
exponent_index e_minus = 1

-- `= < > <= >= <>`
pub data Comparison : Type 0 where
  equal less greater at_most at_least unequal : Comparison

-- a condition as it is written: its digits before and after the point
pub record Written : Type 0 where
  pub comparison : Comparison
  pub negative : Bool
  pub whole : List ℕ
  pub decimals : List ℕ

pub data Token : Type 0 where
  literal : List ℕ → Token
  bare blank fill : ℕ → Token
  place : Place → Token
  point comma percent at semicolon general : Token
  half : HalfDay → Token
  run : Letter → ℕ → Token
  elapsed : Elapsed → ℕ → Token
  colour : ℕ → Token
  condition : Written → Token
  exponent : ExponentMark → Token
  -- a place with the solidus of a fraction, or with the solidus and the fixed number, directly behind it (R132)
  over : Place → Token
  over_fixed : Place → ℕ → Token

-- a token and how many units follow its first one, or a unit that starts no token or a broken one
pub data Step : Type 0 where
  read : Token → ℕ → Step
  broken : Step

-- how many units stand before the first u
unfoldable pub before : ℕ → List ℕ → ℕ
before u [] = 0
before u (v ∷ vs) = let r = before u vs in cond (eqb v u) 0 (suc r)

-- how many units at the start pass the test
unfoldable pub leading : (ℕ → Bool) → List ℕ → ℕ
leading f [] = 0
leading f (v ∷ vs) = let r = leading f vs in cond (f v) (suc r) 0

unfoldable pub starts_with : List ℕ → List ℕ → Bool
starts_with [] us = true
starts_with (w ∷ ws) [] = false
starts_with (w ∷ ws) (u ∷ us) = let r = starts_with ws us in cond (eqb w u) r false

unfoldable pub same : List ℕ → List ℕ → Bool
same us vs = eqb (length us) (length vs) && starts_with us vs

-- "Quotes around one or more units without a quote" (R17)
unfoldable pub quoted : List ℕ → Step
quoted us =
    let n = before 34 us in
    cond (eqb n 0 || eqb n (length us)) broken (read (literal (take n us)) (suc n))

-- "backslash and one unit", "`_x`", "`*x`" (R18, R19): a mark and the unit behind it, which may be any
unfoldable pub marked : (ℕ → Token) → List ℕ → Step
marked f [] = broken
marked f (u ∷ us) = read (f u) 1

-- `General`, `AM/PM`, `A/P`, longest first (R22)
unfoldable pub general_word : List ℕ → Step
general_word us = cond (starts_with (units "General") us) (read general 6) broken

unfoldable pub half_day_word : List ℕ → Step
half_day_word us =
    cond (starts_with (units "AM/PM") us) (read (half long) 4)
    (cond (starts_with (units "A/P") us) (read (half short) 2) broken)

-- `E+`, `E-` (R127)
unfoldable pub exponent_word : List ℕ → Step
exponent_word us =
    cond (starts_with (units "E+") us) (read (exponent e_plus) 1)
    (cond (starts_with (units "E-") us) (read (exponent e_minus) 1) broken)

-- "Runs: y of 2 or 4, m of 1 to 5, d of 1 to 4, h of 1 or 2, s of 1 or 2." (R23)
unfoldable pub run_allowed : Letter → ℕ → Bool
run_allowed letter_y n = eqb n 2 || eqb n 4
run_allowed letter_m n = leb 1 n && leb n 5
run_allowed letter_d n = leb 1 n && leb n 4
run_allowed letter_h n = leb 1 n && leb n 2
run_allowed letter_s n = leb 1 n && leb n 2

-- "A whole run of another length is broken" (R23): the letter u and as many u as follow
unfoldable pub run_step : Letter → ℕ → List ℕ → Step
run_step l u us = let n = leading (eqb u) us in cond (run_allowed l (suc n)) (read (run l (suc n)) n) broken

-- decimal digits
unfoldable pub is_digit : ℕ → Bool
is_digit u = leb 48 u && leb u 57

unfoldable pub digit_of : ℕ → ℕ
digit_of u = u - 48

-- the number that digits stand for, behind those of v
unfoldable pub number_from : ℕ → List ℕ → ℕ
number_from v [] = v
number_from v (d ∷ ds) = number_from (10 * v + d) ds

-- "`/` directly after it, then directly another such run": the solidus of a fraction stands directly between two places (R132)
unfoldable pub is_place_unit : ℕ → Bool
is_place_unit u = any (eqb u) (units "0#?")

-- "A digit run that begins with 1 to 9 becomes a token directly after a `/` that directly follows a place": all digits that follow. A
-- number above 999 is told as 1,000, which is refused by 6 as any such number is. (R132)
unfoldable pub fixed_number : List ℕ → ℕ
fixed_number us = min 1000 (number_from 0 (map digit_of us))

-- what stands behind a place and a `/`: the paper's place, solidus and digit run are one token here, since each makes the others
unfoldable pub over_step : Place → List ℕ → Step
over_step p [] = read (place p) 0
over_step p (u ∷ us) =
    let n = leading is_digit us in
    cond (is_place_unit u) (read (over p) 1)
    (cond (is_digit u) (read (over_fixed p (fixed_number (u ∷ take n us))) (2 + n)) (read (place p) 0))

-- a place, with what is directly behind it (R132)
unfoldable pub place_step : Place → List ℕ → Step
place_step p [] = read (place p) 0
place_step p (u ∷ us) = let r = over_step p us in cond (eqb u 47) r (read (place p) 0)

-- "Named colours are 1 Black, 2 White, .." (R25)
unfoldable pub colour_names : List String
colour_names = "Black" ∷ "White" ∷ "Red" ∷ "Green" ∷ "Blue" ∷ "Yellow" ∷ "Magenta" ∷ "Cyan" ∷ []

unfoldable pub named_from : ℕ → List String → List ℕ → Option Token
named_from n [] us = none
named_from n (name ∷ names) us = let r = named_from (suc n) names us in cond (same (units name) us) (some (colour n)) r

-- "`Color1` to `Color56` with no leading zero" (R25)
unfoldable pub no_leading_zero : List ℕ → Bool
no_leading_zero [] = false
no_leading_zero (u ∷ us) = not (eqb u 48)

unfoldable pub colour_digits : List ℕ → Option Token
colour_digits us =
    let n = number_from 0 (map digit_of us) in
    cond (no_leading_zero us && every is_digit us && leb n 56) (some (colour n)) none

unfoldable pub numbered : List ℕ → Option Token
numbered us = cond (starts_with (units "Color") us) (colour_digits (drop 5 us)) none

-- "an elapsed run of h, m or s" (R26)
unfoldable pub elapsed_inside : ℕ → Elapsed → List ℕ → Option Token
elapsed_inside u e us = cond (not (is_empty us) && every (eqb u) us) (some (elapsed e (length us))) none

-- "a condition: one of `= < > <= >= <>`, an optional minus, digits, optionally a point and digits" (R27)
unfoldable pub decimals_of : Comparison → Bool → List ℕ → List ℕ → Option Token
decimals_of c negative whole [] =
    some (condition (record { comparison = c; negative = negative; whole = map digit_of whole; decimals = [] }))
decimals_of c negative whole (u ∷ us) =
    cond (eqb u 46 && not (is_empty us) && every is_digit us)
    (some (condition (record { comparison = c; negative = negative; whole = map digit_of whole; decimals = map digit_of us }))) none

unfoldable pub whole_of : Comparison → Bool → List ℕ → Option Token
whole_of c negative us =
    let n = leading is_digit us in
    cond (eqb n 0) none (decimals_of c negative (take n us) (drop n us))

unfoldable pub signed_of : Comparison → List ℕ → Option Token
signed_of c us = cond (starts_with (units "-") us) (whole_of c true (drop 1 us)) (whole_of c false us)

unfoldable pub condition_inside : List ℕ → Option Token
condition_inside us =
    cond (starts_with (units "<=") us) (signed_of at_most (drop 2 us))
    (cond (starts_with (units ">=") us) (signed_of at_least (drop 2 us))
    (cond (starts_with (units "<>") us) (signed_of unequal (drop 2 us))
    (cond (starts_with (units "=") us) (signed_of equal (drop 1 us))
    (cond (starts_with (units "<") us) (signed_of less (drop 1 us))
    (cond (starts_with (units ">") us) (signed_of greater (drop 1 us)) none)))))

-- the first form that fits
unfoldable pub first_form : Option Token → Option Token → Option Token
first_form none o = o
first_form (some t) o = some t

-- what a bracket's inside stands for (R24)
unfoldable pub inside_of : List ℕ → Option Token
inside_of us =
    first_form (named_from 1 colour_names us)
    (first_form (numbered us)
    (first_form (elapsed_inside 104 hours us)
    (first_form (elapsed_inside 109 minutes us)
    (first_form (elapsed_inside 115 seconds us) (condition_inside us)))))

unfoldable pub closed : ℕ → Option Token → Step
closed n none = broken
closed n (some t) = read t (suc n)

-- the n units up to the first closing bracket (R24)
unfoldable pub bracketed : List ℕ → Step
bracketed us = let n = before 93 us in cond (eqb n (length us)) broken (closed n (inside_of (take n us)))

-- what a token may start with
pub data First : Type 0 where
  quote backslash underscore asterisk open_bracket capital_g capital_a capital_e other : First
  letter : Letter → First
  place_unit : Place → First
  single : Token → First

pub record FirstRow : Type 0 where
  pub unit : ℕ
  pub first : First

abbrev pub row : Char → First → FirstRow
row c f = record { unit = code c; first = f }

-- a row for each unit that starts a token (R16, R21, R127); the literals without quotes stand apart
unfoldable pub first_rows : List FirstRow
first_rows =
    row "\"" quote ∷ row "\\" backslash ∷ row "_" underscore ∷ row "*" asterisk ∷ row "[" open_bracket
    ∷ row "G" capital_g ∷ row "A" capital_a ∷ row "E" capital_e
    ∷ row "y" (letter letter_y) ∷ row "m" (letter letter_m) ∷ row "d" (letter letter_d) ∷ row "h" (letter letter_h) ∷ row "s" (letter letter_s)
    ∷ row "0" (place_unit zero_place) ∷ row "#" (place_unit hash_place) ∷ row "?" (place_unit space_place)
    ∷ row "." (single point) ∷ row "," (single comma) ∷ row "%" (single percent) ∷ row "@" (single at) ∷ row ";" (single semicolon) ∷ []

unfoldable pub first_in : List FirstRow → ℕ → First
first_in [] u = other
first_in (r ∷ rs) u = let f = first_in rs u in cond (eqb r.unit u) r.first f

-- "Literals without quotes", and space (R20)
unfoldable pub bare_literals : List ℕ
bare_literals = units "$-+/():!^&'~{}<>= "

unfoldable pub step_by : First → ℕ → List ℕ → Step
step_by quote u us = quoted us
step_by backslash u us = marked (λ (v : ℕ). literal (v ∷ [])) us
step_by underscore u us = marked blank us
step_by asterisk u us = marked fill us
step_by open_bracket u us = bracketed us
step_by capital_g u us = general_word (u ∷ us)
step_by capital_a u us = half_day_word (u ∷ us)
step_by capital_e u us = exponent_word (u ∷ us)
step_by (letter l) u us = run_step l u us
step_by (place_unit p) u us = place_step p us
step_by (single t) u us = read t 0
step_by other u us = cond (any (eqb u) bare_literals) (read (bare u) 0) broken

-- the token that starts at u, with the units us behind it
unfoldable pub step_at : ℕ → List ℕ → Step
step_at u us = step_by (first_in first_rows u) u us

-- a token with the place of its first unit
pub record Placed : Type 0 where
  pub token : Token
  pub start : ℕ

-- the tokens of a code, or the place of "a unit [that] starts no token, or its token is broken"
pub data Lexed : Type 0 where
  good : List Placed → Lexed
  bad : ℕ → Lexed

unfoldable pub onto : Placed → Lexed → Lexed
onto p (good ps) = good (p ∷ ps)
onto p (bad k) = bad k

unfoldable pub after_step : ℕ → Step → (ℕ → Lexed) → Lexed
after_step k (read t more) rest = onto (record { token = t; start = k }) (rest more)
after_step k broken rest = bad k

-- "Read left to right" (R14): the first of the units stands at place k, and `skip` of them belong to a token that was read
unfoldable pub lex_from : ℕ → ℕ → List ℕ → Lexed
lex_from k skip [] = good []
lex_from k (suc skip) (u ∷ us) = lex_from (suc k) skip us
lex_from k zero (u ∷ us) = after_step k (step_at u us) (λ (more : ℕ). lex_from (suc k) more us)

unfoldable pub lex : List ℕ → Lexed
lex us = lex_from 0 0 us
