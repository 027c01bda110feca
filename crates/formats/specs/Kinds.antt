-- "Kinds of section" (R29 to R45, R132, R134): a section's tokens as a section, and whether they fit a kind.
-- Assumes nothing.
use Rattle.std.specs.Prelude.{ℕ, zero, suc, ◌+◌, ◌-◌, ◌*◌, ◌^◌, min, Bool, true, false, cond, not, ◌&&◌, ◌||◌, List, [], ◌∷◌, ◌++◌, map, length, eqb}
use Rattle.std.proofs.Math.Option.{Option, none, some}
use Rattle.lists.specs.Lists.{every, any, count}
use Rattle.formats.specs.Tokens as token
use Rattle.formats.specs.Tokens.{Token, place_index, half_index, exponent_index, Letter, letter_y, letter_m, letter_d, letter_h, letter_s, letter_index, elapsed_index, Written, number_from}
use Rattle.formats.specs.Items as item
use Rattle.formats.specs.Items.{Item, Condition, Section, Kind, general_kind, number_kind, text_kind, date_kind, scientific_kind, fraction_kind, same_kind, is_kind, kind_from, is_fill, fraction_fits, items_fit, settled}

-- what is to be known of a token beside the items that it makes
pub record TokenRow : Type 0 where
  -- a number of its own for each form of token, by which tokens are told apart: the first of them where the form has several
  pub form : ℕ
  -- which of its numbers it has, counted from the first
  pub variant : ℕ
  -- its unit, the length of its run, or its colour; 0 where it has none of these
  pub argument : ℕ
  -- the kind that it makes of its body
  pub makes : Option Kind
  -- the condition that it writes
  pub written : Option Written

-- a row with its first four fields in their order
abbrev row : ℕ → ℕ → ℕ → Option Kind → TokenRow
row f v a m = record { form = f; variant = v; argument = a; makes = m; written = none }

-- the tokens by their forms; a half-day mark is no date token (R30)
abbrev pub token_row : Token → TokenRow
token_row (token.literal us) = row 0 0 0 none
token_row (token.bare u) = row 1 0 u none
token_row (token.blank u) = row 2 0 u none
token_row (token.fill u) = row 3 0 u none
token_row (token.place p) = row 4 (place_index p) 0 (some number_kind)
token_row token.point = row 7 0 0 none
token_row token.comma = row 8 0 0 none
token_row token.percent = row 9 0 0 none
token_row token.at = row 10 0 0 (some text_kind)
token_row token.semicolon = row 11 0 0 none
token_row token.general = row 12 0 0 (some general_kind)
token_row (token.half h) = row 13 (half_index h) 0 none
token_row (token.run l n) = row 15 (letter_index l) n (some date_kind)
token_row (token.elapsed e n) = row 20 (elapsed_index e) n (some date_kind)
token_row (token.colour n) = row 23 0 n none
token_row (token.condition w) = record { form = 24; variant = 0; argument = 0; makes = none; written = some w }
token_row (token.exponent m) = row 25 (exponent_index m) 0 (some scientific_kind)
token_row (token.over p) = row 27 (place_index p) 0 (some fraction_kind)
token_row (token.over_fixed p n) = row 30 (place_index p) n (some fraction_kind)

abbrev pub form_of : Token → ℕ
form_of t = (token_row t).form

abbrev pub is_fill_token : Token → Bool
is_fill_token t = eqb (form_of t) 3

abbrev pub is_place : Token → Bool
is_place t = eqb (form_of t) 4

abbrev pub is_point : Token → Bool
is_point t = eqb (form_of t) 7

abbrev pub is_comma : Token → Bool
is_comma t = eqb (form_of t) 8

abbrev pub is_semicolon : Token → Bool
is_semicolon t = eqb (form_of t) 11

abbrev pub is_colour : Token → Bool
is_colour t = eqb (form_of t) 23

abbrev pub is_condition : Token → Bool
is_condition t = eqb (form_of t) 24

abbrev pub is_exponent : Token → Bool
is_exponent t = eqb (form_of t) 25

-- a place with a solidus directly behind it
abbrev pub is_over : Token → Bool
is_over t = eqb (form_of t) 27 || eqb (form_of t) 30

-- "At most one colour, then at most one condition, then the body." (R29)
pub record Parts : Type 0 where
  pub colour : ℕ
  pub condition : Option Written
  pub body : List Token

unfoldable pub colour_in : Token → ℕ
colour_in t = cond (is_colour t) (token_row t).argument 0

unfoldable pub condition_in : Token → Option Written
condition_in t = (token_row t).written

unfoldable pub after_colour : ℕ → List Token → Parts
after_colour c [] = record { colour = c; condition = none; body = [] }
after_colour c (t ∷ ts) =
    cond (is_condition t) (record { colour = c; condition = condition_in t; body = ts })
    (record { colour = c; condition = none; body = t ∷ ts })

unfoldable pub parts_of : List Token → Parts
parts_of [] = after_colour 0 []
parts_of (t ∷ ts) = cond (is_colour t) (after_colour (colour_in t) ts) (after_colour 0 (t ∷ ts))

unfoldable pub token_makes : Kind → Token → Bool
token_makes k t = is_kind k (token_row t).makes

unfoldable pub body_kind : List Token → Kind
body_kind ts = kind_from (λ (k : Kind). any (token_makes k) ts)

-- Number: "A comma with integer places on both sides of it asks for grouping. Commas between the last integer place and the
-- point or end, or after the last place of all, each divide by 1,000. Any other comma is 4." (R34 to R36)
pub data CommaUse : Type 0 where
  groups divides misplaced : CommaUse

abbrev pub is_grouping : CommaUse → Bool
is_grouping groups = true
is_grouping divides = false
is_grouping misplaced = false

abbrev pub is_dividing : CommaUse → Bool
is_dividing groups = false
is_dividing divides = true
is_dividing misplaced = false

abbrev pub is_misplaced : CommaUse → Bool
is_misplaced groups = false
is_misplaced divides = false
is_misplaced misplaced = true

-- an integer place stands among these tokens: a place before their first point
unfoldable pub integer_place_in : List Token → Bool
integer_place_in [] = false
integer_place_in (t ∷ ts) = let r = integer_place_in ts in cond (is_point t) false (cond (is_place t) true r)

-- and how many integer places do: before their first point, and before an E or solidus
unfoldable pub integer_place_tokens : List Token → ℕ
integer_place_tokens [] = 0
integer_place_tokens (t ∷ ts) =
    let r = integer_place_tokens ts in cond (is_point t || is_exponent t) 0 (cond (is_over t) 1 (cond (is_place t) (suc r) r))

-- the use of a comma, by the tokens of its body before it and behind it: between integer places it groups; between the last integer
-- place and the point or end it divides; after the last place of all it divides
unfoldable pub use_of : List Token → List Token → CommaUse
use_of before behind =
    let before_point = not (any is_point before) in
    cond (integer_place_in before && before_point && integer_place_in behind) groups
    (cond (integer_place_in before && before_point && not (integer_place_in behind)) divides
    (cond (any is_place before && not (any is_place behind)) divides misplaced))

-- the uses of the commas among the later tokens, in their order
unfoldable pub uses_from : List Token → List Token → List CommaUse
uses_from before [] = []
uses_from before (t ∷ ts) = let r = uses_from (before ++ (t ∷ [])) ts in cond (is_comma t) (use_of before ts ∷ r) r

unfoldable pub comma_uses : List Token → List CommaUse
comma_uses ts = uses_from [] ts

-- "Date-time: comma is a literal." A scientific or fraction section has none. (R36, R40, R129, R134)
unfoldable pub commas_fit : List Token → Bool
commas_fit ts =
    cond (same_kind (body_kind ts) scientific_kind || same_kind (body_kind ts) fraction_kind) (not (any is_comma ts))
    (same_kind (body_kind ts) date_kind || not (any is_misplaced (comma_uses ts)))

-- "A point right after s, ss or an elapsed s, followed by one to three zeros, is a part of a second and shows its point. Other
-- points are literals; other places are 4." (R39, R40) A piece is a token, or such a point with its zeros.
pub data Piece : Type 0 where
  whole : Token → Piece
  second_part : ℕ → Piece

-- "s, ss or an elapsed s": the last of the letters of runs, and of elapsed runs
unfoldable pub is_seconds_token : Token → Bool
is_seconds_token t = cond (eqb (form_of t) 15) (eqb (token_row t).variant 4) (eqb (form_of t) 20 && eqb (token_row t).variant 2)

unfoldable pub is_zero : Token → Bool
is_zero t = is_place t && eqb (token_row t).variant 0

-- how many zeros stand at the start
unfoldable pub leading_zeros : List Token → ℕ
leading_zeros [] = 0
leading_zeros (t ∷ ts) = let r = leading_zeros ts in cond (is_zero t) (suc r) 0

-- how many zeros the part of a second that starts with t takes of the tokens behind it: up to three, and 0 where t starts none.
-- A fourth zero is one of the "other places".
unfoldable pub part_zeros : Bool → Token → List Token → ℕ
part_zeros behind_seconds t ts = cond (behind_seconds && is_point t) (min 3 (leading_zeros ts)) 0

-- the pieces of tokens, of which the first `taken` are the zeros of a part of a second that was met; behind_seconds: the token just
-- before them is s, ss or an elapsed s
unfoldable pub pieces_from : Bool → ℕ → List Token → List Piece
pieces_from behind_seconds taken [] = []
pieces_from behind_seconds (suc taken) (t ∷ ts) = pieces_from false taken ts
pieces_from behind_seconds zero (t ∷ ts) =
    let n = part_zeros behind_seconds t ts in
    let r = pieces_from (is_seconds_token t) n ts in
    cond (eqb n 0) (whole t ∷ r) (second_part n ∷ r)

unfoldable pub run_item : Letter → ℕ → Item
run_item letter_y n = item.year n
run_item letter_m n = item.month n
run_item letter_d n = item.day n
run_item letter_h n = item.hour n
run_item letter_s n = item.second n

-- a token's items. A comma of a date is a literal, any other makes none; a point of a date that is no part of a second is a
-- literal. A colour or a condition in a body makes none and is refused.
unfoldable pub token_items : Bool → Token → List Item
token_items of_date (token.literal us) = map item.literal us
token_items of_date (token.bare u) = item.literal u ∷ []
token_items of_date (token.blank u) = item.blank u ∷ []
token_items of_date (token.fill u) = item.fill u ∷ []
token_items of_date (token.place p) = item.place p ∷ []
token_items of_date token.point = cond of_date (item.literal 46) item.point ∷ []
token_items of_date token.comma = cond of_date (item.literal 44 ∷ []) []
token_items of_date token.percent = item.percent ∷ []
token_items of_date token.at = item.at ∷ []
token_items of_date token.semicolon = []
token_items of_date token.general = item.general ∷ []
token_items of_date (token.half h) = item.half h ∷ []
token_items of_date (token.run l n) = run_item l n ∷ []
token_items of_date (token.elapsed e n) = item.elapsed e n ∷ []
token_items of_date (token.colour n) = []
token_items of_date (token.condition w) = []
token_items of_date (token.exponent m) = item.exponent m ∷ []
token_items of_date (token.over p) = item.place p ∷ item.solidus ∷ []
token_items of_date (token.over_fixed p n) = item.place p ∷ item.solidus ∷ item.fixed n ∷ []

unfoldable pub piece_items : Piece → List Item
piece_items (whole t) = token_items true t
piece_items (second_part n) = item.part n ∷ []

unfoldable pub plain_items : List Token → List Item
plain_items [] = []
plain_items (t ∷ ts) = token_items false t ++ plain_items ts

unfoldable pub date_items : List Piece → List Item
date_items [] = []
date_items (p ∷ ps) = piece_items p ++ date_items ps

-- a body's items as they stand in it (R43)
unfoldable pub body_items : List Token → List Item
body_items ts = cond (same_kind (body_kind ts) date_kind) (date_items (pieces_from false 0 ts)) (plain_items ts)

-- "only the last [fill] in a section is kept" (R44)
unfoldable pub last_fill : List Item → List Item
last_fill [] = []
last_fill (i ∷ is) = let r = last_fill is in cond (is_fill i && any is_fill is) r (i ∷ r)

-- the number of a condition in millionths, "0 at zero" for its sign (R45); more than six decimals are refused by 6
unfoldable pub millionths_of : Written → ℕ
millionths_of w = number_from 0 w.whole * 10 ^ 6 + number_from 0 w.decimals * 10 ^ (6 - length w.decimals)

unfoldable pub condition_of : Option Written → Option Condition
condition_of none = none
condition_of (some w) =
    some (record {
      comparison = w.comparison;
      negative = w.negative && not (eqb (millionths_of w) 0);
      millionths = millionths_of w;
    })

-- the section that its parts stand for (R45)
unfoldable pub section_of : Parts → Section
section_of p =
    let number = same_kind (body_kind p.body) number_kind in
    record {
      colour = p.colour;
      condition = condition_of p.condition;
      grouped = number && any is_grouping (comma_uses p.body);
      thousands = cond number (count is_dividing (comma_uses p.body)) 0;
      items = settled (last_fill (body_items p.body));
    }

-- the body has no colour and no condition (R29)
unfoldable pub no_bracket : Token → Bool
no_bracket t = not (is_colour t) && not (is_condition t)

-- the section fits its kind, else 4: the rules for tokens, and those for items. A fill that is not kept still breaks a run of places. (R134)
unfoldable pub fits : Parts → Bool
fits p =
    every no_bracket p.body
    && commas_fit p.body
    && fraction_fits (body_items p.body)
    && items_fit (section_of p).items
