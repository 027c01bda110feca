-- What a body's tokens say of it, token by token.
-- Assumes nothing.
use Rattle.std.specs.Prelude.{ℕ, ◌+◌, ◌*◌, ◌≤◌, Bool, true, false, cond, ◌&&◌, ◌||◌, List, [], ◌∷◌, leb, eqb}
use Rattle.lists.specs.Lists.{every, any, count}
use Rattle.formats.specs.Tokens.{Token}
use Rattle.formats.specs.Items.{date_kind, scientific_kind, fraction_kind, number_kind, same_kind}
use Rattle.formats.specs.Kinds.{is_place, is_comma, is_exponent, is_over, is_fill_token, integer_place_tokens, no_bracket, body_kind}
use Rattle.bodies.specs.declared.facts.Facts.{Facts}
use Rattle.bodies.specs.declared.facts.Seen.{Seen}
use Rattle.bodies.specs.Forms.{place_form, cut_form, weight_form}

-- a place, alone or with a solidus behind it
abbrev pub has_place : Token → Bool
has_place t = is_place t || is_over t

-- how many places stand behind the first E or solidus
unfoldable pub exponent_place_tokens : List Token → ℕ
exponent_place_tokens [] = 0
exponent_place_tokens (t ∷ ts) = let r = exponent_place_tokens ts in cond (is_exponent t || is_over t) (count has_place ts) r

unfoldable pub facts_of : List Token → Facts
facts_of ts =
    record {
      date = same_kind (body_kind ts) date_kind;
      scientific = same_kind (body_kind ts) scientific_kind;
      fraction = same_kind (body_kind ts) fraction_kind;
      number = same_kind (body_kind ts) number_kind;
      plain = every no_bracket ts;
      fills = count is_fill_token ts;
      commas = any is_comma ts;
      places = integer_place_tokens ts;
      exponents = exponent_place_tokens ts;
    }

-- the state with one token more: what it adds to the sum, what the next place adds, whether it has a place
abbrev pub seen : Seen → ℕ → ℕ → Bool → Seen
seen s weight unit place =
    record { sum = s.sum + weight; unit = unit; places = cond place (s.places + s.unit) s.places }

-- an E, or a place with a solidus behind it
abbrev pub see_cut : Seen → ℕ → Seen
see_cut s f = cond (leb f 26) (seen s 65536 65536 false) (seen s 256 65536 true)

-- a token that has no place and is no E
abbrev pub see_other : Seen → ℕ → Seen
see_other s f = seen s (weight_form f) (cond (eqb f 7 && eqb s.unit 1) 0 s.unit) false

-- one token more, by its form
abbrev pub see_form : Seen → ℕ → Seen
see_form s f = cond (place_form f) (seen s 1 s.unit true) (cond (cut_form f) (see_cut s f) (see_other s f))

-- the sums leave room for one token more
pub record Roomy (s : Seen) : Type 0 where
  pub sum : s.sum ≤ 253 * 72057594037927936
  pub unit : s.unit ≤ 65536
  pub places : s.places ≤ 254 * 65536
