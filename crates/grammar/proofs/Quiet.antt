-- Tokens that are no place, point, comma or percent: the counts and the rules of a number pass over them. Tokens by their tests.
-- Assumes nothing.
use Prim.Native.Nat.{ℕ}
use mathlib.Core.Path.{◌≡◌, refl, ◌∙◌}
use mathlib.Core.Bool.{Bool, true, false, or-false}
use mathlib.Core.List.{List, [], ◌∷◌, ◌++◌, map}
use Rattle.lists.specs.Lists.{any, count}
use Rattle.lists.proofs.Bools.{no}
use Rattle.formats.specs.Tokens.{Token, percent, semicolon, colour, condition, Written}
use Rattle.formats.specs.Items as item
use Rattle.formats.specs.Items.{Item}
use Rattle.formats.specs.Kinds.{is_place, is_point, is_comma, is_semicolon, is_colour, is_condition, colour_in, integer_place_in, token_items}
use Rattle.formats.proofs.CommaUses.{comma_uses_from}
use Rattle.formats.proofs.Each.{by_token}
use Rattle.grammar.specs.Bodies.{Free, free-string, free-repeat, free-space, free-bare, whole_places, decimal_places, is_percent}

-- neither a place nor the point nor a comma
pub record Quiet (t : Token) : Type 0 where
  pub no_place : is_place t ≡ false
  pub no-point : is_point t ≡ false
  pub no-comma : is_comma t ≡ false

pub free-quiet : {t : Token} → Free t → Quiet t
free-quiet (free-string us) = record { no_place = refl; no-point = refl; no-comma = refl }
free-quiet (free-repeat u) = record { no_place = refl; no-point = refl; no-comma = refl }
free-quiet (free-space u) = record { no_place = refl; no-point = refl; no-comma = refl }
free-quiet (free-bare u) = record { no_place = refl; no-point = refl; no-comma = refl }

pub percent-quiet : Quiet percent
percent-quiet = record { no_place = refl; no-point = refl; no-comma = refl }

pub free-percent : {t : Token} → Free t → is_percent t ≡ false
free-percent (free-string us) = refl
free-percent (free-repeat u) = refl
free-percent (free-space u) = refl
free-percent (free-bare u) = refl

-- what passes over literals, blanks and fills passes over the items of a free token
module _ {A : Type 0} (m : List Item → A) (of_date : Bool) (literals : (u : ℕ) (is : List Item) → m (item.literal u ∷ is) ≡ m is)
    (blanks : (u : ℕ) (is : List Item) → m (item.blank u ∷ is) ≡ m is) (fills : (u : ℕ) (is : List Item) → m (item.fill u ∷ is) ≡ m is) where
  pub free-kept : {t : Token} (is : List Item) → Free t → m (token_items of_date t ++ is) ≡ m is
  unfolding token_items
  free-kept is (free-string []) = refl
  free-kept is (free-string (u ∷ us)) = literals u (map item.literal us ++ is) ∙ free-kept is (free-string us)
  free-kept is (free-repeat u) = fills u is
  free-kept is (free-space u) = blanks u is
  free-kept is (free-bare u) = literals u is

-- a token that a test passes over is not counted
pub passed_over : (f : Token → Bool) (t : Token) (ts : List Token) → f t ≡ false → count f (t ∷ ts) ≡ count f ts
unfolding count
passed_over f t ts e = rw e

module _ {t : Token} (ts : List Token) (q : Quiet t) where
  pub quiet-commas : (b c : Bool) → comma_uses_from b c (t ∷ ts) ≡ comma_uses_from b c ts
  unfolding comma_uses_from
  quiet-commas b c = rw (q.no-point, q.no_place, q.no-comma, or-false b, or-false c)

  pub quiet-any : any is_place (t ∷ ts) ≡ any is_place ts
  unfolding any
  quiet-any = rw q.no_place

  pub quiet-integers : integer_place_in (t ∷ ts) ≡ integer_place_in ts
  unfolding integer_place_in
  quiet-integers = rw (q.no-point, q.no_place)

  pub quiet-wholes : whole_places (t ∷ ts) ≡ whole_places ts
  unfolding whole_places
  quiet-wholes = rw (q.no-point, q.no_place)

  pub quiet-decimals : decimal_places (t ∷ ts) ≡ decimal_places ts
  unfolding decimal_places
  quiet-decimals = rw q.no-point

-- a semicolon, a colour or a condition by its test
pub known : (t : Token) → (is_semicolon t ≡ true → t ≡ semicolon) × (is_colour t ≡ true → t ≡ colour (colour_in t)) × (is_condition t ≡ true → (w : Written) × (t ≡ condition w))
unfolding colour_in
known =
    by_token (λ (t : Token). (is_semicolon t ≡ true → t ≡ semicolon) × (is_colour t ≡ true → t ≡ colour (colour_in t)) × (is_condition t ≡ true → (w : Written) × (t ≡ condition w)))
    (λ us. (no, no, no)) (λ u. (no, no, no)) (λ u. (no, no, no)) (λ u. (no, no, no)) (λ p. (no, no, no)) (no, no, no) (no, no, no) (no, no, no) (no, no, no)
    ((λ e. refl), no, no) (no, no, no) (λ h. (no, no, no)) (λ l n. (no, no, no)) (λ x n. (no, no, no))
    (λ n. (no, (λ e. refl), no)) (λ w. (no, no, (λ e. (w, refl)))) (λ m. (no, no, no)) (λ p. (no, no, no)) (λ p n. (no, no, no))
