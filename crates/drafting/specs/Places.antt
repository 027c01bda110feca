-- The places of a body's items: those before the point and the E or solidus, and those behind the E or solidus.
-- Assumes nothing.
use Rattle.std.specs.Prelude.{ℕ, suc, ◌+◌, ◌-◌, Bool, true, false, cond, not, ◌&&◌, ◌||◌, List, [], ◌∷◌, ltb, eqb}
use Rattle.formats.specs.Tokens.{Token}
use Rattle.formats.specs.Items.{Item, integer_places, places_behind}
use Rattle.formats.specs.Kinds.{is_point, is_exponent, is_over, is_zero, is_seconds_token}
use Rattle.bodies.specs.Forms.{place_form, over_form, cut_form}
use Rattle.bodies.specs.Bodies.{has_place}
use Rattle.drafting.specs.declared.places.Parting.{Parting}
use Rattle.drafting.specs.declared.places.Places.{Places}

abbrev pub places_of : List Item → Places
places_of is = record { integers = integer_places is; exponents = places_behind is }

-- an E, or a place with a solidus behind it
abbrev pub is_cut : Token → Bool
is_cut t = is_exponent t || is_over t

-- what stands behind a cut or not is on the side asked for, behind the cut or before it
abbrev pub is_aside : Bool → Bool → Bool
is_aside behind_cut met = cond behind_cut met (not met)

-- the places of a date's items on one side of its first E or solidus: those of its tokens but the zeros of a part of a second; met: a cut
-- stands before these tokens; behind: the token just before is s, ss or an elapsed s; `left` zeros may still belong to a part
unfoldable pub date_places : Bool → Bool → Bool → ℕ → List Token → ℕ
date_places behind_cut met behind left [] = 0
date_places behind_cut met behind left (t ∷ ts) =
    let in_part = date_places behind_cut met false (left - 1) ts in
    let other = date_places behind_cut (met || is_cut t) (is_seconds_token t) (cond (behind && is_point t) 3 0) ts in
    cond (is_zero t && ltb 0 left) in_part (cond (has_place t && is_aside behind_cut met) (suc other) other)

abbrev pub date_places_of : List Token → Places
date_places_of ts = record { integers = date_places false false false 0 ts; exponents = date_places true false false 0 ts }

-- a place, alone or with a solidus behind it, by the token's form
abbrev pub has_place_form : ℕ → Bool
has_place_form f = place_form f || over_form f

-- the places with one more, if there is one: behind the E or solidus, where one was passed
abbrev pub places_with : Places → Bool → Bool → Places
places_with p place cut =
    record {
      integers = cond (place && not cut) (p.integers + 1) p.integers;
      exponents = cond (place && cut) (p.exponents + 1) p.exponents;
    }

-- the places met with one token more, by its form
abbrev pub part_form : Parting → ℕ → Parting
part_form s f =
    cond (eqb f 4 && ltb 0 s.left)
    (record { behind = false; left = s.left - 1; cut = s.cut; places = s.places })
    (record {
      behind = eqb f 19 || eqb f 22;
      left = cond (s.behind && eqb f 7) 3 0;
      cut = s.cut || cut_form f;
      places = places_with s.places (has_place_form f) s.cut;
    })
