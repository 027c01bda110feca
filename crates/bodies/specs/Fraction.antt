-- The rules for the solidus of a fraction (R132), token by token.
-- Assumes nothing.
use Rattle.std.specs.Prelude.{ℕ, ◌≡◌, Bool, true, false, cond, not, ◌&&◌, ◌||◌, List, T, leb, eqb}
use Rattle.values.specs.Ranges.{between}
use Rattle.lists.specs.Lists.{every, is_empty}
use Rattle.formats.specs.Tokens.{Token}
use Rattle.formats.specs.Items.{fraction_kind, same_kind, fraction_fits}
use Rattle.formats.specs.Kinds.{form_of, body_kind, token_items, body_items}
use Rattle.bodies.specs.declared.fraction.Walk.{Walk}
use Rattle.bodies.specs.Forms.{place_form, over_form}

-- a literal has a unit or more, as each has that is read from a code
unfoldable pub has_units : Token → Bool
has_units t = not (eqb (form_of t) 0 && is_empty (token_items false t))

-- r tells whether the body of a fraction keeps the rules for its solidus
abbrev pub FractionTold : List Token → Bool → Type 0
FractionTold ts r = T (every has_units ts) → same_kind (body_kind ts) fraction_kind ≡ true → r ≡ fraction_fits (body_items ts)

-- a token of this form makes no item
abbrev pub silent_form : ℕ → Bool
silent_form f = eqb f 8 || eqb f 11 || eqb f 23 || eqb f 24

-- a place more
abbrev pub at_place : Walk → Walk
at_place w =
    record {
      over = w.over;
      run = not w.over || w.run;
      begun = w.begun || w.over;
      literal = w.literal;
      fits = w.fits && (not w.over || w.run);
    }

-- another item more, which is a literal or not
abbrev pub at_item : Bool → Walk → Walk
at_item literal w =
    record {
      over = w.over;
      run = false;
      begun = w.begun || w.run && not w.over;
      literal = w.literal && not w.run || literal;
      fits = w.fits && (not w.over || w.begun);
    }

-- a place and its solidus more, with a fixed number or not
abbrev pub at_over : Bool → Walk → Walk
at_over fixed w =
    record {
      over = true;
      run = not fixed;
      begun = fixed;
      literal = w.literal;
      fits = w.fits && not w.over && (not w.begun || w.literal);
    }

-- one token more, by its form
abbrev pub walk_form : Walk → ℕ → Walk
walk_form w f =
    cond (place_form f) (at_place w)
    (cond (over_form f) (at_over (leb 30 f) w)
    (cond (silent_form f) w (at_item (not (between 2 26 f)) w)))
