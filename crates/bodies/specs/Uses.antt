-- The uses of a body's commas, token by token: those whose use is known are counted, the others are held.
-- Assumes nothing.
use Rattle.std.specs.Prelude.{ℕ, ◌+◌, Bool, true, cond, List, eqb}
use Rattle.lists.specs.Lists.{any, count}
use Rattle.formats.specs.Tokens.{Token}
use Rattle.formats.specs.Kinds.{is_grouping, is_dividing, is_misplaced, comma_uses}
use Rattle.bodies.specs.declared.commas.Commas.{Commas}
use Rattle.bodies.specs.declared.commas.Scan.{Scan}
use Rattle.bodies.specs.Forms.{place_form}

unfoldable pub commas_of : List Token → Commas
commas_of ts =
    record {
      misplaced = any is_misplaced (comma_uses ts);
      grouped = any is_grouping (comma_uses ts);
      thousands = count is_dividing (comma_uses ts);
    }

-- how many commas were met
abbrev pub met : Scan → ℕ
met s = s.held + s.misplaced + s.grouping + s.dividing

-- a comma behind a place is held
abbrev pub at_comma : Scan → Scan
at_comma s =
    cond s.place
    (record { point = s.point; place = s.place; held = s.held + 1; misplaced = s.misplaced; grouping = s.grouping; dividing = s.dividing })
    (record { point = s.point; place = s.place; held = s.held; misplaced = s.misplaced + 1; grouping = s.grouping; dividing = s.dividing })

-- the commas held before the point divide
abbrev pub at_point : Scan → Scan
at_point s =
    cond s.point s
    (record { point = true; place = s.place; held = 0; misplaced = s.misplaced; grouping = s.grouping; dividing = s.dividing + s.held })

-- the commas held before a place are misplaced behind the point, and group before it
abbrev pub at_place : Scan → Scan
at_place s =
    cond s.point
    (record { point = s.point; place = true; held = 0; misplaced = s.misplaced + s.held; grouping = s.grouping; dividing = s.dividing })
    (record { point = s.point; place = true; held = 0; misplaced = s.misplaced; grouping = s.grouping + s.held; dividing = s.dividing })

abbrev pub scanned : Scan → Bool → Bool → Bool → Scan
scanned s comma point place = cond comma (at_comma s) (cond point (at_point s) (cond place (at_place s) s))

-- one token more, by its form
abbrev pub scan_form : Scan → ℕ → Scan
scan_form s f = scanned s (eqb f 8) (eqb f 7) (place_form f)
