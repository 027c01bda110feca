-- The items of a number section: their rules and limits, and what is kept of them from one to the next.
-- Assumes nothing.
use Rattle.std.specs.Prelude.{ℕ, ◌+◌, ◌-◌, ◌≡◌, Bool, true, false, cond, not, ◌&&◌, ◌||◌, List, Option, None, Some, MatchOption, leb, ltb, eqb}
use Rattle.values.specs.Ranges.{between}
use Rattle.lists.specs.Lists.{count}
use Rattle.formats.specs.Items.{is_percent, integer_places, decimal_places}
use Rattle.tables.specs.Words.{Entry}
use Rattle.tables.specs.Decode.{items_at}
use Rattle.tallies.specs.Tally.{items_of}
use Rattle.number_rows.specs.declared.NumberRow.{NumberRow}
use Rattle.number_rows.specs.declared.NumberWalk.{NumberWalk}

-- the rules for the items, and the limits of the places and percents
unfoldable pub number_items : List Entry → Bool
number_items es =
    let is = items_at es in
    items_of 2 es && (leb (integer_places is) 20 && (leb (decimal_places is) 15 && leb (count is_percent is) 5))

-- what is told of items that keep them
pub record NumberCounts (es : List Entry) (r : NumberRow) : Type 0 where
  pub fits : number_items es ≡ true
  pub integers : r.integers ≡ integer_places (items_at es)
  pub decimals : r.decimals ≡ decimal_places (items_at es)
  pub percents : r.percents ≡ count is_percent (items_at es)

-- what is told of items: nothing where they do not
abbrev pub NumberTold : List Entry → Option NumberRow → Type 0
NumberTold es r = MatchOption r (number_items es ≡ false) (NumberCounts es)

-- ---- one item: what is kept behind it, where it is not at fault
abbrev pub greatest_power : ℕ
greatest_power = 35

-- the first place may have any power; each other place has the power below
unfoldable pub place_taken : NumberWalk → ℕ → Option NumberWalk
place_taken s a =
    cond (eqb a 0) None
    (cond (eqb s.next a) (Some (record s { next = a - 1 }))
    (cond (eqb s.first 0) (cond (leb a greatest_power) (Some (record s { point = false; first = a; next = a - 1 })) None) None))

-- the one point stands behind the place of power 0, or before all places
unfoldable pub point_taken : NumberWalk → ℕ → Option NumberWalk
point_taken s a =
    cond (s.point || not (eqb a 0)) None
    (cond (eqb s.first 0) (Some (record s { point = true; first = 15; next = 15 }))
    (cond (eqb s.next 15) (Some (record s { point = true })) None))

unfoldable pub percent_taken : NumberWalk → ℕ → Option NumberWalk
percent_taken s a = cond (eqb a 0) (cond (ltb s.percents 5) (Some (record s { percents = s.percents + 1 })) None) None

unfoldable pub fill_taken : NumberWalk → Option NumberWalk
fill_taken s = cond (eqb s.fills 0) (Some (record s { fills = 1 })) None

unfoldable pub number_after : NumberWalk → ℕ → ℕ → Option NumberWalk
number_after s t a =
    cond (between 4 6 t) (place_taken s a)
    (cond (eqb t 1) (Some s)
    (cond (eqb t 2) (Some s)
    (cond (eqb t 3) (fill_taken s)
    (cond (eqb t 7) (point_taken s a)
    (cond (eqb t 8) (percent_taken s a) None)))))
