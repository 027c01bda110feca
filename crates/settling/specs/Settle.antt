-- The rule for m by item words: what the tags before and behind a run of m tell of it.
-- Assumes nothing.
use Rattle.std.specs.Prelude.{ℕ, ◌+◌, Bool, false, cond, not, ◌&&◌, ◌||◌, List, [], ◌∷◌, drop, get_or, set, leb, eqb}
use Rattle.values.specs.Ranges.{between}
use Rattle.formats.specs.Items.{Item, is_minute}

-- an m is written as a month
abbrev pub is_no_minute : Item → Bool
is_no_minute i = not (is_minute i)

-- the tag of a date or time run or of an elapsed item
abbrev pub is_run_tag : ℕ → Bool
is_run_tag t = between 11 20 t && not (eqb t 17)

-- the nearest run among item words is seconds
unfoldable pub seconds_in : List ℕ → Bool
seconds_in [] = false
seconds_in (t ∷ []) = false
seconds_in (t ∷ a ∷ ws) = let r = seconds_in ws in cond (is_run_tag t) (eqb t 16 || eqb t 20) r

-- the nearest run behind an item is hours, where `hours` says it of what stands before the item
abbrev pub hours_after : ℕ → Bool → Bool
hours_after t hours = cond (is_run_tag t) (eqb t 14 || eqb t 18) hours

-- the words with the item at the place i settled
abbrev pub settled_at : List ℕ → ℕ → Bool → List ℕ
settled_at ws i hours =
    cond (eqb (get_or ws i 0) 12 && leb (get_or ws (i + 1) 0) 2) (set ws i (cond (hours || seconds_in (drop (i + 2) ws)) 15 12)) ws
