-- "Added minus (house)" (R63 to R65): whether a minus stands in front, or what held it back.
-- Assumes nothing.
use Rattle.std.specs.Prelude.{ℕ, Bool, true, false, cond, not, ◌&&◌, ◌||◌, List, [], ◌∷◌, eqb}
use Rattle.lists.specs.Lists.{is_empty}
use Rattle.formats.specs.Items.{Section}
use Rattle.formats.specs.Where.{has_condition}
use Rattle.formats.specs.Choice.{Exact, zero_exact, less_than, Reason, own_condition, only_section, not_below_zero, above_zero, below_zero, the_rest, as_general}

-- a minus; or the value is not below 0, the section has no item, exception (a), exception (b), the first that applies
pub data Sign : Type 0 where
  minus not_negative no_item for_negatives nought : Sign

abbrev pub is_own : Reason → Bool
is_own own_condition = true
is_own only_section = false
is_own not_below_zero = false
is_own above_zero = false
is_own below_zero = false
is_own the_rest = false
is_own as_general = false

unfoldable pub first_has_condition : List Section → Bool
first_has_condition [] = false
first_has_condition (s ∷ ss) = has_condition s

-- "(a) the second section taken without its own condition where N=3, or N=2 and the first has none" (R64)
unfoldable pub exception_a : ℕ → ℕ → Bool → Bool → Bool
exception_a n i own first_has = eqb i 1 && not own && (eqb n 3 || (eqb n 2 && not first_has))

-- "in front of everything, when the value is below 0 and the section has an item, except (a) [..]; (b) it shows places or
-- General and these round to zero" (R63)
unfoldable pub sign_for : Exact → Section → Bool → Bool → Sign
sign_for x s a b =
    cond (not (less_than x zero_exact)) not_negative
    (cond (is_empty s.items) no_item (cond a for_negatives (cond b nought minus)))

unfoldable pub sign_units : Sign → List ℕ
sign_units minus = 45 ∷ []
sign_units not_negative = []
sign_units no_item = []
sign_units for_negatives = []
sign_units nought = []
