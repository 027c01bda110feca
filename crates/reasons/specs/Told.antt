-- The choice, the minus and the scaling of a number section, as the code finds them.
-- Assumes nothing.
use Rattle.std.specs.Prelude.{◌≡◌, ℕ, ◌+◌, ◌*◌, ◌≤◌, Bool, cond, eqb}
use Rattle.lists.specs.Lists.{count}
use Rattle.formats.specs.Items.{Section, is_percent, decimal_places}
use Rattle.formats.specs.Choice.{own_condition, as_general, fallback}
use Rattle.grounds.specs.declared.ChosenBy.{ChosenBy}
use Rattle.grounds.specs.declared.Minus.{Minus}
use Rattle.grounds.specs.declared.Minus.TheVariants as held
use Rattle.grounds.specs.Why.{choice_of}
use Rattle.reasons.specs.declared.Scaling.{Scaling}

-- section i, with a condition of its own or without, where n sections count
unfoldable pub choice_at : ℕ → ℕ → Bool → ChosenBy
choice_at n i own = choice_of n (cond (eqb n 0) as_general (cond own own_condition (fallback n i)))

-- what holds the minus back, where the number is below 0 or not, and each of the others holds or not
unfoldable pub minus_told : Bool → Bool → Bool → Bool → Minus
minus_told negative empty excepted nought =
    cond negative (cond empty held.NoItem (cond excepted held.ForNegatives (cond nought held.Nought held.Added))) held.NotBelow

-- the net power of ten of a number section for a number of this scale, percents and dividing commas being powers of ten, and its decimals; with what the
-- counter takes
pub record ScalingOf (s : Section) (scale : ℕ) (r : Scaling) : Type 0 where
  pub net : r.up + (scale + 3 * s.thousands) ≡ 2 * count is_percent s.items + r.down
  pub decimals : r.decimals ≡ decimal_places s.items
  pub few : s.thousands ≤ 5
  pub up_most : r.up ≤ 100
  pub down_most : r.down ≤ 30
  pub decimals_most : r.decimals ≤ 15
