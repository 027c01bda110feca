-- A number as the chooser is asked for it, and the argument of a section's first place.
-- Assumes nothing.
use Rattle.std.specs.Prelude.{◌≡◌, ℕ, false, cond, List, [], ◌∷◌}
use Rattle.values.specs.Ranges.{between}
use Rattle.figures.specs.declared.Signed.{Signed}
use Rattle.tables.specs.Words.{Entry}
use Rattle.choosing.specs.declared.sought.Sought.{Sought}

-- this is asked for a number with this magnitude and sign
pub record AsksNumber (v : Signed) (s : Sought) : Type 0 where
  pub negative : s.negative ≡ v.negative
  pub instant : s.instant ≡ false
  pub above : s.above ≡ v.magnitude
  pub scale : s.scale ≡ v.scale

-- the argument of the first place; 15 where there is none
unfoldable pub first_argument : List Entry → ℕ
first_argument [] = 15
first_argument (e ∷ es) = let r = first_argument es in cond (between 4 6 e.tag) e.argument r
