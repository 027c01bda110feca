-- What a scientific section's items from the E on are shown from: an exponent below 100, a digit at a time.
-- Assumes nothing.
use Rattle.std.specs.Prelude.{ℕ, ◌*◌, ◌/◌, ◌^◌, ◌≡◌, Bool, false, cond, eqb}
use Rattle.formats.specs.Tokens.{ExponentMark, e_plus, e_minus}
use Rattle.formats.specs.Items.{Kind, scientific_kind}
use Rattle.formats.specs.Text.{Context}

-- a context shows an exponent, by its distance from 0 and whether it is below
pub record ExponentIs (size : ℕ) (below : Bool) (c : Context) : Type 0 where
  pub figures : c.figures ≡ size * 10 ^ 15
  pub ungrouped : c.grouped ≡ false
  pub sign : c.below ≡ below

-- the property of a scientific section's items from the E on, which show an exponent in so many places
abbrev pub PowerIs : ℕ → Bool → ℕ → Kind → Context → Type 0
PowerIs size below places k c = (k ≡ scientific_kind) × ExponentIs size below c × (c.integer_places ≡ places)

-- what is left of an exponent below 100 from the digit of this argument up
unfoldable pub left_at : ℕ → ℕ → ℕ
left_at size argument = cond (eqb argument 16) size (cond (eqb argument 17) (size / 10) 0)

-- "22 (E+, 0) and 23 (E-, 0)"
unfoldable pub mark_of_tag : ℕ → ExponentMark
mark_of_tag t = cond (eqb t 22) e_plus e_minus
