-- The numbers of the cases of a reason (R140).
-- Assumes nothing.
use Rattle.std.specs.Prelude.{ℕ}
use Rattle.grounds.specs.declared.ChosenBy.{ChosenBy}
use Rattle.grounds.specs.declared.ChosenBy.TheVariants as by
use Rattle.grounds.specs.declared.Tried.{Tried}
use Rattle.grounds.specs.declared.Tried.TheVariants as tried
use Rattle.grounds.specs.declared.Minus.{Minus}
use Rattle.grounds.specs.declared.Minus.TheVariants as minus

abbrev pub choice_number : ChosenBy → ℕ
choice_number by.OwnCondition = 0
choice_number by.AllValues = 1
choice_number by.FirstOfTwo = 2
choice_number by.RestOfTwo = 3
choice_number by.AboveZero = 4
choice_number by.BelowZero = 5
choice_number by.RestOfThree = 6
choice_number by.General = 7
choice_number by.TextSection = 8
choice_number by.NoSection = 9

abbrev pub tried_number : Tried → ℕ
tried_number tried.NotTried = 0
tried_number tried.OwnFalse = 1
tried_number tried.FallbackFalse = 2

-- in the order of 02's list
abbrev pub minus_number : Minus → ℕ
minus_number minus.Added = 0
minus_number minus.Text = 1
minus_number minus.NotBelow = 2
minus_number minus.NoItem = 3
minus_number minus.ForNegatives = 4
minus_number minus.Nought = 5
