-- The digits of a number (R69), and a number written in digits (R77, R85, R88).
-- Assumes nothing.
use Rattle.std.specs.Prelude.{ℕ, zero, suc, ◌+◌, ◌/◌, ◌%◌, ◌^◌, max, cond, List, [], ◌∷◌, leb}
use Rattle.lists.specs.Tables.{values}

-- the digit of n at 10^k
unfoldable pub digit : ℕ → ℕ → ℕ
digit n k = n / 10 ^ k % 10

-- "The rounded number is forty digits by value, 25 before the point and 15 after": the digits of a count of 10^-15,
-- that of 10^-15 first, so that a digit's place in the list is its power of ten and 15
unfoldable pub figures : ℕ → List ℕ
figures n = values (digit n) 0 40

-- the unit that shows a digit
abbrev pub digit_unit : ℕ → ℕ
digit_unit d = 48 + d

-- the m lowest digits of n as units, the highest first
unfoldable pub digit_units : ℕ → ℕ → List ℕ
digit_units zero n = []
digit_units (suc m) n = digit_unit (digit n m) ∷ digit_units m n

-- how many digits n has when it is written out, at least 1; k + 1 is the most that is looked for
unfoldable pub width_up_to : ℕ → ℕ → ℕ
width_up_to zero n = 1
width_up_to (suc k) n = let r = width_up_to k n in cond (leb (10 ^ suc k) n) (suc (suc k)) r

-- no number shown has more than 25 digits before its point
unfoldable pub width : ℕ → ℕ
width n = width_up_to 24 n

-- n in digits, with zeros in front up to a least number of digits; a longer number is shown whole
unfoldable pub numeral : ℕ → ℕ → List ℕ
numeral least n = digit_units (max least (width n)) n
