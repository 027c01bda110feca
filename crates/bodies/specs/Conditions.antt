-- The condition that units inside a bracket write, part by part.
-- Assumes nothing.
use Rattle.std.specs.Prelude.{ℕ, zero, suc, ◌+◌, ◌*◌, ◌^◌, ◌<◌, ◌≡◌, Bool, true, false, cond, not, ◌&&◌, List, [], ◌∷◌, map, leb, ltb, eqb, length, take, drop, get_or}
use Rattle.std.specs.Prelude as std
use Rattle.std.proofs.Math.Option.{some}
use Rattle.formats.specs.Tokens.{Written, leading, is_digit, digit_of, number_from, condition_inside}
use Rattle.formats.specs.Kinds.{millionths_of}
use Rattle.formats.specs.Limits.{written_within}
use Rattle.tables.specs.Encode.{comparison_word}
use Rattle.tables.specs.Decode.{comparison_at}
use Rattle.marks.specs.Marks.{written_or, written_in}
use Rattle.bodies.specs.declared.conditions.Amount.{Amount}
use Rattle.bodies.specs.declared.conditions.Compared.{Compared}
use Rattle.bodies.specs.Forms.{one}

unfoldable pub written_inside : List ℕ → Written
written_inside us = written_or (written_in (condition_inside us))

-- the number of the comparison that starts with units u and v, 0 where none does
abbrev pub operator_by : ℕ → ℕ → ℕ
operator_by u v =
    cond (eqb 60 u && eqb 61 v) 4
    (cond (eqb 62 u && eqb 61 v) 5
    (cond (eqb 60 u && eqb 62 v) 6
    (cond (eqb 61 u) 1
    (cond (eqb 60 u) 2
    (cond (eqb 62 u) 3 0)))))

abbrev pub operator_width : ℕ → ℕ
operator_width n = cond (leb n 3) 1 2

unfoldable pub operator_in : List ℕ → ℕ
operator_in us = operator_by (get_or us 0 0) (get_or us 1 0)

-- the units behind the comparison
unfoldable pub signed_in : List ℕ → List ℕ
signed_in us = drop (operator_width (operator_in us)) us

unfoldable pub negative_in : List ℕ → Bool
negative_in us = eqb 45 (get_or (signed_in us) 0 0)

-- the units behind the minus, if there is one
unfoldable pub number_in : List ℕ → List ℕ
number_in us = drop (one (negative_in us)) (signed_in us)

-- the digits of a number before its point, and those behind it
unfoldable pub whole_units : List ℕ → List ℕ
whole_units us = take (leading is_digit us) us

unfoldable pub decimal_units : List ℕ → List ℕ
decimal_units us = drop (leading is_digit us + 1) us

-- the condition that its parts write
unfoldable pub written_of : ℕ → Bool → List ℕ → Written
written_of operator negative us =
    record {
      comparison = comparison_at operator;
      negative = negative;
      whole = map digit_of (whole_units us);
      decimals = map digit_of (decimal_units us);
    }

-- the digits of units in so many places, with zeros where the units end
unfoldable pub padded : ℕ → List ℕ → List ℕ
padded zero us = []
padded (suc k) [] = 0 ∷ padded k []
padded (suc k) (u ∷ us) = digit_of u ∷ padded k us

unfoldable pub padded_number : ℕ → List ℕ → ℕ
padded_number places us = number_from 0 (padded places us)

-- a is the number that the condition w compares with, as a table has it
pub record Measures (w : Written) (a : Amount) : Type 0 where
  pub number : millionths_of w ≡ a.whole * 10 ^ 6 + a.millionths
  pub negative : a.negative ≡ (w.negative && not (eqb (millionths_of w) 0))
  pub whole : a.whole < 10 ^ 9
  pub millionths : a.millionths < 10 ^ 6

-- the same, if its digits are within the limits
pub record AmountOf (w : Written) (r : std.Option Amount) : Type 0 where
  pub within : std.is_some r ≡ written_within (some w)
  pub measures : (a : Amount) → r ≡ std.Some a → Measures w a

-- r is the condition w as a table has it
pub record ComparedBy (w : Written) (r : Compared) : Type 0 where
  pub operator : r.operator ≡ comparison_word w.comparison
  pub amount : AmountOf w r.amount
