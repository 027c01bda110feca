-- "Values and memory" (R2 to R5): the ranges of day numbers, milliseconds of the day, numbers and texts.
-- Assumes nothing.
use Rattle.std.specs.Prelude.{◌≡◌, ℕ, ◌^◌, Bool, cond, ◌&&◌, List, leb, ltb, nat_abs, length, Result, Ok, Err}
use Rattle.values.specs.declared.Day.{Day}
use Rattle.values.specs.declared.Millisecond.{Millisecond}
use Rattle.values.specs.declared.OutOfRange.{OutOfRange}
use Rattle.values.specs.declared.Number.{Number}
use Rattle.values.specs.declared.Value.{Value}
use Rattle.values.specs.declared.Value.TheVariants as value
use Rattle.values.specs.declared.Ask.{Ask}

-- "a day number 0 to 2,958,465 and a millisecond 0 to 86,399,999" (R3)
abbrev pub day_least : ℕ
day_least = 0

abbrev pub day_greatest : ℕ
day_greatest = 2958465

abbrev pub millisecond_least : ℕ
millisecond_least = 0

abbrev pub millisecond_greatest : ℕ
millisecond_greatest = 86399999

abbrev pub between : ℕ → ℕ → ℕ → Bool
between least greatest n = leb least n && leb n greatest

-- what the makers answer (R4): the unit with this number, where it is in the range
abbrev pub within : ℕ → ℕ → ℕ → Result ℕ OutOfRange
within least greatest n = cond (between least greatest n) (Ok n) (Err (record {}))

abbrev pub day_of : ℕ → Result Day OutOfRange
day_of n = cond (between day_least day_greatest n) (Ok (record { 0 = n })) (Err (record {}))

abbrev pub millisecond_of : ℕ → Result Millisecond OutOfRange
millisecond_of n = cond (between millisecond_least millisecond_greatest n) (Ok (record { 0 = n })) (Err (record {}))

-- the conversions from a number answer as the makers do
abbrev pub IsDayOf : ℕ → Result Day OutOfRange → Type 0
IsDayOf n r = r ≡ day_of n

abbrev pub IsMillisecondOf : ℕ → Result Millisecond OutOfRange → Type 0
IsMillisecondOf n r = r ≡ millisecond_of n

-- the answer list's number of what a maker answers: 0 done, 9 out of range
abbrev pub made_answer : {A : Type 0} → Result A OutOfRange → ℕ
made_answer (Ok x) = 0
made_answer (Err e) = 9

abbrev pub range_answer : ℕ → ℕ → ℕ → ℕ
range_answer least greatest n = cond (between least greatest n) 0 9

-- "a signed coefficient of at most fifteen digits and a scale 0 to 15" (R2)
abbrev pub number_in_range : Number → Bool
number_in_range x = ltb (nat_abs x.coefficient) (10 ^ 15) && leb x.scale 15

abbrev pub instant_in_range : Day → Millisecond → Bool
instant_in_range d m = between day_least day_greatest d.0 && between millisecond_least millisecond_greatest m.0

-- "A text has 0 to 1,024 units." (R5)
abbrev pub text_in_range : List ℕ → Bool
text_in_range text = leb (length text) 1024

abbrev pub value_in_range : Value → List ℕ → Bool
value_in_range (value.Number x) text = number_in_range x
value_in_range (value.Instant d m) text = instant_in_range d m
value_in_range value.Text text = text_in_range text

-- all that is asked for is in its range; a value's text is the one lent beside it
abbrev pub in_range : Ask → List ℕ → Bool
in_range ask text = value_in_range ask.value text

-- a value, and nothing else, asked for
abbrev pub asked : Value → Ask
asked v = record { value = v }
