-- "The answer list" (R7, R10): the number of a call that is done and of each refusal.
-- Assumes nothing.
use Rattle.std.specs.Prelude.{ℕ, Result, Ok, Err}
use Rattle.answers.specs.declared.Refusal.{Refusal}
use Rattle.answers.specs.declared.Refusal.TheVariants as answer

abbrev pub done_number : ℕ
done_number = 0

abbrev pub number_of : Refusal → ℕ
number_of answer.CodeLength = 1
number_of answer.Token = 2
number_of answer.SectionCount = 3
number_of answer.Kind = 4
number_of answer.Standing = 5
number_of answer.Limit = 6
number_of answer.TableRoom = 7
number_of answer.Table = 8
number_of answer.Range = 9
number_of answer.NoSection = 10
number_of answer.Sort = 11
number_of answer.General = 12
number_of answer.TextRoom = 13
number_of answer.Line = 14
number_of answer.Ended = 15
number_of answer.Row = 16

-- of a call's result
abbrev pub answer_number : {A : Type 0} → Result A Refusal → ℕ
answer_number (Ok x) = done_number
answer_number (Err a) = number_of a
