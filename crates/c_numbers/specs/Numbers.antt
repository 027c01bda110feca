-- What the calls for C return (R115): what the Rattle calls return, with the answer as its number in the answer list.
-- Assumes nothing.
use Rattle.std.specs.Prelude.{ℕ, Bool, cond, ℤ, Result, Ok, Err}
use Rattle.answers.specs.declared.Refusal.{Refusal}
use Rattle.answers.specs.declared.Refusal.TheVariants as answer
use Rattle.answers.specs.declared.Refused.{Refused}
use Rattle.answers.specs.declared.Shown.{Shown}
use Rattle.answers.specs.Number.{done_number, number_of, answer_number}
use Rattle.values.specs.declared.Value.TheVariants as value
use Rattle.values.specs.declared.Ask.{Ask}
use Rattle.values.specs.Ranges.{asked}
use Rattle.formats.specs.Accept.{Span}
use Rattle.boards.specs.declared.PutRow.{PutRow}
use Rattle.boards.specs.declared.ClearedRow.{ClearedRow}
use Rattle.streams.specs.declared.Stream.{Stream}
use Rattle.streams.specs.declared.Fed.{Fed}
use Rattle.streams.specs.declared.Finished.{Finished}
use Rattle.c_numbers.specs.declared.PreparedNumbers.{PreparedNumbers}
use Rattle.c_numbers.specs.declared.PartNumbers.{PartNumbers}
use Rattle.grounds.specs.declared.Grounds.{Grounds}
use Rattle.grounds.specs.Numbers.{choice_number, tried_number, minus_number}
use Rattle.c_numbers.specs.declared.ShownNumbers.{ShownNumbers}
use Rattle.c_numbers.specs.declared.WhyNumbers.{WhyNumbers}
use Rattle.c_numbers.specs.declared.PutNumbers.{PutNumbers}
use Rattle.c_numbers.specs.declared.ClearedNumbers.{ClearedNumbers}
use Rattle.c_numbers.specs.declared.FedNumbers.{FedNumbers}
use Rattle.c_numbers.specs.declared.FinishedNumbers.{FinishedNumbers}

-- "On a refusal every returned number but the answer and the place is 0." (R7)
abbrev pub prepared_numbers : Result ℕ Refused → PreparedNumbers
prepared_numbers (Ok words) = record { answer = done_number; place = 0; words = words }
prepared_numbers (Err r) = record { answer = number_of r.refusal; place = r.place; words = 0 }

abbrev pub part_numbers : Span → PartNumbers
part_numbers s = record { start = s.start; length = s.size }

-- of words that pass the table rules, or do not; 8: "the table breaks a table rule"
abbrev pub check_number : Bool → ℕ
check_number passed = cond passed done_number (number_of answer.Table)

-- nothing is exact on a refusal: "on a refusal it is 0" (R7)
abbrev pub shown_numbers : Result Shown Refusal → ShownNumbers
shown_numbers (Ok s) =
    record { answer = done_number; length = s.length; colour = s.colour; section = s.section; exact = cond s.exact 1 0 }
shown_numbers (Err a) = record { answer = number_of a; length = 0; colour = 0; section = 0; exact = 0 }

-- a refusal has its answer alone, a reason the answer 0
abbrev pub why_numbers : Result Grounds Refusal → WhyNumbers
why_numbers (Err a) =
    record { answer = number_of a; section = 0; choice = 0; first = 0; second = 0; minus = 0; cut = 0 }
why_numbers (Ok g) =
    record {
      answer = done_number;
      section = g.section;
      choice = choice_number g.choice;
      first = tried_number g.first;
      second = tried_number g.second;
      minus = minus_number g.minus;
      cut = g.cut;
    }

-- the board itself is lent and handed back by value
abbrev pub put_numbers : PutRow → PutNumbers
put_numbers p = record { board = p.board; shown = shown_numbers p.shown }

abbrev pub cleared_numbers : ClearedRow → ClearedNumbers
cleared_numbers c = record { board = c.board; answer = answer_number c.cleared }

-- a stream too
abbrev pub fed_as : Stream → Result (Unit {0}) Refused → FedNumbers
fed_as s (Ok x) = record { stream = s; answer = done_number; place = 0 }
fed_as s (Err r) = record { stream = s; answer = number_of r.refusal; place = r.place }

abbrev pub fed_numbers : Fed → FedNumbers
fed_numbers f = fed_as f.stream f.fed

abbrev pub finished_numbers : Finished → FinishedNumbers
finished_numbers f = record { stream = f.stream; prepared = prepared_numbers f.prepared }

-- what is asked for: a number, an instant, a text
abbrev pub number_ask : ℤ → ℕ → Ask
number_ask coefficient scale = asked (value.Number (record { coefficient = coefficient; scale = scale }))

abbrev pub instant_ask : ℕ → ℕ → Ask
instant_ask day millisecond = asked (value.Instant (record { 0 = day }) (record { 0 = millisecond }))

abbrev pub text_ask : Ask
text_ask = asked value.Text
