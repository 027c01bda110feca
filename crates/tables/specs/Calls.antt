-- What preparing and showing return, and what they leave in the memory lent to them (R6 to R8, R107, R110).
-- Assumes nothing.
use Rattle.std.specs.Prelude.{ℕ, cond, List, [], length, leb, Result, Ok, Err}
use Rattle.answers.specs.declared.Refusal.{Refusal}
use Rattle.answers.specs.declared.Refusal.TheVariants as answer
use Rattle.answers.specs.declared.Refused.{Refused}
use Rattle.answers.specs.declared.Shown.{Shown}
use Rattle.values.specs.declared.Ask.{Ask}
use Rattle.lists.specs.Lists.{overlay}
use Rattle.formats.specs.Accept.{Accepted, sections, refusal, accept}
use Rattle.formats.specs.Reading.{Reading, refused, shown, reading}
use Rattle.tables.specs.Encode.{encode}
use Rattle.tables.specs.Decode.{decode}
use Rattle.tables.specs.Rules.{passes}

-- "The table made from a code" (R107): of a refused code no word
unfoldable pub words_of : Accepted → List ℕ
words_of (sections ss) = encode ss
words_of (refusal a k) = []

unfoldable pub table_of : List ℕ → List ℕ
table_of code = words_of (accept code)

-- preparing in a table room of `size` words, which tells the words of the table or the refusal and its place; 7: "the table needs more
-- words than lent" (R107)
unfoldable pub prepared_as : Accepted → ℕ → Result ℕ Refused
prepared_as (refusal a k) size = Err (record { refusal = a; place = k })
prepared_as (sections ss) size =
    cond (leb (length (encode ss)) size) (Ok (length (encode ss))) (Err (record { refusal = answer.TableRoom; place = 0 }))

unfoldable pub prepared : List ℕ → ℕ → Result ℕ Refused
prepared code size = prepared_as (accept code) size

-- what fits stands in front, what does not is not written: "Memory past the reported length keeps its contents." (R8)
unfoldable pub written : List ℕ → List ℕ → List ℕ
written new old = cond (leb (length new) (length old)) (overlay new old) old

-- what preparing leaves in the table room (R107)
unfoldable pub table_after : List ℕ → List ℕ → List ℕ
table_after code old = written (table_of code) old

-- the reading through a table; 8: "the table breaks a table rule" (R110)
unfoldable pub table_reading : List ℕ → Ask → List ℕ → ℕ → Reading
table_reading table ask text room = cond (passes table) (reading (decode table) ask text room) (refused answer.Table)

-- "Showing a table that passes returns its reading's answer; with 0 also its colour, section and text length, and the room
-- begins with its text." "showing passes it up": whether what is shown is exact (R6)
unfoldable pub shown_as : Reading → Result Shown Refusal
shown_as (refused a) = Err a
shown_as (shown look) =
    Ok (record { length = length look.text; colour = look.colour; section = look.section; exact = look.exact })

unfoldable pub text_as : Reading → List ℕ
text_as (refused a) = []
text_as (shown look) = look.text

unfoldable pub showing : List ℕ → Ask → List ℕ → ℕ → Result Shown Refusal
showing table ask text size = shown_as (table_reading table ask text size)

-- what showing leaves in the text room (R110)
unfoldable pub room_after : List ℕ → Ask → List ℕ → List ℕ → List ℕ
room_after table ask text old = overlay (text_as (table_reading table ask text (length old))) old
