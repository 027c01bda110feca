-- What the program answers (R122, R123): "It tests 14 first and lends 557 table words and 4,096 text units", and it writes five lines. The
-- answer is read off the code itself.
-- Assumes nothing.
use Rattle.std.specs.Prelude.{ℕ, Bool, false, cond, List, [], ◌∷◌, ◌++◌, length, leb, Result, Ok, Err}
use Rattle.answers.specs.declared.Refusal.{Refusal}
use Rattle.answers.specs.declared.Refusal.TheVariants as answer
use Rattle.answers.specs.declared.Refused.{Refused}
use Rattle.answers.specs.declared.Shown.{Shown}
use Rattle.answers.specs.Number.{done_number, number_of}
use Rattle.figures.specs.Digits.{numeral}
use Rattle.calendar.specs.Names.{units}
use Rattle.preview.specs.Preview.{previewed, preview_text}
use Rattle.requests.specs.Lines.{line_feed}
use Rattle.requests.specs.Request.{Request, refused, request, request_of}
use Rattle.responding.specs.declared.Responded.{Responded}
use Rattle.responding.specs.declared.lines.Numbers.{Numbers}

-- a name, what stands behind it, and a line feed
unfoldable pub line_of : List ℕ → List ℕ → List ℕ
line_of name content = name ++ content ++ (line_feed ∷ [])

-- the numbers of the lines before the text: what is shown has no place, and a refusal no colour
abbrev pub numbers_of : Result Shown Refused → Numbers
numbers_of (Ok s) = record { answer = done_number; place = 0; colour = s.colour; exact = s.exact }
numbers_of (Err r) = record { answer = number_of r.refusal; place = r.place; colour = 0; exact = false }

unfoldable pub five_lines : Numbers → List ℕ → List ℕ
five_lines n text =
    line_of (units "answer=") (numeral 1 n.answer)
    ++ line_of (units "place=") (numeral 1 n.place)
    ++ line_of (units "colour=") (numeral 1 n.colour)
    ++ line_of (units "exact=") (numeral 1 (cond n.exact 1 0))
    ++ line_of (units "text=") text

-- a malformed line is told first; else what previewing in a room of 4,096 units gives
unfoldable pub lines_of : Request → List ℕ
lines_of (refused a k) = five_lines (numbers_of (Err (record { refusal = a; place = k }))) []
lines_of (request code ask text) = five_lines (numbers_of (previewed code ask text 4096)) (preview_text code ask text 4096)

-- the section that showed the value, 0 where none did
abbrev pub section_in : Result Shown Refused → ℕ
section_in (Ok s) = s.section
section_in (Err r) = 0

unfoldable pub section_of : Request → ℕ
section_of (refused a k) = 0
section_of (request code ask text) = section_in (previewed code ask text 4096)

-- what the whole input is answered
unfoldable pub response_of : List ℕ → List ℕ
response_of input = lines_of (request_of input)

-- what answering in a room of this many bytes returns; 13 where the lines are longer
unfoldable pub responded : List ℕ → ℕ → Result Responded Refusal
responded input size =
    cond (leb (length (response_of input)) size)
    (Ok (record { length = length (response_of input); section = section_of (request_of input) }))
    (Err answer.TextRoom)
