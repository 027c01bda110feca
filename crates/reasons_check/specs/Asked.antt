-- What a request of four lines is answered.
-- Assumes nothing.
use Rattle.std.specs.Prelude.{ℕ, cond, List, Result, Err}
use Rattle.answers.specs.declared.Refusal.{Refusal}
use Rattle.answers.specs.declared.Refusal.TheVariants as answer
use Rattle.grounds.specs.declared.Grounds.{Grounds}
use Rattle.grounds.specs.Why.{code_why}
use Rattle.requests.specs.Lines.{Field, field, missing}
use Rattle.requests.specs.Written.{is_digits, numeral_up_to}
use Rattle.requests.specs.Request.{Request, refused, request, request_of}

-- the first three lines in a room of this length: the reason is read off the code itself
unfoldable pub request_why : Request → ℕ → Result Grounds Refusal
request_why (refused a k) size = Err a
request_why (request code ask text) size = code_why code ask text size

-- the same, the length written in digits; every text fits a room from this length on
unfoldable pub room_why : List ℕ → List ℕ → Result Grounds Refusal
room_why lines digits =
    cond (is_digits digits) (request_why (request_of lines) (numeral_up_to 1000000 digits)) (Err answer.Line)

-- the fourth line, `room=`
unfoldable pub block_why : List ℕ → Field → Result Grounds Refusal
block_why lines missing = Err answer.Line
block_why lines (field digits rest) = room_why lines digits
