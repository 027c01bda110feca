-- The program's input (R117, R119, R122): a code, a value with its kind, and nothing more; or the first malformed line, answered 14.
-- Assumes nothing.
use Rattle.std.specs.Prelude.{ℕ, cond, List, Option, Some, None}
use Rattle.answers.specs.declared.Refusal.{Refusal}
use Rattle.answers.specs.declared.Refusal.TheVariants as refusal
use Rattle.values.specs.declared.Ask.{Ask}
use Rattle.values.specs.declared.Value.{Value}
use Rattle.values.specs.Ranges.{asked}
use Rattle.lists.specs.Lists.{is_empty}
use Rattle.calendar.specs.Names.{units}
use Rattle.requests.specs.declared.written.Sort.{Sort}
use Rattle.requests.specs.Lines.{Field, field, missing, field_of}
use Rattle.requests.specs.Written.{sort_of, value_of, text_of}

pub data Request : Type 0 where
  refused : Refusal → (place : ℕ) → Request
  request : (code : List ℕ) → Ask → (text : List ℕ) → Request

-- 14: "an input line is malformed", with the line
abbrev pub malformed : ℕ → Request
malformed line = refused refusal.Line line

-- line 4: "nothing after the third (else line 4)"
unfoldable pub from_end : List ℕ → Ask → List ℕ → List ℕ → Request
from_end code ask text rest = cond (is_empty rest) (request code ask text) (malformed 4)

-- line 3, `value=`
unfoldable pub from_value : List ℕ → Option Value → List ℕ → List ℕ → Request
from_value code None text rest = malformed 3
from_value code (Some v) text rest = from_end code (asked v) text rest

unfoldable pub from_third : List ℕ → Sort → Field → Request
from_third code s missing = malformed 3
from_third code s (field content rest) = from_value code (value_of s content) (text_of s content) rest

-- line 2, `kind=`
unfoldable pub from_kind : List ℕ → Option Sort → List ℕ → Request
from_kind code None rest = malformed 2
from_kind code (Some s) rest = from_third code s (field_of (units "value=") rest)

unfoldable pub from_second : List ℕ → Field → Request
from_second code missing = malformed 2
from_second code (field content rest) = from_kind code (sort_of content) rest

-- line 1, `code=`
unfoldable pub from_first : Field → Request
from_first missing = malformed 1
from_first (field content rest) = from_second content (field_of (units "kind=") rest)

-- what the whole input's bytes ask for
unfoldable pub request_of : List ℕ → Request
request_of input = from_first (field_of (units "code=") input)
