-- What reading a request returns (R117 to R122): parts of the input, and the value.
-- Assumes nothing.
use Rattle.std.specs.Prelude.{ℕ, ◌+◌, ◌-◌, ◌≤◌, ◌<◌, ◌≡◌, List, length, take, drop, Option, Some, None, Result, Ok, Err}
use Rattle.requests.specs.declared.lines.Part.{Part}
use Rattle.requests.specs.declared.written.Sort.{Sort}
use Rattle.requests.specs.declared.written.Sort.TheVariants as sort
use Rattle.requests.specs.declared.Request.{Request as Parts}
use Rattle.requests.specs.declared.Malformed.{Malformed}
use Rattle.requests.specs.Lines.{field, missing, field_of}
use Rattle.requests.specs.Request.{Request, malformed, request}

-- the units of a part
abbrev pub part_of : List ℕ → Part → List ℕ
part_of input p = take (p.end - p.start) (drop p.start input)

-- the part lies in the input, and is no longer than a line
pub record Within (input : List ℕ) (p : Part) : Type 0 where
  pub ordered : p.start ≤ p.end
  pub inside : p.end ≤ length input
  pub short : p.end ≤ p.start + 2048

-- the part lies in the input, with a line feed behind it
pub record Ended (input : List ℕ) (p : Part) : Type 0 where
  pub within : Within input p
  pub before : p.end < length input

-- the line at a place: what stands behind its name, up to its line feed
pub record Content (input : List ℕ) (at : ℕ) (name : List ℕ) (p : Part) : Type 0 where
  pub found : field_of name (drop at input) ≡ field (part_of input p) (drop (p.end + 1) input)
  pub ended : Ended input p

abbrev pub LineAt : List ℕ → ℕ → List ℕ → Option Part → Type 0
LineAt input at name (Some p) = Content input at name p
LineAt input at name None = field_of name (drop at input) ≡ missing

-- the part that is the text beside a value
abbrev pub text_part : Sort → Part → Part
text_part sort.Number p = record { start = 0; end = 0 }
text_part sort.Instant p = record { start = 0; end = 0 }
text_part sort.Text p = p

-- the request that is returned: a malformed line is 14, and the code and the text are parts of the input
abbrev pub request_as : List ℕ → Result Parts Malformed → Request
request_as input (Err m) = malformed m.0
request_as input (Ok r) = request (part_of input r.code) r.ask (part_of input r.text)

abbrev pub PartsWithin : List ℕ → Result Parts Malformed → Type 0
PartsWithin input (Err m) = Unit {0}
PartsWithin input (Ok r) = Within input r.code × Within input r.text

-- what is returned of the input is this request. Two correct readers may differ only in which of several equal parts they name.
pub record Reads (input : List ℕ) (q : Request) (r : Result Parts Malformed) : Type 0 where
  pub same : request_as input r ≡ q
  pub parts : PartsWithin input r
