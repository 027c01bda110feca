-- "Read left to right" (R14): the places of a code at which a token starts, as the first-ness of a refusal is stated by them.
-- Assumes nothing.
use Rattle.std.specs.Prelude.{ℕ, suc, ◌+◌, ◌≡◌, List, ◌∷◌, drop}
use Rattle.formats.specs.Tokens.{Token, semicolon, Step, read, step_at}

-- at place k a unit stands, and the step from it is s: a token is read, or s is `broken`
pub record StepIs (code : List ℕ) (k : ℕ) (s : Step) : Type 0 where
  pub unit : ℕ
  pub behind : List ℕ
  pub stands : drop k code ≡ unit ∷ behind
  pub step : step_at unit behind ≡ s

-- reading from the left, one token after the other, comes to place k. The first token starts at 0; each other starts behind the
-- units of the one before it. So the place behind the last unit counts as well: there reading ends.
pub data TokenStart (code : List ℕ) : ℕ → Type 0 where
  begin : TokenStart code 0
  next : (k : ℕ) (t : Token) (more : ℕ) → TokenStart code k → StepIs code k (read t more) → TokenStart code (k + suc more)

-- the step at place k reads a token
pub record ReadsAt (code : List ℕ) (k : ℕ) : Type 0 where
  pub token : Token
  pub more : ℕ
  pub step : StepIs code k (read token more)

-- a semicolon token starts at place k
pub record SemicolonAt (code : List ℕ) (k : ℕ) : Type 0 where
  pub starts : TokenStart code k
  pub more : ℕ
  pub step : StepIs code k (read semicolon more)
