-- What the passes over a buffer of tokens answer.
-- Assumes nothing.
use Rattle.std.specs.Prelude.{ℕ, ◌≤◌, ◌≡◌, List, map, filter, length, take, eqb, Result, Ok, Err}
use Rattle.formats.specs.Tokens.{Lexed, good, bad, lex}
use Rattle.lexing.specs.declared.buffer.Filled.{Filled}
use Rattle.marks.specs.declared.Mark.{Mark}
use Rattle.marks.specs.Marks.{placed_in}

-- the lexing of a code, from the marks that filling left: all its tokens, or the place of the first broken one
unfoldable pub lex_meant : List ℕ → List Mark → Result Filled ℕ → Lexed
lex_meant code tokens (Ok f) = good (placed_in code (take f.tokens tokens))
lex_meant code tokens (Err k) = bad k

-- how many tokens there are
unfoldable pub count_of : Result Filled ℕ → ℕ
count_of (Ok f) = f.tokens
count_of (Err k) = 0

-- how many semicolons were counted among them
unfoldable pub semicolons_of : Result Filled ℕ → ℕ
semicolons_of (Ok f) = f.semicolons
semicolons_of (Err k) = 0

-- the places of the semicolons of a buffer
unfoldable pub semicolons_in : List Mark → List ℕ
semicolons_in tokens = map (λ (m : Mark). m.start) (filter (λ (m : Mark). eqb m.form 11) tokens)

-- what filling leaves of a code in a run of marks
pub record Fills (code : List ℕ) (old tokens : List Mark) (r : Result Filled ℕ) : Type 0 where
  pub same : lex_meant code tokens r ≡ lex code
  pub few : count_of r ≤ length code
  pub counted : semicolons_of r ≡ length (semicolons_in (take (count_of r) tokens))
  pub size : length tokens ≡ length old
