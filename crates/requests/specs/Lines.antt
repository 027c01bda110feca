-- "three ASCII lines, `code=`, `kind=`, `value=` in that order, each at most 2,048 bytes before its line feed" (R117, R118)
-- Assumes nothing.
use Rattle.std.specs.Prelude.{ℕ, suc, Bool, cond, ◌&&◌, List, length, take, drop, leb, ltb}
use Rattle.lists.specs.Lists.{every}
use Rattle.formats.specs.Tokens.{before, starts_with}

-- the line feed
abbrev pub line_feed : ℕ
line_feed = 10

-- ASCII: a byte of at most 127; a control byte that is no line feed is a unit like the others
unfoldable pub is_ascii : ℕ → Bool
is_ascii u = leb u 127

-- an ASCII line with this name, of at most 2,048 bytes, the name's counted
unfoldable pub is_line : List ℕ → List ℕ → Bool
is_line name line = leb (length line) 2048 && every is_ascii line && starts_with name line

-- what stands behind the name of a line, and the input behind its line feed
pub data Field : Type 0 where
  field : (content rest : List ℕ) → Field
  missing : Field

-- the first line of the input, which has a line feed, where it is a line with this name
unfoldable pub field_of : List ℕ → List ℕ → Field
field_of name input =
    let n = before line_feed input in
    cond (ltb n (length input) && is_line name (take n input))
    (field (drop (length name) (take n input)) (drop (suc n) input)) missing
