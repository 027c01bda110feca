-- The units that stand for themselves.
-- Assumes nothing.
use Rattle.std.specs.Prelude.{ℕ, Bool, eqb}
use Rattle.lists.specs.Lists.{any}
use Rattle.formats.specs.Tokens.{bare_literals}

unfoldable pub is_bare : ℕ → Bool
is_bare u = any (eqb u) bare_literals
