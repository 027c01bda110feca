-- `spans::start_behind` meets its contract.
-- Assumes nothing.
use Prim.Native.Nat.{◌+◌}
use native.Mathlib.Omega.{arith}
use mathlib.Core.Path.{◌≡◌}
use Rattle.lexing.specs.Buffer.{semicolons_in}
use Rattle.spans.specs.Span.{start_behind}
use Rattle.spans.proofs.Spanning.{behind-none, behind-some}
use Rattle.spans.proofs.start_behind.Goals as goal

-- the place behind the semicolon found
begins : (c : goal.After-semicolon_place)
    → c.semicolon_place.result + 1
    ≡ start_behind 0 c.args.n (semicolons_in c.args.tokens.now)
begins c = behind-some _ _ _ (omega (arith, c.if-n-eq0.false)) c.semicolon_place.ensures

pub returns-then-n-eq0 : goal.returns-then-n-eq0
returns-then-n-eq0 c = behind-none _ _ (omega (arith, c.if-n-eq0.true))

pub overflow_add-result : goal.overflow_add-result
overflow_add-result c = omega (arith, c.requires, begins c)

pub returns : goal.returns
returns c = omega (arith, begins c)
