-- The reason that a table gives holds of its reading, and the table of a code gives the code's.
-- Assumes nothing.
use mathlib.Core.Path.{◌≡◌, refl, ap₂, ◌∙◌}
use Prim.Native.Nat.{ℕ}
use mathlib.Core.List.{List}
use lib.Dec.{T}
use Rattle.values.specs.declared.Ask.{Ask}
use Rattle.lists.specs.Lists.{every}
use Rattle.lists.proofs.Bools.{by_cases, true-T}
use Rattle.formats.specs.Items.{Section, is_unit}
use Rattle.formats.specs.Accept.{sections, accept}
use Rattle.formats.specs.Reading.{read_accepted, code_reading}
use Rattle.tables.specs.Decode.{decode}
use Rattle.tables.specs.Rules.{passes}
use Rattle.tables.specs.Calls.{table_of, table_reading}
use Rattle.tables.proofs.Promise.{passing-formed, table-of-code}
use Rattle.grounds.specs.Why.{grounds_of, why_read, why_of, why_accepted, code_why}
use Rattle.grounds.specs.Because.{WhyHolds}
use Rattle.grounds.proofs.Holding.{why-holds}
use Rattle.reasons.specs.Table.{table_why}

-- the law of the reason that a table gives: of any words
pub table-why-holds : (ws : List ℕ) (ask : Ask) (lent : List ℕ) (room : ℕ)
    → WhyHolds (decode ws) ask.value lent (table_reading ws ask lent room) (table_why ws ask lent room)
unfolding table_why table_reading why_of why_read
table-why-holds ws ask lent room =
    by_cases (passes ws) (λ h. rw h (why-holds (decode ws) ask lent room (passing-formed ws (true-T h)))) (λ h. rw h refl)

-- the table of an accepted code gives the reason that the code itself gives
pub table-code-why : (code : List ℕ) (ss : List Section) (ask : Ask) (lent : List ℕ) (room : ℕ) → T (every is_unit code) → accept code ≡ sections ss
    → table_why (table_of code) ask lent room ≡ code_why code ask lent room
unfolding table_why code_why why_accepted why_of code_reading read_accepted
table-code-why code ss ask lent room known e =
    let t = table-of-code code ss known e in
    ap₂ (λ r zs. why_read r (grounds_of zs ask.value)) (t.same_reading ask lent room) t.decoded ∙ rw e refl
