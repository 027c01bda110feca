-- Why a table shows a value as it does (R140).
-- Assumes nothing.
use Rattle.std.specs.Prelude.{ℕ, List, Result}
use Rattle.answers.specs.declared.Refusal.{Refusal}
use Rattle.values.specs.declared.Ask.{Ask}
use Rattle.tables.specs.Decode.{decode}
use Rattle.tables.specs.Calls.{table_reading}
use Rattle.grounds.specs.declared.Grounds.{Grounds}
use Rattle.grounds.specs.Why.{grounds_of, why_read}

-- "For a table, a value and the text room's length, give the reason [..]. A refused show gives the same refusal and no reason."
unfoldable pub table_why : List ℕ → Ask → List ℕ → ℕ → Result Grounds Refusal
table_why table ask text room = why_read (table_reading table ask text room) (grounds_of (decode table) ask.value)
