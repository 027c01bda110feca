-- A code of more than 254 units is refused whatever it holds.
-- Assumes nothing.
use mathlib.Core.Path.{◌≡◌, refl}
use mathlib.Core.List.{List}
use mathlib.Core.Logic.{inr}
use Prim.Native.Nat.{ℕ, ◌<◌}
use lib.ListN.{length}
use Rattle.std.proofs.Common.{Err}
use Rattle.answers.specs.declared.Refusal.TheVariants as answer
use Rattle.formats.specs.Accept.{refused, verdict}
use Rattle.formats.proofs.First.{length-exactly}
use Rattle.tables.specs.Calls.{prepared, table_after}
use Rattle.streams.specs.Streams.{refused_first}
use Rattle.preparing.proofs.Finishing.{refused-prepared, refused-table}

module _ (code : List ℕ) (h : 254 < length code) where
  too_long_lem : verdict code ≡ refused answer.CodeLength 0
  too_long_lem = (length-exactly code 0).1 (record { place = refl; wrong = inr h })

  pub long-prepared : (size : ℕ) → prepared code size ≡ Err (refused_first answer.CodeLength)
  long-prepared = refused-prepared code answer.CodeLength 0 too_long_lem

  pub long-table : (old : List ℕ) → table_after code old ≡ old
  long-table = refused-table code answer.CodeLength 0 too_long_lem
