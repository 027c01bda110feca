-- `requests::bytes::narrow` meets its contract.
-- Assumes nothing.
use mathlib.Core.List.{map}
use lib.ListN.{drop}
use Rattle.writing.specs.Put.{Rest}
use Rattle.requests.specs.Bytes.{low_byte}
use Rattle.requests.proofs.bytes.narrow.Given as goal

abbrev pub invariant-loop-i : goal.invariant-loop-i
invariant-loop-i l = Rest l.initial.room 0 (map low_byte l.units) l.room l.i (map low_byte (drop l.i l.units))
