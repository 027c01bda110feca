-- `requests::bytes::put_bytes` meets its contract.
-- Assumes nothing.
use Prim.Native.Nat.{◌+◌, ◌≤◌}
use lib.ListN.{drop}
use Rattle.writing.specs.Put.{Rest}
use Rattle.requests.proofs.bytes.put_bytes.Given as goal

abbrev pub invariant-loop-byte : goal.invariant-loop-byte
invariant-loop-byte l = Rest l.initial.room l.at l.bytes l.room l.o (drop l.byte-index l.bytes) × (l.o ≤ l.at + l.byte-index)
