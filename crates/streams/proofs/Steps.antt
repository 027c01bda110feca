-- What the calls return on each way, as the definitions say it.
-- Assumes nothing.
use mathlib.Core.Path.{◌≡◌}
use mathlib.Core.Bool.{true, false}
use mathlib.Core.List.{List}
use Prim.Native.Nat.{ℕ, ◌+◌, ◌≤◌, ◌<◌, min}
use native.Mathlib.Omega.{arith}
use lib.ListN.{length, take}
use borrow.Author.Tests.{le-leb, lt-leb}
use Rattle.std.proofs.Common.{Result, Ok, Err}
use Rattle.answers.specs.declared.Refusal.TheVariants as answer
use Rattle.answers.specs.declared.Refused.{Refused}
use Rattle.writing.specs.Put.{Put}
use Rattle.streams.specs.declared.Stream.{Stream}
use Rattle.streams.specs.declared.Fed.{Fed}
use Rattle.streams.specs.declared.Finished.{Finished}
use Rattle.streams.specs.Streams.{refused_first, grown, runs, feeding, Joined, joined, too_long, stands_for, joined_prepared, joined_table, closed, ending, ending_room}

abbrev pub fed_as : Stream → Result (Unit {0}) Refused → Fed
fed_as s r = record { stream = s; fed = r }

abbrev pub finished_as : Stream → Result ℕ Refused → Finished
finished_as s p = record { stream = s; prepared = p }

-- ---- while it runs
pub fed-open : (s : Stream) (part : List ℕ) {at next count : ℕ} {units : List ℕ} → runs s ≡ true
    → Put s.units at part next units → at ≡ s.count → count ≡ min next 255
    → fed_as (record { units = units; count = count; ended = s.ended }) (Ok tt) ≡ feeding s part
unfolding feeding grown
fed-open s part {at} {next} {count} {units} r p behind e =
    let size : count ≡ min (s.count + length part) 255 = omega (arith, behind, e, p.next) in
    rw (r, p.room, behind, size)

module _ (s : Stream) where
  pub stands-kept : s.count ≤ 254 → stands_for s ≡ joined (take s.count s.units)
  unfolding stands_for
  stands-kept h = rw (le-leb s.count 254 h)

  pub stands-long : 254 < s.count → stands_for s ≡ too_long
  unfolding stands_for
  stands-long h = rw (lt-leb s.count 254 h)

module _ (s : Stream) (r : runs s ≡ true) {j : Joined} (e : stands_for s ≡ j) where
  pub end-as : {t : Stream} {p : Result ℕ Refused} (size : ℕ) → t ≡ closed s → p ≡ joined_prepared j size → finished_as t p ≡ ending s size
  unfolding ending
  end-as size g f = rw (g, f, ← e, r)

  pub room_as : {after : List ℕ} (old : List ℕ) → after ≡ joined_table j old → after ≡ ending_room s old
  unfolding ending_room
  room_as old f = rw (f, ← e, r)

-- ---- when it has ended
module _ (s : Stream) (over : runs s ≡ false) where
  pub fed-again : (part : List ℕ) → fed_as s (Err (refused_first answer.Ended)) ≡ feeding s part
  unfolding feeding
  fed-again part = rw over

  pub end-again : {p : Result ℕ Refused} (size : ℕ) → p ≡ Err (refused_first answer.Ended) → finished_as s p ≡ ending s size
  unfolding ending
  end-again size e = rw (over, e)

  pub room-again : (old : List ℕ) → old ≡ ending_room s old
  unfolding ending_room
  room-again old = rw over
