-- "exactly the answer, place, words written and table of the joined code in that room, wherever the cuts fell" (R155): for every
-- list of parts, starting, feeding them and ending give what preparing their concatenation gives.
-- Assumes nothing.
use mathlib.Core.Path.{◌≡◌, refl, sym, ap, ◌∙◌}
use mathlib.Core.Bool.{true}
use mathlib.Core.List.{List, [], ◌∷◌, ◌++◌, flatten, append-nil, append_assoc}
use Prim.Native.Nat.{ℕ, ◌≤◌, ◌<◌, min}
use native.Mathlib.Nat.{zero-add}
use native.Mathlib.Omega.{arith}
use lib.ListN.{length, drop, take, replicate, length-append, length-replicate}
use lib.Seq.{sets, length-sets, take_at}
use lib.Dec.{ltb}
use borrow.Author.Tests.{ltb-true, ltb-false}
use Rattle.std.proofs.Common.{Ok}
use Rattle.lists.specs.Lists.{overlay}
use Rattle.lists.proofs.Bools.{by_cases}
use Rattle.writing.proofs.Laws.{sets-append, sets-out, sets-overlay}
use Rattle.tables.specs.Calls.{prepared, table_after}
use Rattle.streams.specs.declared.Stream.{Stream}
use Rattle.streams.specs.declared.Finished.{Finished}
use Rattle.streams.specs.Streams.{started, grown, runs, feeding, joined, too_long, stands_for, joined_prepared, joined_table, ending, ending_room, fed_all}
use Rattle.streams.proofs.Steps.{stands-kept, stands-long, end-as, room_as}
use Rattle.streams.proofs.Long.{long-prepared, long-table}

abbrev blank : List ℕ
blank = replicate 254 0

-- a code is too long or is not
by_length : {P : Type 0} (code : List ℕ) → (254 < length code → P) → (length code ≤ 254 → P) → P
by_length code long short =
    by_cases (ltb 254 (length code)) (λ t. long (ltb-true 254 (length code) t)) (λ t. short (ltb-false 254 (length code) t))

filled : (code : List ℕ) → length (sets blank 0 code) ≡ 254
filled code = length-sets blank 0 code ∙ length-replicate {A = ℕ} 254 0

-- a stream that has not ended, to which this code has come
record Holds (code : List ℕ) (s : Stream) : Type 0 where
  pub units : s.units ≡ sets blank 0 code
  pub count : s.count ≡ min (length code) 255
  pub running : runs s ≡ true

holds-start : Holds [] started
unfolding started
holds-start = record { units = refl; count = refl; running = refl }

-- units stored behind the code, at the place that is counted
stored-behind : (code part : List ℕ) → sets (sets blank 0 code) (min (length code) 255) part ≡ sets blank 0 (code ++ part)
stored-behind code part = by_length code long short
  where
    at-end : sets blank 0 (code ++ part) ≡ sets (sets blank 0 code) (length code) part
    at-end = sets-append blank 0 code part ∙ ap (λ (k : ℕ). sets (sets blank 0 code) k part) (zero-add (length code))

    long : 254 < length code → sets (sets blank 0 code) (min (length code) 255) part ≡ sets blank 0 (code ++ part)
    long h =
        sets-out (sets blank 0 code) (min (length code) 255) part (omega (arith, filled code))
        ∙ sym (at-end ∙ sets-out (sets blank 0 code) (length code) part (omega (arith, filled code)))

    short : length code ≤ 254 → sets (sets blank 0 code) (min (length code) 255) part ≡ sets blank 0 (code ++ part)
    short h = let e : min (length code) 255 ≡ length code = omega arith in rw e (sym at-end)

holds-fed : {code : List ℕ} {s : Stream} (part : List ℕ) → Holds code s → Holds (code ++ part) (feeding s part).stream
unfolding feeding grown
holds-fed {code} {s} part h = rw h.running (record {
  units = rw (h.units, h.count) (stored-behind code part);
  count = omega (arith, h.count, length-append code part);
  running = h.running;
})

holds-all : (parts : List (List ℕ)) {code : List ℕ} {s : Stream} → Holds code s → Holds (code ++ flatten parts) (fed_all parts s)
unfolding fed_all flatten
holds-all [] {code} {s} h = rw append-nil h
holds-all (part ∷ parts) {code} {s} h = rw (← append_assoc code part (flatten parts)) (holds-all parts (holds-fed part h))

-- what was put in front of the room is there
front : (code : List ℕ) → length code ≤ 254 → take (length code) (sets blank 0 code) ≡ code
unfolding overlay
front code h =
    ap (take (length code)) (sets-overlay blank code (omega (arith, length-replicate {A = ℕ} 254 0)))
    ∙ take_at code (drop (length code) blank) (length code) refl

-- what it stands for is the code, or a code that is too long
module _ {code : List ℕ} {s : Stream} (h : Holds code s) where
  held_kept : length code ≤ 254 → stands_for s ≡ joined code
  held_kept l =
      let c : s.count ≡ length code = omega (arith, h.count) in
      stands-kept s (omega arith) ∙ ap joined (rw (c, h.units) (front code l))

  held-long : 254 < length code → stands_for s ≡ too_long
  held-long l = stands-long s (omega (arith, h.count))

  holds-prepared : (size : ℕ) → joined_prepared (stands_for s) size ≡ prepared code size
  unfolding joined_prepared
  holds-prepared size =
      by_length code (λ l. rw (held-long l) (sym (long-prepared code l size))) (λ l. rw (held_kept l))

  holds-table : (old : List ℕ) → joined_table (stands_for s) old ≡ table_after code old
  unfolding joined_table
  holds-table old =
      by_length code (λ l. rw (held-long l) (sym (long-table code l old))) (λ l. rw (held_kept l))

-- ---- from the start
module _ (parts : List (List ℕ)) where
  held : Holds (flatten parts) (fed_all parts started)
  held = holds-all parts holds-start

  -- "Feeding answers 0, however long the code grows."
  pub feeding-done : (part : List ℕ) → (feeding (fed_all parts started) part).fed ≡ Ok tt
  unfolding feeding
  feeding-done part = rw held.running

  -- the end gives what preparing the joined code gives, and leaves the room so
  pub joined-prepared : (size : ℕ) → (ending (fed_all parts started) size).prepared ≡ prepared (flatten parts) size
  joined-prepared size =
      let s : Stream = fed_all parts started in
      let finished = end-as s held.running refl size refl refl in
      sym (ap (λ (f : Finished). f.prepared) finished) ∙ holds-prepared held size

  pub joined-table : (old : List ℕ) → ending_room (fed_all parts started) old ≡ table_after (flatten parts) old
  joined-table old = sym (room_as (fed_all parts started) held.running refl old refl) ∙ holds-table held old
