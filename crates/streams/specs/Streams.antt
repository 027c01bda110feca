-- "Codes that arrive over the slow link" (R153 to R156): what a stream stands for, and what feeding it and ending it give.
-- Assumes nothing.
use Rattle.std.specs.Prelude.{ℕ, ◌+◌, min, Bool, cond, List, [], ◌∷◌, length, take, replicate, leb, eqb, Result, Ok, Err}
use Rattle.std.proofs.lemmas.List.Edits.{sets}
use Rattle.answers.specs.declared.Refusal.{Refusal}
use Rattle.answers.specs.declared.Refusal.TheVariants as answer
use Rattle.answers.specs.declared.Refused.{Refused}
use Rattle.tables.specs.Calls.{prepared, table_after}
use Rattle.streams.specs.declared.Stream.{Stream}
use Rattle.streams.specs.declared.Fed.{Fed}
use Rattle.streams.specs.declared.Finished.{Finished}

-- a refusal at place 0
abbrev pub refused_first : Refusal → Refused
refused_first a = record { refusal = a; place = 0 }

-- "After a start": nothing has come (R153)
unfoldable pub started : Stream
started = record { units = replicate 254 0; count = 0; ended = 0 }

-- "accept parts of any length": the part stands behind what has come. A unit past the 254th is not kept, and more than 254 are
-- counted as 255 (R154)
unfoldable pub grown : Stream → List ℕ → Stream
grown s part =
    record { units = sets s.units s.count part; count = min (s.count + length part) 255; ended = s.ended }

-- a stream runs until its end; of one made by hand, where any number stands for `ended` but 0, the end is past (R153)
abbrev pub runs : Stream → Bool
runs s = eqb s.ended 0

-- "Feeding answers 0, however long the code grows." (R154) "feeding after the end .. is 15, place 0, .. and changes nothing" (R156)
unfoldable pub feeding : Stream → List ℕ → Fed
feeding s part =
    cond (runs s)
    (record { stream = grown s part; fed = Ok tt })
    (record { stream = s; fed = Err (refused_first answer.Ended) })

-- what a stream stands for: the joined code, or one that is too long, whatever it holds
pub data Joined : Type 0 where
  joined : List ℕ → Joined
  too_long : Joined

unfoldable pub stands_for : Stream → Joined
stands_for s = cond (leb s.count 254) (joined (take s.count s.units)) too_long

-- "exactly the answer, place, words written and table of the joined code in that room" (R155)
unfoldable pub joined_prepared : Joined → ℕ → Result ℕ Refused
joined_prepared (joined code) size = prepared code size
joined_prepared too_long size = Err (refused_first answer.CodeLength)

unfoldable pub joined_table : Joined → List ℕ → List ℕ
joined_table (joined code) old = table_after code old
joined_table too_long old = old

-- "The end, even one refused, is final" (R155)
unfoldable pub closed : Stream → Stream
closed s = record { units = s.units; count = s.count; ended = 1 }

-- "ending again, is 15, place 0, before all others, and changes nothing" (R156); else what the joined code gives (R155)
unfoldable pub ending : Stream → ℕ → Finished
ending s size =
    cond (runs s)
    (record { stream = closed s; prepared = joined_prepared (stands_for s) size })
    (record { stream = s; prepared = Err (refused_first answer.Ended) })

-- what ending leaves in the table room
unfoldable pub ending_room : Stream → List ℕ → List ℕ
ending_room s old = cond (runs s) (joined_table (stands_for s) old) old

-- a stream when these parts were fed, one after the other
unfoldable pub fed_all : List (List ℕ) → Stream → Stream
fed_all [] s = s
fed_all (part ∷ parts) s = fed_all parts (feeding s part).stream
