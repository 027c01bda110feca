-- "The end, even one refused, is final": of a stream that was ended, in whatever room and with whatever answer, feeding and ending
-- are 15, place 0, and change nothing (R156).
-- Assumes nothing.
use mathlib.Core.Path.{◌≡◌, refl, sym}
use mathlib.Core.Bool.{false}
use mathlib.Core.List.{List}
use Prim.Native.Nat.{ℕ}
use Rattle.std.proofs.Common.{Err}
use Rattle.answers.specs.declared.Refusal.TheVariants as answer
use Rattle.lists.proofs.Bools.{by_cases}
use Rattle.streams.specs.declared.Stream.{Stream}
use Rattle.streams.specs.Streams.{refused_first, runs, feeding, closed, ending, ending_room}
use Rattle.streams.proofs.Steps.{fed-again, end-again, room-again}

module _ (s : Stream) (size : ℕ) where
  abbrev over : Stream
  over = (ending s size).stream

  pub end-final : runs over ≡ false
  unfolding ending closed
  end-final = by_cases (runs s) (λ e. rw (e, over)) (λ e. rw (e, over) e)

  pub fed-over : (part : List ℕ) → feeding over part ≡ record { stream = over; fed = Err (refused_first answer.Ended) }
  fed-over part = sym (fed-again over end-final part)

  pub ended-over : (larger : ℕ) → ending over larger ≡ record { stream = over; prepared = Err (refused_first answer.Ended) }
  ended-over larger = sym (end-again over end-final larger refl)

  pub room-over : (old : List ℕ) → ending_room over old ≡ old
  room-over old = sym (room-again over end-final old)
