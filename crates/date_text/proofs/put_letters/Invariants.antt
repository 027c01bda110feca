-- `date_text::put_letters` meets its contract.
-- Assumes nothing.
use Prim.Native.Nat.{◌+◌, ◌-◌, ◌≤◌}
use Rattle.writing.specs.Put.{Rest}
use Rattle.date_text.specs.Letters.{letters_up_to}
use Rattle.date_text.proofs.put_letters.Given as goal

abbrev pub invariant-loop : goal.invariant-loop
invariant-loop l =
    Rest l.initial.room l.at (letters_up_to l.most l.letters) l.room l.o (letters_up_to (l.most - l.counter) l.rest) × (l.o ≤ l.at + l.counter)
