use Rattle.std.proofs.Common.{◌≡◌, ◌+◌, ◌*◌, drop}
use Rattle.writing.specs.Put.{Rest}
use Rattle.emitting.specs.Emit.{literal_words}
use Rattle.emitting.proofs.put_literals.Given as goal

abbrev pub invariant-loop-unit : goal.invariant-loop-unit
invariant-loop-unit l =
    Rest l.initial.room l.at (literal_words l.units) l.room l.o (literal_words (drop l.unit-index l.units)) × (l.o ≡ l.at + 2 * l.unit-index)
