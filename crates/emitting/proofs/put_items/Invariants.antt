use Rattle.std.proofs.Common.{length}
use Rattle.marks.specs.Marks.{tokens_in}
use Rattle.emitting.proofs.Going.{Going}
use Rattle.emitting.proofs.put_items.Given as goal

abbrev pub invariant-loop-mark : goal.invariant-loop-mark
invariant-loop-mark l = Going l.told (tokens_in l.code l.body) l.initial.room l.at (tokens_in l.code l.rest) l.room l.w

abbrev pub decreases-loop-mark : goal.decreases-loop-mark
decreases-loop-mark l = length l.rest
