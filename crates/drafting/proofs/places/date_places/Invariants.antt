use Rattle.std.proofs.Common.{◌≡◌, take}
use Rattle.drafting.proofs.Integers.{nothing_parted, part_marks}
use Rattle.drafting.proofs.places.date_places.Given as goal

abbrev pub invariant-loop-mark : goal.invariant-loop-mark
invariant-loop-mark l = l.s ≡ part_marks nothing_parted (take l.mark-index l.body)
