-- `calendar::driven_year` meets its contract. The invariant, `Driving`: the turns left lead where ten lead from the start.
-- Assumes nothing.
use Rattle.calendar.proofs.Driving.{Driving}
use Rattle.calendar.proofs.driven_year.Given as goal

abbrev pub invariant-loop-turn : goal.invariant-loop-turn
invariant-loop-turn l = Driving l.day l.turn l.first l.left

abbrev pub decreases-loop-turn : goal.decreases-loop-turn
decreases-loop-turn l = l.left
