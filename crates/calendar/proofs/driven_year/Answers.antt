-- `calendar::driven_year` meets its contract. The invariant, `Driving`: the turns left lead where ten lead from the start.
-- Assumes nothing.
use native.Mathlib.Omega.{arith}
use Rattle.calendar.proofs.Driving.{driving-start, driving-read, driving-next, driving-found, driving-none}
use Rattle.calendar.proofs.driven_year.Goals as goal

pub loop-turn-init : goal.loop-turn-init
loop-turn-init c = driving-start _ _ _ _ c.start-turn.ensures (omega arith)

pub returns-then-left-eq0 : goal.returns-then-left-eq0
returns-then-left-eq0 c =
    let l = c.loop-turn in
    absurd
    (omega (arith, driving-read c.args.day c.in-Read.k c.in-Read.s l.first l.left c.requires (rw c.in-Read.is at l.invariant)))

pub bounds-firsts-k : goal.bounds-firsts-k
bounds-firsts-k c =
    let l = c.loop-turn in
    omega (arith, driving-read c.args.day c.in-Read.k c.in-Read.s l.first l.left c.requires (rw c.in-Read.is at l.invariant))

pub loop-turn-preserved : goal.loop-turn-preserved
loop-turn-preserved c =
    let l = c.loop-turn in
    rw (c.told-turn.ensures, c.kept-first.ensures, c.first_days-firsts.ensures)
    (driving-next c.args.day c.in-Read.k c.in-Read.s l.first l.left c.requires (rw c.in-Read.is at l.invariant))

pub returns-in-Found : goal.returns-in-Found
returns-in-Found c =
    driving-found _ _ _ c.loop-turn.left (rw c.in-Found.is at c.loop-turn.invariant)

pub returns-in-Nothing : goal.returns-in-Nothing
returns-in-Nothing c =
    let l = c.loop-turn in
    absurd (driving-none _ l.first l.left c.requires (rw c.in-Nothing.is at l.invariant))
