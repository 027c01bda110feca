-- `figures::spread` meets its contract. The invariant: the places below k are right, the others 0, and the rest is the number without its first k digits.
-- Assumes nothing.
use Prim.Native.Nat.{◌+◌, ◌<◌}
use native.Mathlib.Omega.{arith}
use Rattle.figures.proofs.Filling.{filled-start, filled_next, filled-two, filled-done, place-left, second-place}
use mathlib.Core.Path.{◌≡◌, ◌∙◌}
use Rattle.std.proofs.Common.{rules, replicate}
use Rattle.figures.proofs.Digits.{zeros}
use Rattle.figures.proofs.spread.Goals as goal

room : (c : goal.In-loop-rest) → c.loop-rest.k + 1 < 40
room c = second-place c.requires c.loop-rest.invariant (omega arith)

pub loop-rest-init : goal.loop-rest-init
loop-rest-init c =
    let e : c.fill.new.self ≡ replicate 40 0 = search rules in
    filled-start c.args.m c.args.z c.fill.new.self (e ∙ zeros)

pub bounds-digits-k : goal.bounds-digits-k
bounds-digits-k c = let r = room c in omega arith

pub overflow_add-digits : goal.overflow_add-digits
overflow_add-digits c = let r = room c in omega arith

pub bounds-digits-k-in-loop-rest : goal.bounds-digits-k-in-loop-rest
bounds-digits-k-in-loop-rest c = room c

pub overflow_add-k : goal.overflow_add-k
overflow_add-k c = let r = room c in omega arith

pub loop-rest-preserved : goal.loop-rest-preserved
loop-rest-preserved c = filled-two c.requires c.loop-rest.invariant (omega arith)

pub returns-then-rest-eq0 : goal.returns-then-rest-eq0
returns-then-rest-eq0 c = filled-done c.loop-rest.invariant (omega arith)

pub bounds-digits-k-2 : goal.bounds-digits-k-2
bounds-digits-k-2 c = place-left c.loop-rest.invariant c.requires (omega arith)

pub returns : goal.returns
returns c = filled-done (filled_next c.loop-rest.invariant (bounds-digits-k-2 c) (omega arith)) (omega arith)
