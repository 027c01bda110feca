use Rattle.std.proofs.Common.{rules, arith, length, take, drop, ◌≤◌, ◌≡◌, ◌+◌, ◌-◌, ◌∙◌, min}
use Rattle.bodies.proofs.Inside.{start-inside, inside-units}
use Rattle.bodies.proofs.conditions.condition_of.Goals as goal

pub slice_bounds-inside-count : goal.slice_bounds-inside-count
slice_bounds-inside-count c = let h = start-inside c.args.code.now c.args.mark.start c.args.mark.argument c.requires.1 in omega arith

pub slice_bounds-inside-start : goal.slice_bounds-inside-start
slice_bounds-inside-start c = let h = start-inside c.args.code.now c.args.mark.start c.args.mark.argument c.requires.1 in let k : c.from-from.result + 1 ≤ length c.args.code.now = omega arith in search rules

pub returns : goal.returns
returns c =
    let size : c.min-size.result ≡ min (length (take (length c.args.code.now - (c.from-from.result + 1)) (drop (c.from-from.result + 1) c.args.code.now))) c.args.mark.argument
    = c.min-size.ensures ∙ rw c.from.ensures in
    rw (inside-units c.args.code.now c.args.mark.start c.args.mark.argument c.from-from.result c.min-size.result (search rules) size) at c.written.ensures
