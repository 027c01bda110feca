use Rattle.std.proofs.Common.{rules, arith, drop_of_length-le}
use Rattle.writing.proofs.Laws.{rest_put, rest-done}
use Rattle.emitting.specs.Emit.{literal_words}
use Rattle.emitting.proofs.Buffer.{literals-first}
use Rattle.emitting.proofs.put_literals.Goals as goal

pub loop-unit-preserved : goal.loop-unit-preserved
loop-unit-preserved c =
    let l = c.loop-unit in
    (rest_put (rw (literals-first c.args.units.now l.unit-index (search rules)) at l.invariant.0) c.put_entry-o.ensures, omega arith)

pub returns : goal.returns
unfolding literal_words
returns c = rest-done (rw (drop_of_length-le c.args.units.now {i = c.loop-unit.unit-index} (omega arith)) at c.loop-unit.invariant.0)
