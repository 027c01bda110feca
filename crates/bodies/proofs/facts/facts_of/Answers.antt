use Rattle.std.proofs.Common.{rules, ◌≡◌, ◌&&◌, ◌%◌}
use lib.Dec.{leb, ltb}
use Rattle.bodies.proofs.Bodies.{see-room, see-small, see-end}
use Rattle.bodies.proofs.facts.facts_of.Goals as goal

pub see-s-requires : goal.see-s-requires
see-s-requires c = search (rules, see-room)

pub returns : goal.returns
returns c code =
    let k = c.loop-mark.s.sum % 1099511627776 in
    let date : c.contains.result ≡ (leb 16777216 k && ltb k 4294967296) = search rules in
    let scientific : c.contains-2.result ≡ (leb 65536 k && ltb k 16777216) = search rules in
    let fraction : c.contains-3.result ≡ (leb 256 k && ltb k 65536) = search rules in
    let number : c.contains-4.result ≡ (leb 1 k && ltb k 256) = search rules in
    rw (date, scientific, fraction, number) (see-end c.args.body.now c.requires c.loop-mark.s (search rules) code)

pub overflow_cast-result-3 : goal.overflow_cast-result-3
overflow_cast-result-3 c = search (rules, see-small)
