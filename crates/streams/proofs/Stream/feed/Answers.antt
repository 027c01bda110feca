-- `streams::Stream::feed` meets its contract.
-- Assumes nothing.
use native.Mathlib.Omega.{arith}
use borrow.Author.Tests.{eq-eqb, ne_eqb}
use Rattle.streams.proofs.Steps.{fed-open, fed-again}
use Rattle.streams.proofs.Stream.feed.Goals as goal

pub returns-then-self-ne0 : goal.returns-then-self-ne0
returns-then-self-ne0 c = fed-again c.args.self (ne_eqb _ _ c.if-self-ne0.true) _

pub returns : goal.returns
returns c =
    fed-open c.args.self _ (eq-eqb _ _ c.if-self-ne0.false) c.put_units-next.ensures (omega arith) c.min.ensures
