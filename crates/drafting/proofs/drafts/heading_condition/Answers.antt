use Rattle.drafting.proofs.Drafting.{condition-none, condition-some}
use Rattle.drafting.proofs.drafts.heading_condition.Goals as goal

pub returns-in-Some : goal.returns-in-Some
returns-in-Some c = rw c.in-Some.is (condition-some c.args.code.now c.in-Some.mark (c.requires.1 c.in-Some.mark c.in-Some.is).0 _ c.condition_of.ensures)

pub returns-in-None : goal.returns-in-None
returns-in-None c = rw c.in-None.is (condition-none c.args.code.now)
