-- `drafting::sections::draft_all` meets its contract.
-- Assumes nothing.
use Rattle.drafting.proofs.Sectioning.{Sectioning}
use Rattle.drafting.proofs.sections.draft_all.Given as goal

abbrev pub invariant-loop-k : goal.invariant-loop-k
invariant-loop-k l = Sectioning l.code l.tokens l.initial.items l.items l.drafts l.n l.first l.at l.k
