-- `reasons::why` meets its contract.
-- Assumes nothing.
use Rattle.std.proofs.Common.{◌≡◌, Err, sym, ◌∙◌, rules}
use Rattle.reasons.proofs.Answers.{why-refused, why-passes, why-ranged, why-because}
use Rattle.reasons.proofs.why.Goals as goal

pub returns-in_err-answer_of : goal.returns-in_err-answer_of
returns-in_err-answer_of c =
    let e : c.from_residual.result ≡ Err _ = search rules in
    rw e (why-refused _ _ _ _ (sym c.in_err-answer_of.was ∙ c.answer_of.ensures))

pub invariant_of-grounds_of : goal.invariant_of-grounds_of
invariant_of-grounds_of c = record { passes = why-passes _ _ _ _ (sym c.in_ok-answer_of.was ∙ c.answer_of.ensures) }

pub grounds_of-requires : goal.grounds_of-requires
grounds_of-requires c = why-ranged c.args.words.now _ c.args.text.now c.args.size (sym c.in_ok-answer_of.was ∙ c.answer_of.ensures)

pub returns : goal.returns
returns c = why-because _ _ _ _ (sym c.in_ok-answer_of.was ∙ c.answer_of.ensures) c.grounds_of.ensures
