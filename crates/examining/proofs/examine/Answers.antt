-- `examining::examine` meets its contract.
-- Assumes nothing.
use Prim.Native.Nat.{◌≤◌}
use native.Mathlib.Omega.{arith}
use borrow.Author.Rules.{rules}
use borrow.Author.Tests.{tests}
use lib.ListN.{length}
use Rattle.std.proofs.lemmas.Result.{err_from_is_err_and}
use Rattle.examining.proofs.Answering.{examined-refused, filled-few, filled-count, filled-all, filled-bad, token-inside, count-inside, verdict-count, verdict-sections, lexes-all, examined-drafts, examined-done, length-wrong}
use Rattle.examining.proofs.examine.Goals as goal

pub returns-then-not-contains : goal.returns-then-not-contains
returns-then-not-contains c =
    let w : 1 ≤ length c.args.code.now → length c.args.code.now ≤ 254 → ⊥ = search (rules, tests) in
    examined-refused _ _ _ _ _ _ _ c.refused.ensures (length-wrong _ w)

pub refused-requires-in-Err : goal.refused-requires-in-Err
refused-requires-in-Err c =
    let short : length c.args.code.now ≤ 254 = search (rules, tests) in
    let v = filled-bad c.args.code.now _ _ c.in-Err.place c.in-Err.ensures (search (rules, tests)) short in
    omega (arith, token-inside c.args.code.now c.in-Err.place v)

pub returns-in-Err : goal.returns-in-Err
returns-in-Err c =
    examined-refused _ _ _ _ _ _ _ c.refused-in-Err.ensures (filled-bad _ _ _ _ c.in-Err.ensures (search (rules, tests)) (search (rules, tests)))

pub shared_ref_as_front-tokens : goal.shared_ref_as_front-tokens
shared_ref_as_front-tokens c =
    let short : length c.args.code.now ≤ 254 = search (rules, tests) in
    omega (arith, filled-few c.args.code.now _ _ c.in-Ok.filled c.in-Ok.ensures)

pub refused-requires-then-filled-gt3 : goal.refused-requires-then-filled-gt3
refused-requires-then-filled-gt3 c =
    let short : length c.args.code.now ≤ 254 = search (rules, tests) in
    let b = filled-all c.args.code.now _ _ c.in-Ok.filled c.in-Ok.ensures (search (rules, tests)) short (search rules) in
    let v = verdict-count c.args.code.now _ b _ (filled-count c.args.code.now _ _ _ c.in-Ok.ensures) c.semicolon_place.result c.semicolon_place.ensures c.if-filled-gt3.true in
    omega (arith, count-inside c.args.code.now c.semicolon_place.result v)

pub returns-then-filled-gt3 : goal.returns-then-filled-gt3
returns-then-filled-gt3 c =
    let b = filled-all c.args.code.now _ _ c.in-Ok.filled c.in-Ok.ensures (search (rules, tests)) (search (rules, tests)) (search rules) in
    examined-refused _ _ _ _ _ _ _ c.refused-then-filled-gt3.ensures
    (verdict-count _ _ b _ (filled-count _ _ _ _ c.in-Ok.ensures) _ c.semicolon_place.ensures c.if-filled-gt3.true)

pub draft_all-words-requires-clause-lexes : goal.draft_all-words-requires-clause-lexes
draft_all-words-requires-clause-lexes c =
    let b = filled-all c.args.code.now _ _ c.in-Ok.filled c.in-Ok.ensures (search (rules, tests)) (search (rules, tests)) (search rules) in
    lexes-all _ _ b _ (filled-count _ _ _ _ c.in-Ok.ensures)

pub returns-in_err-judge : goal.returns-in_err-judge
returns-in_err-judge c =
    let b = filled-all c.args.code.now _ _ c.in-Ok.filled c.in-Ok.ensures (search (rules, tests)) (search (rules, tests)) (search rules) in
    let told = filled-count c.args.code.now _ _ _ c.in-Ok.ensures in
    let p = err_from_is_err_and c.from_residual.result c.from_residual.ensures.1 in
    rw (p.1, p.2)
    (examined-drafts _ (verdict-sections _ _ b _ told c.if-filled-gt3.false) _ c.draft_all-words.ensures _ (lexes-all _ _ b _ told).many _ c.in_err-judge.ensures _)

pub returns : goal.returns
returns c =
    let b = filled-all c.args.code.now _ _ c.in-Ok.filled c.in-Ok.ensures (search (rules, tests)) (search (rules, tests)) (search rules) in
    let told = filled-count c.args.code.now _ _ _ c.in-Ok.ensures in
    examined-done _ (verdict-sections _ _ b _ told c.if-filled-gt3.false) _ c.draft_all-words.ensures _ (lexes-all _ _ b _ told).many
    c.in_ok-judge.ensures (omega arith) (search rules) _ _ (omega (arith, filled-few c.args.code.now _ _ c.in-Ok.filled c.in-Ok.ensures, c.fill.ensures.size)) b
