-- `date_rows::step` meets its contract.
-- Assumes nothing.
use Prim.Native.Nat.{◌<◌}
use native.Mathlib.Omega.{arith}
use mathlib.Core.Path.{◌≡◌}
use lib.Dec.{leb, eqb}
use borrow.Author.Tests.{eqb-true, eqb-false, leb-true, leb-false}
use Rattle.lists.proofs.Bools.{by_cases}
use Rattle.tallies.proofs.Steps.{Others, earlier-known, beyond}
use Rattle.date_rows.proofs.DateSteps.{nought-step, foreign-step, unknown-step}
use Rattle.date_rows.proofs.step.Goals as goal

-- an item of another kind, and a tag of none
pub returns-in_default : goal.returns-in_default
returns-in_default c =
    let a = c.args in
    let t = a.tag in
    let r = c.in_default.in_default-own.rest in
    let First : Type 0 = Others (Unit {0}) t 0 3 in
    let three : (t ≡ 0 → ⊥) → 3 < t = λ n. beyond (Unit {0}) t 0 3 (earlier-known First t 10 11 r) (omega arith) in
    by_cases (eqb t 0) (λ e. rw (eqb-true t 0 e) (nought-step _ _))
    (λ e. let least = three (eqb-false t 0 e) in
    by_cases (leb t 10) (λ m. foreign-step a.s a.a t (omega arith) (omega (arith, leb-true t 10 m)))
    (λ m. unknown-step a.s a.a t (beyond First t 10 11 r (leb-false t 10 m))))
