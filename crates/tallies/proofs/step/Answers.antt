-- `tallies::step` meets its contract. Each arm is the step at its tag.
-- Assumes nothing.
use Rattle.tallies.proofs.Steps.{computed, place-step, unknown-step, Others, earlier-known, beyond, no-place-beyond}
use Rattle.lists.proofs.Bools.{by_cases}
use lib.Dec.{eqb}
use borrow.Author.Tests.{eqb-true, eqb-false}
use mathlib.Core.Path.{◌≡◌, ◌∙◌}
use mathlib.Core.Bool.{false}
use Rattle.values.specs.Ranges.{between}
use Rattle.std.proofs.lemmas.Bool.Decides.{nat_tests}
use Prim.Native.Nat.{◌<◌}
use native.Mathlib.Omega.{arith}
use Rattle.tallies.proofs.step.Goals as goal

pub returns-then-contains : goal.returns-then-contains
returns-then-contains c =
    let a = c.args in
    c.place.ensures ∙ place-step a.w a.a a.tag (grind (arith, nat_tests, c.if-contains.ensures))

-- a tag of no item
pub returns-in_default : goal.returns-in_default
unfolding computed
returns-in_default c =
    let a = c.args in
    let t = a.tag in
    let r = c.in_default.in_default-own.rest in
    let b : between 4 6 t ≡ false = grind (arith, nat_tests, c.if-contains.ensures) in
    let First : Type 0 = Others (Unit {0}) t 0 3 in
    let far : (t ≡ 0 → ⊥) → 25 < t = λ n.
    let three : 3 < t = beyond (Unit {0}) t 0 3 (earlier-known First t 6 19 r) (omega arith) in
    beyond First t 6 19 r (no-place-beyond t three b) in
    by_cases (eqb t 0) (λ e. rw (eqb-true t 0 e) c.counted-in_default.ensures)
    (λ e. c.counted-in_default.ensures ∙ unknown-step a.w a.a t (far (eqb-false t 0 e)))
