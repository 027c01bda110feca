-- `bare_rows::bare_fits` meets its contract. The invariant, `Baring`: what was met, and the entries that are left.
-- Assumes nothing.
use Prim.Native.Nat.{◌+◌}
use native.Mathlib.Omega.{arith}
use mathlib.Core.Path.{◌≡◌, sym, ap, ◌∙◌}
use lib.ListN.{length, length-append}
use Rattle.tallies.proofs.Pairs.{entries-pair, entries-none}
use Rattle.bare_rows.proofs.BareRows.{bool-most, baring-start, baring-step, baring-fault, baring-end}
use Rattle.bare_rows.proofs.bare_fits.Goals as goal

pub loop-pair-init : goal.loop-pair-init
loop-pair-init c =
    let made = c.chunks_exact-pair-items.ensures in
    rw (c.into_iter-pair-iterator.ensures.into_iter_gives, made.rest) (made.size, omega arith, omega arith, baring-start _ _)

pub returns-then-not-is_bare : goal.returns-then-not-is_bare
returns-then-not-is_bare c =
    let turn = c.in-Some.ensures.steps in
    let i = c.loop-pair.invariant in
    baring-fault i.3 _ _ (entries-pair _ _ _ turn.1.0 (turn.1.1 ∙ i.0)) _ c.own_tag-own.ensures (sym c.is_bare.ensures ∙ c.if-not-is_bare.true)

pub loop-pair-preserved : goal.loop-pair-preserved
loop-pair-preserved c =
    let turn = c.in-Some.ensures.steps in
    let i = c.loop-pair.invariant in
    let two = turn.1.1 ∙ i.0 in
    let more = ap length turn.1.0 ∙ length-append c.in-Some.pair.now _ in
    rw (c.from-fills.ensures, c.from-owns.ensures) (
      turn.0 ∙ i.0,
      omega (arith, i.1, two, more, bool-most),
      omega (arith, i.2, two, more, bool-most),
      baring-step i.3 _ _ (entries-pair _ _ _ turn.1.0 two) (sym c.is_bare.ensures ∙ c.if-not-is_bare.false),
    )

pub returns : goal.returns
returns c =
    let i = c.loop-pair.invariant in
    rw c.owns_fit.ensures (baring-end i.3 _ c.own_tag-own.ensures (entries-none _ (omega (arith, i.0, c.in-None.ensures.steps.1.0))))
