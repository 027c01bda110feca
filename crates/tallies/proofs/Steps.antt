-- One step of the pass, computed at a known tag.
-- Assumes nothing.
use Prim.Native.Nat.{ℕ, zero, suc, ◌+◌, ◌<◌}
use mathlib.Core.Path.{◌≡◌, refl, sym, ◌∙◌}
use mathlib.Core.Bool.{true, false, true≢false}
use lib.Dec.{leb, eqb}
use native.Mathlib.Omega.{arith}
use borrow.Author.Tests.{eqb-true, le-leb, leb-false}
use Rattle.values.specs.Ranges.{between}
use Rattle.tables.specs.Encode.{entry, bit}
use Rattle.formats.specs.Items.{item_makes}
use Rattle.formats.specs.Limits.{elapsed_short, fixed_small}
use Rattle.tables.specs.Words.{Entry}
use Rattle.tables.specs.Decode.{item_at}
use Rattle.tallies.specs.declared.Walk.{Walk}
use Rattle.tallies.specs.Walk.{weight, behind_unit, number_weight, unit_after, counted_of, placed_of, step_of}
use Rattle.lists.proofs.Bools.{by_cases, true-T}
use Rattle.tables.proofs.BackEntries.{between-facts, span-at, late-tag}

-- opens all that a step at a known tag computes by
unfoldable pub computed : Walk → Entry → Walk
unfolding step_of number_weight weight bit unit_after item_at item_makes elapsed_short fixed_small
computed w e = step_of w e

module _ (w : Walk) (a : ℕ) where
  -- `?` is misplaced behind an E
  space-step : placed_of w 6 ≡ step_of w (entry 6 a)
  unfolding computed
  space-step = by_cases (eqb w.unit behind_unit) (λ u. rw (eqb-true w.unit behind_unit u)) (λ u. rw u)

  pub place-step : (t : ℕ) → between 4 6 t ≡ true → placed_of w t ≡ step_of w (entry t a)
  unfolding computed
  place-step t h =
      let f = between-facts 4 6 t (true-T h) in
      span-at (λ (k : ℕ). placed_of w k ≡ step_of w (entry k a)) 4 3 t (refl, (refl, (space-step, tt))) f.0 (omega arith)

  pub unknown-step : (t : ℕ) → 25 < t → counted_of w 0 1099511627776 0 ≡ step_of w (entry t a)
  unfolding computed
  unknown-step t h = rw (late-tag t a h)

-- a number is none of m + 1 to m + j, behind what else is known of it, as the last arm of a `match` tells it
abbrev pub Others : Type 0 → ℕ → ℕ → ℕ → Type 0
Others P t m zero = P
Others P t m (suc j) = Others P t m j × (t ≡ m + suc j → ⊥)

pub earlier-known : (P : Type 0) (t m j : ℕ) → Others P t m j → P
earlier-known P t m zero o = o
earlier-known P t m (suc j) o = earlier-known P t m j o.0

pub beyond : (P : Type 0) (t m j : ℕ) → Others P t m j → m < t → m + j < t
beyond P t m zero o h = omega arith
beyond P t m (suc j) o h =
    let k = beyond P t m j o.0 h in
    let n = o.1 in
    omega arith

pub no-place-beyond : (t : ℕ) → 3 < t → between 4 6 t ≡ false → 6 < t
no-place-beyond t h b =
    by_cases (leb t 6) (λ e. absurd (true≢false (sym (rw (le-leb 4 t h, e)) ∙ b)))
    (λ e. leb-false t 6 e)
