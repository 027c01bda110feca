-- One step of the walk over a date-time section's items, computed at a known tag.
-- Assumes nothing.
use Prim.Native.Nat.{ℕ, ◌≤◌, ◌<◌}
use native.Mathlib.Omega.{arith}
use mathlib.Core.Path.{◌≡◌, refl}
use lib.Dec.{leb}
use borrow.Author.Tests.{ne_eqb, leb-true, leb-false}
use Rattle.lists.proofs.Bools.{by_cases}
use Rattle.formats.specs.Tokens.{run_allowed}
use Rattle.formats.specs.Items.{item_allowed, run_of, run_of_elapsed}
use Rattle.formats.specs.WellFormed.{is_seconds}
use Rattle.tables.specs.Words.{Entry}
use Rattle.tables.specs.Encode.{entry}
use Rattle.tables.specs.Decode.{item_at}
use Rattle.tables.specs.Rules.{entry_in_range}
use Rattle.tables.proofs.BackEntries.{span-at, late-tag}
use Rattle.date_rows.specs.declared.DateWalk.{DateWalk}
use Rattle.date_rows.specs.Runs.{run_after, earlier_after, may_stand, answers}
use Rattle.std.specs.Prelude.{Option, None}
use Rattle.date_rows.specs.DateRows.{date_sound, date_after, date_next}

-- opens all that a step at a known tag computes by
unfoldable pub computed : DateWalk → Entry → Option DateWalk
unfolding date_next date_sound date_after earlier_after may_stand answers run_after run_of run_of_elapsed item_at item_allowed entry_in_range run_allowed is_seconds
computed s e = date_next s e

module _ (s : DateWalk) (a : ℕ) where
  pub nought-step : None ≡ date_next s (entry 0 a)
  unfolding computed
  nought-step = refl

  -- an item of a number, General or a text
  pub foreign-step : (t : ℕ) → 4 ≤ t → t < 11 → None ≡ date_next s (entry t a)
  unfolding computed
  foreign-step t least most =
      span-at (λ (k : ℕ). None ≡ date_next s (entry k a)) 4 7 t (refl, (refl, (refl, (refl, (refl, (refl, (refl, tt))))))) least most

  -- an E, and a tag of no item
  pub unknown-step : (t : ℕ) → 21 < t → None ≡ date_next s (entry t a)
  unfolding computed
  unknown-step t h =
      by_cases (leb t 25)
      (λ m. span-at (λ (k : ℕ). None ≡ date_next s (entry k a)) 22 4 t (refl, (refl, (refl, (refl, tt)))) (omega arith) (omega (arith, leb-true t 25 m)))
      (λ m. rw (late-tag t a (leb-false t 25 m), ne_eqb 21 t (λ e. absurd (omega arith))))
