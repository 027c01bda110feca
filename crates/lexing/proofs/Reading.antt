-- Laws of the forms without brackets: what each gives, by what stands behind its first unit.
-- Assumes nothing.
use Prim.Native.Nat.{ℕ, zero, suc, ◌+◌, ◌-◌, ◌≤◌, ◌<◌}
use mathlib.Core.Path.{◌≡◌, refl}
use mathlib.Core.Bool.{true, false}
use mathlib.Core.List.{List}
use native.Mathlib.Omega.{arith}
use native.Mathlib.Numerals.{add-one}
use borrow.Author.Tests.{eq-eqb, ne_eqb}
use lib.Dec.{eqb}
use lib.ListN.{length}
use Rattle.std.proofs.Common.{Some, None}
use Rattle.std.proofs.Math.Bool.{or-true}
use Rattle.formats.specs.Tokens.{run, before, leading, quoted, run_allowed, run_step}
use Rattle.marks.specs.Marks.{mark_token, mark_rows}
use Rattle.lexing.specs.Marks.{step_behind, letter_at}

-- ---- quoted literals
module _ (us : List ℕ) where
  pub quoted-open : before 34 us ≡ length us → step_behind us None ≡ quoted us
  unfolding quoted step_behind
  quoted-open e = rw (e, eq-eqb (length us) (length us) refl, or-true (eqb (length us) 0))

  module _ (n : ℕ) (e : n ≡ before 34 us) where
    pub quoted-empty : n ≡ 0 → step_behind us None ≡ quoted us
    unfolding quoted step_behind
    quoted-empty h = rw (← e, eq-eqb n 0 h)

    pub quoted-read : (n ≡ 0 → ⊥) → n < length us → step_behind us (Some (record { form = 0; argument = n; more = n + 1 })) ≡ quoted us
    unfolding quoted step_behind mark_token mark_rows
    quoted-read h k = rw (← e, ne_eqb n 0 h, ne_eqb n (length us) (omega arith), add-one n)

-- ---- runs
letter-row : (k n : ℕ) (us : List ℕ) → k ≤ 4 → mark_token (15 + k) n us ≡ run (letter_at (15 + k)) n
unfolding mark_token mark_rows letter_at
letter-row zero n us h = refl
letter-row (suc zero) n us h = refl
letter-row (suc (suc zero)) n us h = refl
letter-row (suc (suc (suc zero))) n us h = refl
letter-row (suc (suc (suc (suc zero)))) n us h = refl
letter-row (suc (suc (suc (suc (suc k))))) n us h = absurd (omega arith)

letter-token : (form n : ℕ) (us : List ℕ) → 15 ≤ form → form ≤ 19 → mark_token form n us ≡ run (letter_at form) n
letter-token form n us h k =
    let e : 15 + (form - 15) ≡ form = omega arith in
    rw e at (letter-row (form - 15) n us (omega arith))

module _ (form u n : ℕ) (us : List ℕ) (e : n ≡ leading (eqb u) us) where
  pub run-read : 15 ≤ form → form ≤ 19 → run_allowed (letter_at form) (n + 1) ≡ true
      → step_behind us (Some (record { form = form; argument = n + 1; more = n })) ≡ run_step (letter_at form) u us
  unfolding run_step step_behind
  run-read h k a = rw (letter-token form (n + 1) us h k, ← e, ← add-one n, a)

  pub run-broken : run_allowed (letter_at form) (n + 1) ≡ false → step_behind us None ≡ run_step (letter_at form) u us
  unfolding run_step step_behind
  run-broken a = rw (← e, ← add-one n, a)
