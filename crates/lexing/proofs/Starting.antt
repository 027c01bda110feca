-- Laws of what a unit starts: a unit without a row is a literal or starts nothing, and so is every unit from 128 on.
-- Assumes nothing.
use Prim.Native.Nat.{ℕ, suc, ◌+◌, ◌≤◌, ◌<◌}
use mathlib.Core.Path.{◌≡◌, refl, sym, ◌∙◌}
use mathlib.Core.Bool.{true, false, cond}
use mathlib.Core.List.{List, [], ◌∷◌, map}
use native.Mathlib.Omega.{arith}
use native.Mathlib.Numerals.{add-one}
use borrow.Author.Tests.{ne_eqb}
use lib.ListN.{drop}
use lib.Dec.{T, ltb, eqb, ltb→lt}
use Rattle.std.proofs.Common.{Option as Found, None}
use Rattle.lists.specs.Lists.{every, any}
use Rattle.lists.proofs.Apart.{Apart, known}
use Rattle.lists.proofs.Bools.{every-head, every-tail}
use Rattle.calendar.specs.Names.{units}
use Rattle.formats.specs.Tokens.{bare, read, broken, FirstRow, other, first_rows, first_in, bare_literals, step_by, step_at}
use Rattle.marks.specs.Marks.{mark_token, mark_rows}
use Rattle.lexing.specs.declared.Step.{Step as FoundStep}
use Rattle.lexing.specs.Marks.{step_behind, step_meant}
use Rattle.lexing.specs.Bare.{is_bare}

-- ---- units without a row
abbrev pub row_units : List FirstRow → List ℕ
row_units rs = map (λ (r : FirstRow). r.unit) rs

rows_none : (P : Type 0) (rs : List FirstRow) (u : ℕ) → Apart P u (row_units rs) → first_in rs u ≡ other
unfolding first_in
rows_none P [] u a = refl
rows_none P (r ∷ rs) u a =
    let n = (known (P × (u ≡ r.unit → ⊥)) u (row_units rs) a).1 in
    rw (ne_eqb r.unit u (λ e. n (sym e))) (rows_none (P × (u ≡ r.unit → ⊥)) rs u a)

module _ (u : ℕ) (us : List ℕ) where
  rowless : first_in first_rows u ≡ other → step_at u us ≡ cond (is_bare u) (read (bare u) 0) broken
  unfolding step_at step_by is_bare
  rowless e = rw e

  module _ (a : Apart (Unit {0}) u (row_units first_rows)) where
    pub bare_step : is_bare u ≡ true → (s : Found FoundStep) → ((vs : List ℕ) → step_behind vs s ≡ read (mark_token 1 u vs) 0) → step_behind us s ≡ step_at u us
    unfolding mark_token mark_rows
    bare_step t s e = e us ∙ sym (rowless (rows_none (Unit {0}) first_rows u a) ∙ rw t)

    pub no_step : is_bare u ≡ false → step_behind us None ≡ step_at u us
    unfolding step_behind
    no_step f = sym (rowless (rows_none (Unit {0}) first_rows u a) ∙ rw f)

-- ---- units from 128 on
none-high : (ls : List ℕ) (u : ℕ) → T (every (λ (l : ℕ). ltb l 128) ls) → 128 ≤ u → any (eqb u) ls ≡ false
unfolding any
none-high [] u t h = refl
none-high (l ∷ ls) u t h =
    let b : l < 128 = ltb→lt l 128 (every-head (λ (x : ℕ). ltb x 128) l ls t) in
    rw (ne_eqb u l (omega arith)) (none-high ls u (every-tail (λ (x : ℕ). ltb x 128) l ls t) h)

rows-high : (rs : List FirstRow) (u : ℕ) → T (every (λ (r : FirstRow). ltb r.unit 128) rs) → 128 ≤ u → first_in rs u ≡ other
unfolding first_in
rows-high [] u t h = refl
rows-high (r ∷ rs) u t h =
    let b : r.unit < 128 = ltb→lt r.unit 128 (every-head (λ (x : FirstRow). ltb x.unit 128) r rs t) in
    rw (ne_eqb r.unit u (omega arith)) (rows-high rs u (every-tail (λ (x : FirstRow). ltb x.unit 128) r rs t) h)

pub high-broken : (u : ℕ) (us : List ℕ) → 128 ≤ u → step_at u us ≡ broken
unfolding is_bare first_rows bare_literals units every
high-broken u us h = rowless u us (rows-high first_rows u tt h) ∙ rw (none-high bare_literals u tt h)

-- ---- the step at a place
module _ (code : List ℕ) (at : ℕ) where
  pub next-step : (u v : ℕ) (s : Found FoundStep) → v ≡ u → step_behind (drop (at + 1) code) s ≡ step_at v (drop (at + 1) code)
      → step_meant code at s ≡ step_at u (drop (suc at) code)
  unfolding step_meant
  next-step u v s f e = rw (← f, ← (add-one at)) e

  pub next-broken : (u : ℕ) → 128 ≤ u → step_meant code at None ≡ step_at u (drop (suc at) code)
  unfolding step_meant step_behind
  next-broken u h = sym (high-broken u (drop (suc at) code) h)
