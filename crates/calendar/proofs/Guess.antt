-- The search's guess is exact for the table, so that two turns find the year of every day of the table.
-- Assumes nothing.
use mathlib.Core.Path.{◌≡◌, refl, ap, ◌∙◌}
use mathlib.Core.Bool.{Bool, true, false}
use Prim.Native.Nat.{ℕ, suc, ◌+◌, ◌-◌, ◌*◌, ◌/◌, ◌≤◌, ◌<◌}
use native.Mathlib.Omega.{arith}
use borrow.Author.Tests.{ltb-true, ltb-false, leb-false, lt-ltb, le-ltb, le-leb, lt-leb}
use lib.Dec.{leb, ltb}
use lib.ListN.{length}
use Rattle.lists.specs.Tables.{values}
use Rattle.lists.proofs.Bools.{by_cases}
use Rattle.searching.specs.declared.Search.{Search}
use Rattle.searching.specs.declared.Turn.{Turn}
use Rattle.searching.specs.declared.Turn.TheVariants.{Read, Found}
use Rattle.searching.specs.Machine.{later_guess, guessed, border, first_asked, answer, above, not_above, started, told_of}
use Rattle.searching.specs.Search.{handed, driven}
use Rattle.searching.proofs.Steps.{told-above, told-not-above}
use Rattle.calendar.specs.Year.{gregorian_leap, leap, year_days, first_day}
use Rattle.calendar.specs.Tables.{first_days}
use Rattle.calendar.proofs.Table.{first-at, same-values}
use Rattle.calendar.proofs.Driving.{size}
use Rattle.calendar.proofs.Years.{first_day-far, first_day-cycle, first_day-1901}

early : (d : ℕ) → d < 73416 → guessed d ≡ (4 * d + 1457) / 1461
unfolding guessed
early d h = rw (lt-ltb d 73416 h)

middle : (d : ℕ) → 73416 ≤ d → d < 109940 → guessed d ≡ (4 * (d - 73416) + 3) / 1461 + 202
unfolding guessed later_guess
middle d h l = rw (le-ltb d 73416 h, le-ltb 146463 d (omega arith), lt-ltb d 109940 l)

late : (d : ℕ) → 109940 ≤ d → d ≤ 146463 → guessed d ≡ (4 * (d - 109940) + 3) / 1461 + 302
unfolding guessed later_guess
late d h l = rw (le-ltb d 73416 (omega arith), le-ltb 146463 d l, le-ltb d 109940 h)

grows : (d e : ℕ) → d ≤ e → e ≤ 146463 → guessed d ≤ guessed e
grows d e h l =
    by_cases (ltb e 73416)
    (λ t. let m = ltb-true e 73416 t in omega (arith, early d (omega arith), early e m))
    (λ f.
    let m = ltb-false e 73416 f in
    by_cases (ltb e 109940)
    (λ t.
    let n = ltb-true e 109940 t in
    by_cases (ltb d 73416)
    (λ u. omega (arith, early d (ltb-true d 73416 u), middle e m n))
    (λ u. omega (arith, middle d (ltb-false d 73416 u) (omega arith), middle e m n)))
    (λ g.
    let n = ltb-false e 109940 g in
    by_cases (ltb d 73416)
    (λ u. omega (arith, early d (ltb-true d 73416 u), late e n l))
    (λ u.
    let o = ltb-false d 73416 u in
    by_cases (ltb d 109940)
    (λ v. omega (arith, middle d o (ltb-true d 109940 v), late e n l))
    (λ v. omega (arith, late d (ltb-false d 109940 v) (omega arith), late e n l)))))

-- computed for the first and the last day of each year of the table
at_first : values (λ (k : ℕ). guessed (first_day k)) 0 401 ≡ values suc 0 401
unfolding guessed later_guess gregorian_leap leap year_days first_day
at_first = refl

at_last : values (λ (k : ℕ). guessed (first_day (suc k) - 1)) 0 401 ≡ values suc 0 401
unfolding guessed later_guess gregorian_leap leap year_days first_day
at_last = refl

-- "1900 to 2300": the guess counts the years that have begun
pub guess-exact : (day k : ℕ) → k ≤ 400 → first_day k ≤ day → day < first_day (suc k) → guessed day ≡ suc k
guess-exact day k h a b =
    let f : guessed (first_day k) ≡ suc k = same-values (λ (i : ℕ). guessed (first_day i)) suc 401 k at_first (omega arith) in
    let l : guessed (first_day (suc k) - 1) ≡ suc k = same-values (λ (i : ℕ). guessed (first_day (suc i) - 1)) suc 401 k at_last (omega arith) in
    let e : first_day (suc k) ≤ 146464 = omega (arith, first_day-far (suc k) 401 (omega arith), first_day-cycle 0, first_day-1901) in
    omega (arith, grows (first_day k) day a (omega arith), grows day (first_day (suc k) - 1) (omega arith) (omega arith))

-- an entry of the table handed over
module _ (k : ℕ) (s : Search) (h : k ≤ 400) where
  handed-told : handed first_days (Read k s) ≡ told_of s (first_day k)
  unfolding handed
  handed-told = rw (lt-ltb k (length first_days) (omega (arith, size)), first-at first_days k refl h)

  handed-above : s.day < first_day k → handed first_days (Read k s) ≡ above s
  handed-above l = handed-told ∙ told-above s (first_day k) l

  handed-not-above : first_day k ≤ s.day → handed first_days (Read k s) ≡ not_above s
  handed-not-above l = handed-told ∙ told-not-above s (first_day k) l

module _ (day k : ℕ) (h : k ≤ 400) (begun : first_day k ≤ day) (ends : day < first_day (suc k)) where
  abbrev state : ℕ → ℕ → ℕ → Bool → Search
  state low last asked first = record { day = day; low = low; last = last; asked = asked; first = first }

  twice : (s t : Turn) → handed first_days (started day) ≡ s → handed first_days s ≡ t → driven 2 first_days (started day) ≡ t
  unfolding driven
  twice s t e f = ap (handed first_days) e ∙ f

  -- more than 144 years have begun: the last of them is asked for first
  two-late : border < suc k → driven 2 first_days (started day) ≡ Found k
  unfolding started first_asked not_above above answer handed
  two-late l =
      let e : suc k - 1 ≡ k = omega arith in
      let a : first_asked (guessed day) ≡ k = rw (guess-exact day k h begun ends, lt-ltb border (suc k) l) e in
      let one : handed first_days (started day) ≡ not_above (state 0 400 k true) =
      ap (λ (n : ℕ). handed first_days (Read n (state 0 400 n true))) a ∙ handed-not-above k (state 0 400 k true) h begun in
      by_cases (leb 400 k)
      (λ t. twice (Found k) (Found k) (one ∙ rw t) refl)
      (λ f.
      let m = leb-false 400 k f in
      let s : Search = state (k + 1) 400 (k + 1) false in
      let p : k + 1 ≡ suc k = omega arith in
      twice (Read (k + 1) s) (Found k) (one ∙ rw (f, le-leb border k (omega arith)))
      (handed-above (k + 1) s (omega arith) (rw p ends) ∙ rw (le-leb (k + 1) (k + 1) (omega arith), p)))

  -- at most 144: the one behind them is
  two-early : suc k ≤ border → driven 2 first_days (started day) ≡ Found k
  unfolding started first_asked not_above above
  two-early l =
      let e : suc k - 1 ≡ k = omega arith in
      let a : first_asked (guessed day) ≡ suc k = rw (guess-exact day k h begun ends, le-ltb border (suc k) l) in
      let s : Search = state 0 k k false in
      twice (Read k s) (Found k)
      (ap (λ (n : ℕ). handed first_days (Read n (state 0 400 n true))) a ∙ handed-above (suc k) (state 0 400 (suc k) true) (omega arith) ends
      ∙ rw (lt-leb (suc k) 0 (omega arith), le-leb (suc k) border l, e))
      (handed-not-above k s h begun ∙ rw (le-leb k k (omega arith)))

  -- the year of a day of the table is found in two turns
  pub two-turns : driven 2 first_days (started day) ≡ Found k
  two-turns = by_cases (ltb border (suc k)) (λ t. two-late (ltb-true border (suc k) t)) (λ f. two-early (ltb-false border (suc k) f))
