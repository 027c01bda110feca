-- The rule for m in one pass: an m waits for the next run, which tells whether it is what it is said to be.
-- Assumes nothing.
use Prim.Native.Nat.{ℕ}
use mathlib.Core.Path.{◌≡◌, refl, ◌∙◌, ap}
use mathlib.Core.Bool.{Bool, true, false, cond, not, ◌&&◌, and-false}
use mathlib.Core.List.{List, [], ◌∷◌}
use lib.Dec.{leb, eqb}
use Rattle.lists.proofs.Bools.{by_cases}
use Rattle.formats.specs.Tokens.{Elapsed}
use Rattle.formats.specs.Items.{Item, month, minute, elapsed, item_number, Run, hour_run, second_run, other_run, is_second_run, run_of, run_of_elapsed, nearer, first_run, means_minutes, month_or_minute, settled_item}
use Rattle.formats.specs.WellFormed.{settled_test, is_settled}
use Rattle.formats.proofs.Each.{by-item, by-elapsed}
use Rattle.date_rows.specs.declared.earlier_runs.Earlier.{Earlier}
use Rattle.date_rows.specs.declared.earlier_runs.Earlier.TheVariants.{Nothing, Hours, Seconds, Other, MonthWaits, MinutesWait}
use Rattle.date_rows.specs.Runs.{is_hours, month_waits, minutes_wait, run_at, run_after, earlier_after, may_stand, answers}

-- what an m that waits asks of the nearest later run
waits : Earlier → Run → Bool
waits n later = cond (month_waits n) (not (is_second_run later)) (cond (minutes_wait n) (is_second_run later) true)

-- every m is what the rule says, the one that waits too
pub runs_from : Earlier → List Item → Bool
runs_from n is = waits n (first_run is) && settled_test (run_at n) is

by-earlier : (P : Earlier → Type 0) → P Nothing → P Hours → P Seconds → P Other → P MonthWaits → P MinutesWait → (n : Earlier) → P n
by-earlier P a b c d e f Nothing = a
by-earlier P a b c d e f Hours = b
by-earlier P a b c d e f Seconds = c
by-earlier P a b c d e f Other = d
by-earlier P a b c d e f MonthWaits = e
by-earlier P a b c d e f MinutesWait = f

-- the run behind an item
run-behind : (n : Earlier) (i : Item) → run_at (earlier_after n i) ≡ nearer (run_of i) (run_at n)
unfolding earlier_after run_after run_of run_of_elapsed nearer run_at
run-behind n =
    by-item (λ i. run_at (earlier_after n i) ≡ nearer (run_of i) (run_at n)) (λ u. refl) (λ u. refl) (λ u. refl) (λ p. refl) refl refl refl refl (λ a. refl)
    (λ a. by_cases (leb a 2) (λ e. rw e) (λ e. rw e)) (λ a. refl) (λ a. refl) (λ a. by_cases (is_hours n) (λ e. rw e) (λ e. rw e)) (λ a. refl) (λ a. refl)
    (λ x a. by-elapsed (λ (d : Elapsed). run_at (earlier_after n (elapsed d a)) ≡ nearer (run_of (elapsed d a)) (run_at n)) refl refl refl x) (λ h. refl) (λ m. refl)
    refl (λ n. refl)

-- an item's test by the rule and what waits before it are told by the tests that are made at once and by what waits behind it
abbrev Told : Earlier → Run → Item → Type 0
Told n l i =
    (eqb (item_number (settled_item (run_at n) l i)) (item_number i) && waits n (nearer (run_of i) l))
    ≡ ((may_stand n i && answers n (run_of i)) && waits (earlier_after n i) l)

-- a run that is no m
second-told : (n : Earlier) → waits n second_run ≡ (answers n second_run && true)
unfolding waits answers
second-told = by-earlier (λ m. waits m second_run ≡ (answers m second_run && true)) refl refl refl refl refl refl

other-told : (n : Earlier) → waits n other_run ≡ (answers n other_run && true)
unfolding waits answers
other-told = by-earlier (λ m. waits m other_run ≡ (answers m other_run && true)) refl refl refl refl refl refl

hour-told : (n : Earlier) → waits n hour_run ≡ (answers n hour_run && true)
unfolding waits answers
hour-told = by-earlier (λ m. waits m hour_run ≡ (answers m hour_run && true)) refl refl refl refl refl refl

-- a run of m
month-told : (n : Earlier) (a : ℕ) (l : Run) → Told n l (month a)
unfolding waits may_stand answers earlier_after run_after run_of run_at nearer settled_item month_or_minute means_minutes
month-told n a l =
    by_cases (leb a 2)
    (λ k. by_cases (is_second_run l)
    (λ s. by-earlier (λ m. Told m l (month a)) (simp (k, s)) (simp (k, s)) (simp (k, s)) (simp (k, s)) (simp (k, s)) (simp (k, s)) n)
    (λ s. by-earlier (λ m. Told m l (month a)) (simp (k, s)) (simp (k, s)) (simp (k, s)) (simp (k, s)) (simp (k, s)) (simp (k, s)) n))
    (λ k. by-earlier (λ m. Told m l (month a)) (simp (k, and-false)) (simp k) (simp (k, and-false)) (simp (k, and-false)) (simp (k, and-false)) (simp (k, and-false)) n)

minute-told : (n : Earlier) (a : ℕ) (l : Run) → Told n l (minute a)
unfolding waits may_stand answers earlier_after run_after run_of run_at nearer settled_item month_or_minute means_minutes
minute-told n a l =
    by_cases (leb a 2)
    (λ k. by_cases (is_second_run l)
    (λ s. by-earlier (λ m. Told m l (minute a)) (simp (k, s)) (simp k) (simp (k, s)) (simp (k, s)) (simp (k, s)) (simp (k, s)) n)
    (λ s. by-earlier (λ m. Told m l (minute a)) (simp (k, s)) (simp k) (simp (k, s)) (simp (k, s)) (simp (k, s)) (simp (k, s)) n))
    (λ k. by-earlier (λ m. Told m l (minute a)) (simp (k, and-false)) (simp k) (simp (k, and-false)) (simp (k, and-false)) (simp (k, and-false)) (simp (k, and-false)) n)

told : (n : Earlier) (l : Run) (i : Item) → Told n l i
unfolding waits may_stand answers earlier_after run_after run_of run_of_elapsed nearer settled_item
told n l =
    by-item (Told n l) (λ u. refl) (λ u. refl) (λ u. refl) (λ p. refl) refl refl refl refl (λ a. other-told n) (λ a. month-told n a l) (λ a. other-told n) (λ a. hour-told n)
    (λ a. minute-told n a l) (λ a. second-told n) (λ a. refl)
    (λ x a. by-elapsed (λ (d : Elapsed). Told n l (elapsed d a)) (hour-told n) (other-told n) (second-told n) x) (λ h. refl) (λ m. refl)
    refl (λ n. refl)

-- the front of the tests, put in another order
in-front : (o w s x y : Bool) → (o && w) ≡ (x && y) → (w && (o && s)) ≡ (x && (y && s))
in-front o w s x y h = swapped o w s ∙ ap (λ (b : Bool). b && s) h ∙ taken x y s
  where
    swapped : (o w s : Bool) → (w && (o && s)) ≡ ((o && w) && s)
    swapped true w s = refl
    swapped false w s = and-false w

    taken : (x y s : Bool) → ((x && y) && s) ≡ (x && (y && s))
    taken true y s = refl
    taken false y s = refl

pub runs-front : (n : Earlier) (i : Item) (is : List Item) → runs_from n (i ∷ is) ≡ ((may_stand n i && answers n (run_of i)) && runs_from (earlier_after n i) is)
unfolding runs_from settled_test first_run
runs-front n i is = rw (run-behind n i) (in-front (eqb (item_number (settled_item (run_at n) (first_run is) i)) (item_number i)) (waits n (nearer (run_of i) (first_run is))) _
    (may_stand n i && answers n (run_of i)) (waits (earlier_after n i) (first_run is)) (told n (first_run is) i))

pub runs-end : (n : Earlier) → runs_from n [] ≡ not (minutes_wait n)
unfolding runs_from waits first_run settled_test
runs-end = by-earlier (λ m. runs_from m [] ≡ not (minutes_wait m)) refl refl refl refl refl refl

pub runs-start : (is : List Item) → runs_from Nothing is ≡ is_settled is
unfolding runs_from waits is_settled run_at
runs-start is = refl
