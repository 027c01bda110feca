-- The search over the table of first day numbers: which year it finds, and what its driver keeps.
-- Assumes nothing.
use mathlib.Core.Path.{◌≡◌, refl, sym, ap, ◌∙◌}
use mathlib.Core.Bool.{cond}
use mathlib.Core.Option.{Option, none, some}
use Prim.Native.Nat.{ℕ, suc, ◌-◌, ◌≤◌, ◌<◌}
use native.Mathlib.Omega.{arith}
use borrow.Author.Tests.{ltb-true, ltb-false}
use lib.Dec.{leb, ltb}
use lib.ListN.{length, get_or}
use Rattle.lists.proofs.Bools.{by_cases}
use Rattle.lists.proofs.Tables.{values_length}
use Rattle.searching.specs.declared.Search.{Search}
use Rattle.searching.specs.declared.Turn.{Turn}
use Rattle.searching.specs.declared.Turn.TheVariants.{Read, Found, Nothing}
use Rattle.searching.specs.Machine.{started, told_of}
use Rattle.searching.specs.Search.{Rising, last_not_above, driven, answered}
use Rattle.searching.proofs.Ten.{within-ten}
use Rattle.searching.proofs.Found.{last_found, last_none, answered-same}
use Rattle.searching.proofs.Turns.{driven-next, driven-found, driven-none, read-there, turn-left}
use Rattle.searching.proofs.Kept.{Keeps, keeps-started, keeps-told}
use Rattle.calendar.specs.Year.{first_day}
use Rattle.calendar.specs.Tables.{first_days}
use Rattle.calendar.proofs.Table.{first-at}
use Rattle.calendar.proofs.Years.{first_day-1900, first_day-far, year-2301}

pub size : length first_days ≡ 401
unfolding first_days
size = values_length first_day 401 0

rising : Rising first_days
rising i j h l =
    omega (arith, size, first-at first_days i refl (omega (arith, size)), first-at first_days j refl (omega (arith, size)), first_day-far i j h)

within : (day : ℕ) → driven 10 first_days (started day) ≡ answered (last_not_above day first_days)
within day = within-ten day first_days size rising

-- the year that is found has the day
pub record Year (day k : ℕ) : Type 0 where
  pub known : k ≤ 400
  pub first : get_or first_days k 0 ≡ first_day k
  pub begun : first_day k ≤ day
  pub ends : day < first_day (suc k)

pub found-year : (day k : ℕ) → day < 146464 → driven 10 first_days (started day) ≡ answered (some k) → Year day k
found-year day k h e =
    let r = last_found day first_days k (answered-same (last_not_above day first_days) k (sym (within day) ∙ e)) in
    let known : k ≤ 400 = omega (arith, r.within, size) in
    let first : get_or first_days k 0 ≡ first_day k = first-at first_days k refl known in
    record {
      known = known;
      first = first;
      begun = omega (arith, r.not_above);
      ends =
          by_cases (ltb k 400)
          (λ t.
          let l : suc k ≤ 400 = ltb-true k 400 t in
          omega (arith, r.later (suc k) (omega arith) (omega (arith, size)), first-at first_days (suc k) refl l))
          (λ f. omega (arith, year-2301 k (ltb-false k 400 f)));
    }

-- from day 1 on a year is found
record Comes (day : ℕ) : Type 0 where
  year : ℕ
  is : driven 10 first_days (started day) ≡ Found year

comes : (day : ℕ) → 1 ≤ day → Comes day
unfolding answered
comes day h = one (last_not_above day first_days) refl
  where
    one : (o : Option ℕ) → last_not_above day first_days ≡ o → Comes day
    one none e =
        absurd (omega (arith, last_none day first_days e 0 (omega (arith, size)), first-at first_days 0 refl (omega arith), first_day-1900))
    one (some k) e = record { year = k; is = within day ∙ ap answered e }

-- what the driver's loop keeps: the turns left lead where ten lead from the start
pub record Driving (day : ℕ) (turn : Turn) (first left : ℕ) : Type 0 where
  pub few : left ≤ 10
  pub leads : driven left first_days turn ≡ driven 10 first_days (started day)
  pub keeps : Keeps day first_days turn first

pub driving-start : (day : ℕ) (turn : Turn) (first left : ℕ) → turn ≡ started day → left ≡ 10 → Driving day turn first left
driving-start day turn first left e l =
    record {
      few = omega arith;
      leads = ap (λ (n : ℕ). driven n first_days turn) l ∙ ap (driven 10 first_days) e;
      keeps = rw e (keeps-started day first_days first);
    }

-- the entry asked for is there, and a turn is left for it
pub driving-read : (day k : ℕ) (s : Search) (first left : ℕ) → 1 ≤ day → Driving day (Read k s) first left → (k < 401) × (0 < left)
driving-read day k s first left h d =
    let c = comes day h in
    let e : driven left first_days (Read k s) ≡ Found c.year = d.leads ∙ c.is in
    (omega (arith, size, read-there first_days left k c.year s e), turn-left first_days left k c.year s e)

pub driving-next : (day k : ℕ) (s : Search) (first left : ℕ) → 1 ≤ day → Driving day (Read k s) first left →
    Driving day (told_of s (get_or first_days k 0)) (cond (leb (get_or first_days k 0) day) (get_or first_days k 0) first) (left - 1)
driving-next day k s first left h d =
    let r = driving-read day k s first left h d in
    let e : suc (left - 1) ≡ left = omega (arith, r.1) in
    record {
      few = omega (arith, d.few);
      leads =
          sym (driven-next first_days (left - 1) k s (omega (arith, r.0, size)))
          ∙ ap (λ (n : ℕ). driven n first_days (Read k s)) e
          ∙ d.leads;
      keeps = keeps-told day first_days k s first (get_or first_days k 0) refl d.keeps;
    }

pub driving-found : (day k first left : ℕ) → Driving day (Found k) first left →
    (driven 10 first_days (started day) ≡ answered (some k)) × (first ≡ get_or first_days k 0)
unfolding answered
driving-found day k first left d = (sym d.leads ∙ driven-found first_days left k, d.keeps)

pub driving-none : (day first left : ℕ) → 1 ≤ day → Driving day Nothing first left → ⊥
driving-none day first left h d =
    let c = comes day h in
    let e : Nothing ≡ Found c.year = sym (driven-none first_days left) ∙ d.leads ∙ c.is in
    let z : ◌≡◌ {A = ℕ} 0 1 = cc in
    omega arith
