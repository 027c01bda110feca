-- The years of the day numbers: 400 years add 146,097 days from 1901 on, and the year that is found is the right one.
-- Assumes nothing.
use mathlib.Core.Path.{◌≡◌, refl, sym, ap, ◌∙◌}
use mathlib.Core.Logic.{⊎_elim}
use Prim.Native.Nat.{ℕ, zero, suc, ◌+◌, ◌-◌, ◌*◌, ◌/◌, ◌%◌, ◌≤◌, ◌<◌}
use native.Mathlib.Nat.{suc-add, eq-or-lt_of_le, le_of_suc-le-suc}
use native.Mathlib.Omega.{arith}
use borrow.Author.Tests.{ltb-true, ltb-false, leb-true, leb-false, ne_eqb}
use lib.Dec.{leb, ltb}
use Rattle.lists.proofs.Bools.{by_cases, cond_both, cond-case}
use Rattle.calendar.specs.Year.{gregorian_leap, leap, year_days, first_day, YearDay, year_day_from, year_day_of}
use Rattle.calendar.specs.Found.{YearFound}

pub first_day-next : (k : ℕ) → first_day (suc k) ≡ first_day k + year_days k
unfolding first_day
first_day-next k = refl

pub first_day-1900 : first_day 0 ≡ 1
unfolding first_day
first_day-1900 = refl

pub first_day-1901 : first_day 1 ≡ 367
unfolding first_day year_days leap gregorian_leap
first_day-1901 = refl

gregorian_leap-cycle : (y : ℕ) → gregorian_leap (y + 400) ≡ gregorian_leap y
unfolding gregorian_leap
gregorian_leap-cycle y =
    let a : (y + 400) % 400 ≡ y % 400 = omega arith in
    let b : (y + 400) % 100 ≡ y % 100 = omega arith in
    let c : (y + 400) % 4 ≡ y % 4 = omega arith in
    rw (a, b, c)

year_days-cycle : (k : ℕ) → year_days (suc k + 400) ≡ year_days (suc k)
unfolding year_days leap
year_days-cycle k =
    let e : 1900 + (suc k + 400) ≡ 1900 + suc k + 400 = omega arith in
    rw (ne_eqb (suc k + 400) 0 (omega arith), ne_eqb (suc k) 0 (omega arith), e, gregorian_leap-cycle (1900 + suc k))

-- "From 1901 on, 400 years add 146,097."
pub first_day-cycle : (k : ℕ) → first_day (suc k + 400) ≡ first_day (suc k) + 146097
unfolding first_day year_days leap gregorian_leap
first_day-cycle zero = refl
first_day-cycle (suc k) =
    ap first_day (suc-add (suc k) 400) ∙ first_day-next (suc k + 400)
    ∙ omega (arith, first_day-cycle k, year_days-cycle k, first_day-next (suc k))

pub first_day-cycles : (q k : ℕ) → first_day (suc k + 400 * q) ≡ first_day (suc k) + 146097 * q
first_day-cycles zero k =
    let e : suc k + 400 * 0 ≡ suc k = omega arith in
    ap first_day e ∙ omega arith
first_day-cycles (suc q) k =
    let e : suc k + 400 * suc q ≡ suc (k + 400 * q) + 400 = omega arith in
    let f : suc (k + 400 * q) ≡ suc k + 400 * q = omega arith in
    ap first_day e ∙ first_day-cycle (k + 400 * q) ∙ omega (arith, ap first_day f, first_day-cycles q k)

pub year_days-most : (k : ℕ) → year_days k ≤ 366
unfolding year_days
year_days-most k = cond_both (λ (n : ℕ). n ≤ 366) (leap k) (omega arith) (omega arith)

pub year_days-least : (k : ℕ) → 365 ≤ year_days k
unfolding year_days
year_days-least k = cond_both (λ (n : ℕ). 365 ≤ n) (leap k) (omega arith) (omega arith)

-- each year has 365 days at least
pub first_day-far : (j k : ℕ) → j ≤ k → first_day j + 365 * (k - j) ≤ first_day k
first_day-far j zero h = let e : j ≡ 0 = omega arith in rw e (omega arith)
first_day-far j (suc k) h =
    ⊎_elim (λ (e : j ≡ suc k). rw e (omega arith))
    (λ (l : j < suc k). omega (arith, first_day-far j k (le_of_suc-le-suc l), first_day-next k, year_days-least k))
    (eq-or-lt_of_le h)

-- the table's last year, 2300, ends before day 146,464
pub year-2301 : (k : ℕ) → 400 ≤ k → 146464 ≤ first_day (suc k)
year-2301 k h = omega (arith, first_day-far 401 (suc k) (omega arith), first_day-cycle 0, first_day-1901)

not_earlier_lem : (day j k : ℕ) → day < first_day (suc j) → (0 < k → first_day k ≤ day) → k ≤ j
not_earlier_lem day j k b c =
    by_cases (ltb j k)
    (λ t.
    let l : j < k = ltb-true j k t in
    absurd (omega (arith, first_day-far (suc j) k l, c (omega arith))))
    (ltb-false j k)

-- the bounds of a year hold of one year only
pub year-only : (day j k : ℕ) → (0 < j → first_day j ≤ day) → day < first_day (suc j) → (0 < k → first_day k ≤ day) → day < first_day (suc k) → j ≡ k
year-only day j k a b c d = omega (arith, not_earlier_lem day j k b c, not_earlier_lem day k j d a)

-- what taking off whole years keeps: the days in front of the year and the place in it; the place is in the year, and 0 only from 0 on
record Taken (sum n : ℕ) (y : YearDay) : Type 0 where
  kept : first_day y.years + y.day_of_year ≡ sum
  within : y.day_of_year ≤ year_days y.years
  started : 1 ≤ n → 1 ≤ y.day_of_year

taken : (most k n : ℕ) → n ≤ most → Taken (first_day k + n) n (year_day_from most k n)
unfolding year_day_from
taken zero k n h = record { kept = refl; within = omega arith; started = λ l. l }
taken (suc most) k n h =
    cond-case (Taken (first_day k + n) n) (leb n (year_days k))
    (λ t. record { kept = refl; within = leb-true n (year_days k) t; started = λ l. l })
    (λ f.
    let l : year_days k < n = leb-false n (year_days k) f in
    let e : first_day (suc k) + (n - year_days k) ≡ first_day k + n = omega (arith, first_day-next k) in
    let r = taken most (suc k) (n - year_days k) (omega (arith, year_days-least k)) in
    record { kept = r.kept ∙ e; within = r.within; started = λ a. r.started (omega arith) })

-- the definition finds the right year and place
pub year-found : (day : ℕ) → YearFound day (year_day_of day)
unfolding year_day_of first_day
year-found day =
    let y = year_day_from day 0 day in
    let t = taken day 0 day (omega arith) in
    let begun : 1 ≤ day → first_day y.years ≤ day = λ h. omega (arith, t.kept, t.started h) in
    let ends : day < first_day (suc y.years) = omega (arith, t.kept, t.within) in
    record {
      begun = begun;
      ends = ends;
      placed = omega (arith, t.kept);
      only = λ k a b. year-only day k y.years a b (λ h. begun (omega (arith, first_day-far 1 y.years h, year_days-least 0, t.kept))) ends;
    }

-- so a year and a place with the bounds and the sum are what the definition finds
pub year-is : (day k n : ℕ) → (0 < k → first_day k ≤ day) → day < first_day (suc k) → first_day k + n ≡ suc day → year_day_of day ≡ record { years = k; day_of_year = n }
year-is day k n a b e =
    let f = year-found day in
    let s : k ≡ (year_day_of day).years = f.only k a b in
    let t : (year_day_of day).day_of_year ≡ n = omega (arith, f.placed, ap first_day s) in
    ap {B = YearDay} (λ (x : ℕ). record { years = x; day_of_year = (year_day_of day).day_of_year }) (sym s)
    ∙ ap {B = YearDay} (λ (x : ℕ). record { years = k; day_of_year = x }) t

-- a day number is at least 365 days for each year before it
pub years-few : (day : ℕ) → 365 * (year_day_of day).years ≤ day
years-few day =
    omega (arith, (year-found day).placed, first_day-far 0 (year_day_of day).years (omega arith), first_day-1900)

-- the place that is found is a day of its year, so that `month-found` holds of every date
pub day-in-year : (day : ℕ) → (year_day_of day).day_of_year ≤ year_days (year_day_of day).years
day-in-year day = let f = year-found day in omega (arith, f.placed, f.ends, first_day-next (year_day_of day).years)

pub year-1900 : (day : ℕ) → day < 367 → year_day_of day ≡ record { years = 0; day_of_year = day }
year-1900 day h =
    year-is day 0 day (λ a. absurd (omega arith)) (omega (arith, first_day-1901)) (omega (arith, first_day-1900))

-- the year of a day of the first cycle from 1901 on, and that of the day some cycles later
year-cycles : (q rest k : ℕ) → 367 ≤ rest → first_day k ≤ rest → rest < first_day (suc k) →
    year_day_of (rest + 146097 * q) ≡ record { years = k + 400 * q; day_of_year = rest - first_day k + 1 }
year-cycles q rest zero h a b = absurd (omega (arith, first_day-1901))
year-cycles q rest (suc j) h a b =
    let e : suc (suc j + 400 * q) ≡ suc (suc j) + 400 * q = omega arith in
    year-is (rest + 146097 * q) (suc j + 400 * q) (rest - first_day (suc j) + 1)
    (λ p. omega (arith, first_day-cycles q j))
    (omega (arith, ap first_day e, first_day-cycles q (suc j)))
    (omega (arith, first_day-cycles q j))

-- the year as the code finds it: rest is the day of the first cycle, later the years of the cycles before, f the year's first day
pub year-later : (day k f later rest : ℕ) → 367 ≤ day → later ≡ 400 * ((day - 367) / 146097) → rest ≡ (day - 367) % 146097 + 367 →
    f ≡ first_day k → first_day k ≤ rest → rest < first_day (suc k) → year_day_of day ≡ record { years = k + later; day_of_year = rest - f + 1 }
year-later day k f later rest h l r e a b =
    let q : ℕ = (day - 367) / 146097 in
    let s : day ≡ rest + 146097 * q = omega arith in
    rw (e, l) (ap year_day_of s ∙ year-cycles q rest k (omega arith) a b)
