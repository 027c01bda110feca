-- The months: their lengths make up the year, and the month that is found is the right one.
-- Assumes nothing.
use mathlib.Core.Path.{◌≡◌, refl, subst, ◌∙◌}
use mathlib.Core.Bool.{Bool, true, false, cond}
use mathlib.Core.List.{List, [], ◌∷◌}
use Prim.Native.Nat.{ℕ, zero, suc, pred, ◌+◌, ◌-◌, ◌*◌, ◌/◌, ◌≤◌, ◌<◌}
use native.Mathlib.Omega.{arith}
use borrow.Author.Tests.{leb-true, leb-false, lt-leb}
use lib.Dec.{leb}
use lib.ListN.{length, get_or, take}
use Rattle.lists.specs.Tables.{values}
use Rattle.lists.proofs.Bools.{cond-case}
use Rattle.calendar.proofs.Table.{same-values}
use Rattle.calendar.specs.Year.{leap, year_days}
use Rattle.calendar.specs.Date.{month_days, MonthDay, month_day_from}
use Rattle.calendar.specs.Found.{sum, MonthFound}
use Rattle.calendar.specs.Moved.{moved_by}
use Rattle.calendar.proofs.Years.{year_days-most}

-- the months of a year of either length
abbrev months_of : Bool → List ℕ
months_of b = 31 ∷ cond b 29 28 ∷ 31 ∷ 30 ∷ 31 ∷ 30 ∷ 31 ∷ 31 ∷ 30 ∷ 31 ∷ 30 ∷ 31 ∷ []

pub months-sum : (k : ℕ) → sum (month_days k) ≡ year_days k
unfolding sum month_days year_days
months-sum k = both (leap k)
  where
    both : (b : Bool) → sum (months_of b) ≡ cond b 366 365
    both true = refl
    both false = refl

-- MonthFound for any list of lengths: the month's place in the list
record Counted (m n : ℕ) (ls : List ℕ) (d : MonthDay) : Type 0 where
  place : ℕ
  is : d.month ≡ m + place
  within : place < length ls
  first : 1 ≤ n → 1 ≤ d.day_of_month
  last : d.day_of_month ≤ get_or ls place 0
  counted : sum (take place ls) + d.day_of_month ≡ n

here : (m n l : ℕ) (ls : List ℕ) → n ≤ l → Counted m n (l ∷ ls) (record { month = m; day_of_month = n })
unfolding sum
here m n l ls h =
    record { place = 0; is = omega arith; within = omega arith; first = λ a. a; last = h; counted = omega arith }

later : (m n l : ℕ) (ls : List ℕ) (d : MonthDay) → l < n → Counted (suc m) (n - l) ls d → Counted m n (l ∷ ls) d
unfolding sum
later m n l ls d h c =
    record {
      place = suc c.place;
      is = omega (arith, c.is);
      within = omega (arith, c.within);
      first = λ a. c.first (omega arith);
      last = c.last;
      counted = omega (arith, c.counted);
    }

counted : (m n l : ℕ) (ls : List ℕ) → n ≤ sum (l ∷ ls) → Counted m n (l ∷ ls) (month_day_from m (l ∷ ls) n)
unfolding sum month_day_from
counted m n l [] h =
    cond-case (Counted m n (l ∷ [])) (leb n l) (λ t. here m n l [] (leb-true n l t)) (λ f. absurd (omega (arith, leb-false n l f)))
counted m n l (x ∷ xs) h =
    cond-case (Counted m n (l ∷ x ∷ xs)) (leb n l)
    (λ t. here m n l (x ∷ xs) (leb-true n l t))
    (λ f.
    let less : l < n = leb-false n l f in
    later m n l (x ∷ xs) (month_day_from (suc m) (x ∷ xs) (n - l)) less (counted (suc m) (n - l) x xs (omega arith)))

-- the months' list has its first month in front
counted-year : (k n : ℕ) → n ≤ year_days k → Counted 1 n (month_days k) (month_day_from 1 (month_days k) n)
unfolding month_days
counted-year k n h =
    let e : sum (month_days k) ≡ year_days k = months-sum k in
    counted 1 n 31 (cond (leap k) 29 28 ∷ 31 ∷ 30 ∷ 31 ∷ 30 ∷ 31 ∷ 31 ∷ 30 ∷ 31 ∷ 30 ∷ 31 ∷ []) (omega arith)

pub months-length : (k : ℕ) → length (month_days k) ≡ 12
unfolding month_days
months-length k = refl

pub month-found : (k n : ℕ) → n ≤ year_days k → MonthFound k n (month_day_from 1 (month_days k) n)
month-found k n h =
    let d = month_day_from 1 (month_days k) n in
    let c = counted-year k n h in
    let e : c.place ≡ pred d.month = omega (arith, c.is) in
    record {
      least = omega (arith, c.is);
      greatest = omega (arith, c.is, c.within, months-length k);
      first = c.first;
      last = subst (λ (i : ℕ). d.day_of_month ≤ get_or (month_days k) i 0) e c.last;
      counted = subst (λ (i : ℕ). sum (take i (month_days k)) + d.day_of_month ≡ n) e c.counted;
    }

-- past the last month there is a thirteenth
month-past : (m n : ℕ) (ls : List ℕ) → sum ls < n → month_day_from m ls n ≡ record { month = m + length ls; day_of_month = n - sum ls }
unfolding sum month_day_from
month-past m n [] h =
    let e : m + 0 ≡ m = omega arith in
    let f : n - 0 ≡ n = omega arith in
    rw (e, f)
month-past m n (l ∷ ls) h =
    let e : m + suc (length ls) ≡ suc m + length ls = omega arith in
    let f : n - (l + sum ls) ≡ n - l - sum ls = omega arith in
    rw (lt-leb n l (omega arith), e, f) (month-past (suc m) (n - l) ls (omega arith))

pub month-behind : (k n : ℕ) (b : Bool) → b ≡ leap k → 366 < n →
    month_day_from 1 (month_days k) n ≡ record { month = 13; day_of_month = n - cond b 366 365 }
unfolding year_days
month-behind k n b e h =
    let s : sum (month_days k) ≡ cond b 366 365 = rw e (months-sum k) in
    let l : length (month_days k) ≡ 12 = months-length k in
    month-past 1 n (month_days k) (omega (arith, months-sum k, year_days-most k))
    ∙ (λ j. record { month = 1 + l j; day_of_month = n - s j })

pub month-nought : (k n : ℕ) → n ≡ 0 → month_day_from 1 (month_days k) n ≡ record { month = 1; day_of_month = 0 }
unfolding month_days month_day_from
month-nought k n e = rw e

-- the month and the day of it by arithmetic
month_at : Bool → ℕ → ℕ
month_at b n = (67 * moved_by b n + 2010) / 2048

day_at : Bool → ℕ → ℕ
day_at b n = moved_by b n - (489 * month_at b n - 480) / 16

abbrev found : Bool → ℕ → MonthDay
found b n = month_day_from 1 (months_of b) n

-- the definition and the arithmetic, computed for each day of a year of either length
months-computed : (b : Bool) → values (λ (n : ℕ). (found b (suc n)).month) 0 366 ≡ values (λ (n : ℕ). month_at b (suc n)) 0 366
unfolding month_day_from moved_by month_at
months-computed true = refl
months-computed false = refl

days-computed : (b : Bool) → values (λ (n : ℕ). (found b (suc n)).day_of_month) 0 366 ≡ values (λ (n : ℕ). day_at b (suc n)) 0 366
unfolding month_day_from moved_by month_at day_at
days-computed true = refl
days-computed false = refl

month-computed : (b : Bool) (n : ℕ) → n < 366 → found b (suc n) ≡ record { month = month_at b (suc n); day_of_month = day_at b (suc n) }
month-computed b n h =
    let m = same-values (λ (i : ℕ). (found b (suc i)).month) (λ (i : ℕ). month_at b (suc i)) 366 n (months-computed b) h in
    let d = same-values (λ (i : ℕ). (found b (suc i)).day_of_month) (λ (i : ℕ). day_at b (suc i)) 366 n (days-computed b) h in
    λ j. record { month = m j; day_of_month = d j }

-- day being the n-th day of the year moved
pub month-of-moved : (k n day : ℕ) (b : Bool) → b ≡ leap k → 1 ≤ n → n ≤ 366 → day ≡ moved_by b n →
    month_day_from 1 (month_days k) n ≡ record { month = (67 * day + 2010) / 2048; day_of_month = day - (489 * ((67 * day + 2010) / 2048) - 480) / 16 }
unfolding month_days month_at day_at
month-of-moved k zero day b e l h f = absurd (omega arith)
month-of-moved k (suc n) day b e l h f = rw (← e, f) (month-computed b n (omega arith))
