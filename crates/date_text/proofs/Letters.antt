-- Laws of names in one number.
-- Assumes nothing.
use Prim.Native.Nat.{ℕ, zero, suc, pred, ◌+◌, ◌-◌, ◌*◌, ◌/◌, ◌%◌, ◌≤◌, ◌<◌}
use Prim.Native.String.{String}
use native.Mathlib.Omega.{arith}
use mathlib.Core.Path.{◌≡◌, refl, sym, ◌∙◌}
use mathlib.Core.Bool.{Bool, true, false, cond, ◌&&◌}
use mathlib.Core.List.{List, [], ◌∷◌, ◌++◌}
use lib.ListN.{length, take, get_or-eq_default}
use lib.Seq.{take_all}
use lib.Dec.{T, leb, eqb, leb→le}
use borrow.Author.Tests.{ne_eqb, le-leb, lt-leb}
use Rattle.values.specs.Ranges.{between}
use Rattle.lists.specs.Lists.{every}
use Rattle.lists.proofs.Bools.{and_left, and_right, every-head, every-tail}
use Rattle.lists.proofs.Tables.{each-passes}
use Rattle.figures.specs.Digits.{numeral}
use Rattle.calendar.specs.Names.{units, month_names, weekday_names, month_name, weekday_name, short_name, first_letter}
use Rattle.formats.specs.Text.{named_units}
use Rattle.date_text.specs.Letters.{packed, letters_up_to, most_letters, Spells}

-- the first letter, and those behind it; no letter is left
letters-next : (k n : ℕ) → ¬ (n ≡ 0) → letters_up_to (suc k) n ≡ (n % 128 ∷ []) ++ letters_up_to k (n / 128)
unfolding letters_up_to
letters-next k n h = rw (ne_eqb n 0 h)

pub letters-step : (k n : ℕ) → 0 < k → ¬ (n ≡ 0) → letters_up_to k n ≡ (n % 128 ∷ []) ++ letters_up_to (k - 1) (n / 128)
letters-step zero n h g = absurd (omega arith)
letters-step (suc k) n h g = let e : suc k - 1 ≡ k = omega arith in rw e (letters-next k n g)

pub letters-none : (k : ℕ) → letters_up_to k 0 ≡ []
unfolding letters_up_to
letters-none zero = refl
letters-none (suc k) = refl

pub letters-zero : (n : ℕ) → letters_up_to 0 n ≡ []
unfolding letters_up_to
letters-zero n = refl

abbrev is_letter : ℕ → Bool
is_letter x = between 1 127 x

letter-range : (x : ℕ) → T (is_letter x) → (1 ≤ x) × (x ≤ 127)
letter-range x t = search (and_left, and_right, leb→le)

-- letters that are put into a number are its letters
packed-letters : (k : ℕ) (name : List ℕ) → T (every is_letter name) → letters_up_to k (packed name) ≡ take k name
unfolding packed letters_up_to
packed-letters zero name t = refl
packed-letters (suc k) [] t = refl
packed-letters (suc k) (x ∷ xs) t =
    let r = letter-range x (every-head is_letter x xs t) in
    let p : ℕ = packed xs in
    let h : ¬ (x + 128 * p ≡ 0) = λ e. omega (arith, r) in
    let a : (x + 128 * p) % 128 ≡ x = omega (arith, r) in
    let b : (x + 128 * p) / 128 ≡ p = omega (arith, r) in
    letters-next k (x + 128 * p) h ∙ rw (a, b, packed-letters k xs (every-tail is_letter x xs t))

abbrev is_name : List ℕ → Bool
is_name name = every is_letter name && leb (length name) 9

spells : (name : List ℕ) → T (is_name name) → Spells (packed name) name
spells name t = record {
  first = λ k. packed-letters k name (and_left (every is_letter name) _ t);
  short = leb→le (length name) 9 (and_right (every is_letter name) (leb (length name) 9) t);
}

pub month-spelt : (m letters : ℕ) → letters ≡ packed (month_name m) → Spells letters (month_name m)
unfolding month_name month_names units every
month-spelt m letters e = rw e (spells (month_name m) (each-passes (λ (s : String). is_name (units s)) month_names (pred m) "" tt tt))

pub weekday-spelt : (w letters : ℕ) → letters ≡ packed (weekday_name w) → Spells letters (weekday_name w)
unfolding weekday_name weekday_names units every
weekday-spelt w letters e = rw e (spells (weekday_name w) (each-passes (λ (s : String). is_name (units s)) weekday_names w "" tt tt))

-- no month from 13 on and no weekday from 7 on has a name
pub no_month : (m : ℕ) → 13 ≤ m → 0 ≡ packed (month_name m)
unfolding packed month_name month_names units
no_month m h = rw (get_or-eq_default month_names "" {n = pred m} (omega arith))

pub no_weekday : (w : ℕ) → 7 ≤ w → 0 ≡ packed (weekday_name w)
unfolding packed weekday_name weekday_names units
no_weekday w h = rw (get_or-eq_default weekday_names "" {n = w} h)

-- the texts of a month or a day by the length of its run
pub named-digits : (n number : ℕ) (name : List ℕ) → n ≤ 2 → named_units n number name ≡ numeral n number
unfolding named_units
named-digits n number name h = simp (le-leb n 2 h)

pub named-letters : (n number : ℕ) {letters : ℕ} {name : List ℕ} → Spells letters name → 2 < n
    → named_units n number name ≡ letters_up_to (most_letters n) letters
unfolding named_units short_name first_letter
named-letters n number {letters} {name} s h = simp (lt-leb n 2 h) (shown (eqb n 3) (eqb n 4))
  where
    shown : (a b : Bool) → cond a (take 3 name) (cond b name (take 1 name)) ≡ letters_up_to (cond a 3 (cond b 9 1)) letters
    shown true b = sym (s.first 3)
    shown false true = sym (s.first 9 ∙ take_all 9 name s.short)
    shown false false = sym (s.first 1)
