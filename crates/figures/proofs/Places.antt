-- Laws of a number's digits read place by place.
-- Assumes nothing.
use mathlib.Core.Path.{◌≡◌, refl, sym, ap, ap₂, ◌∙◌}
use mathlib.Core.Bool.{Bool, true, false}
use mathlib.Core.Logic.{⊎_elim, ◌↔◌}
use mathlib.Core.List.{List}
use Prim.Native.Nat.{ℕ, zero, suc, ◌+◌, ◌-◌, ◌*◌, ◌/◌, ◌%◌, ◌^◌, ◌≤◌, ◌<◌}
use native.Mathlib.Nat.{mul_comm, mul_assoc, mul-mod_left, div-div-eq-div-mul, div-eq_of_lt, zero-div, mod-one, div-add-mod', mul-le-mul_left, zero-mul}
use native.Mathlib.Numerals.{add-one}
use native.Mathlib.Omega.{arith}
use borrow.Author.Tests.{leb-true, leb-false, eqb-true, eqb-false, eq-eqb, ne_eqb}
use lib.Dec.{leb, ltb, eqb}
use lib.ListN.{get_or}
use Rattle.lists.proofs.Bools.{by_cases, cond-case}
use Rattle.figures.specs.Digits.{digit, figures}
use Rattle.figures.specs.Places.{places_used, lowest_from, lowest_place}
use Rattle.figures.proofs.Tens.{ten-pos, ten-split}
use Rattle.figures.proofs.Digits.{mod-next, div-next, figures-at}
use Rattle.figures.proofs.Filling.{lt-or-le}

-- nothing from 10^i on, nothing from a higher place on
pub div-higher : (n i q : ℕ) → i ≤ q → n / 10 ^ i ≡ 0 → n / 10 ^ q ≡ 0
div-higher n i q h e =
    ap (λ (x : ℕ). n / x) (ten-split i q h ∙ mul_comm (10 ^ (q - i)) (10 ^ i))
    ∙ sym (div-div-eq-div-mul n (10 ^ i) (10 ^ (q - i)))
    ∙ ap (λ (x : ℕ). x / 10 ^ (q - i)) e
    ∙ zero-div (10 ^ (q - i))

-- nothing below 10^k, nothing below a lower place
pub mod-lower : (n i k : ℕ) → i ≤ k → n % 10 ^ k ≡ 0 → n % 10 ^ i ≡ 0
mod-lower n i k h e =
    let q : ℕ = n / 10 ^ k in
    let f : n ≡ q * 10 ^ k = omega (arith, div-add-mod' n (10 ^ k)) in
    let g : n ≡ q * 10 ^ (k - i) * 10 ^ i = f ∙ ap (λ (x : ℕ). q * x) (ten-split i k h) ∙ sym (mul_assoc q (10 ^ (k - i)) (10 ^ i)) in
    ap (λ (x : ℕ). x % 10 ^ i) g ∙ mul-mod_left (q * 10 ^ (k - i)) (10 ^ i)

-- a digit that is 0 leaves the quotient 0, and the remainder 0
pub div-zero-next : (n k : ℕ) → digit n k ≡ 0 → n / 10 ^ suc k ≡ 0 → n / 10 ^ k ≡ 0
div-zero-next n k d e = omega (arith, div-next n k)

pub div-zero-digit : (n k : ℕ) → n / 10 ^ k ≡ 0 → digit n k ≡ 0
div-zero-digit n k e = omega (arith, div-next n k)

pub mod-zero-next : (n k : ℕ) → digit n k ≡ 0 → n % 10 ^ k ≡ 0 → n % 10 ^ suc k ≡ 0
mod-zero-next n k d e = mod-next n k ∙ ap₂ (λ (x y : ℕ). x * 10 ^ k + y) d e ∙ omega (arith, zero-mul (10 ^ k))

pub mod-zero-digit : (n k : ℕ) → n % 10 ^ suc k ≡ 0 → digit n k ≡ 0
mod-zero-digit n k e = omega (arith, mod-next n k, mul-le-mul_left {m = 1} {n = 10 ^ k} (digit n k) (ten-pos k))

digit_at_lem : (n k : ℕ) (b : Bool) → k < 40 → eqb (get_or (figures n) k 0) 0 ≡ b → eqb (digit n k) 0 ≡ b
digit_at_lem n k b h e = ap (λ (x : ℕ). eqb x 0) (sym (figures-at n k h)) ∙ e

used-zero : (n k q : ℕ) → k ≤ 40 → n / 10 ^ k ≡ 0 → places_used k (figures n) ≤ q → n / 10 ^ q ≡ 0
unfolding places_used
used-zero n zero q h e g = div-higher n 0 q (omega arith) e
used-zero n (suc k) q h e g =
    cond-case (λ (r : ℕ). r ≤ q → n / 10 ^ q ≡ 0) (eqb (get_or (figures n) k 0) 0)
    (λ t. used-zero n k q (omega arith) (div-zero-next n k (eqb-true (digit n k) 0 (digit_at_lem n k true h t)) e))
    (λ t b. div-higher n (suc k) q b e)
    g

zero-used : (n k q : ℕ) → k ≤ 40 → n / 10 ^ k ≡ 0 → n / 10 ^ q ≡ 0 → places_used k (figures n) ≤ q
unfolding places_used
zero-used n zero q h e g = omega arith
zero-used n (suc k) q h e g =
    cond-case (λ (r : ℕ). r ≤ q) (eqb (get_or (figures n) k 0) 0)
    (λ t. zero-used n k q (omega arith) (div-zero-next n k (eqb-true (digit n k) 0 (digit_at_lem n k true h t)) e) g)
    (λ t. ⊎_elim (λ (a : k < q). a)
    (λ (b : q ≤ k). absurd (eqb-false (digit n k) 0 (digit_at_lem n k false h t) (div-zero-digit n k (div-higher n q k b g))))
    (lt-or-le k q))

-- a test and a proposition that it is the same as
leb-is : (a b x y : ℕ) → (a ≤ b → x ≡ y) → (x ≡ y → a ≤ b) → leb a b ≡ eqb x y
leb-is a b x y f g =
    by_cases (leb a b)
    (λ t. t ∙ sym (eq-eqb x y (f (leb-true a b t))))
    (λ t. t ∙ sym (ne_eqb x y (λ e. less (leb-false a b t) (g e))))
  where
    less : b < a → a ≤ b → ⊥
    less h k = omega arith

module _ (n : ℕ) (h : n < 10 ^ 40) where
  none_above : n / 10 ^ 40 ≡ 0
  none_above = div-eq_of_lt h

  -- an insignificant integer zero: nothing from 10^q on
  pub used-iff : (q : ℕ) → (places_used 40 (figures n) ≤ q) ↔ (n / 10 ^ q ≡ 0)
  used-iff q = (used-zero n 40 q (omega arith) none_above, zero-used n 40 q (omega arith) none_above)

  pub used-test : (q : ℕ) → leb (places_used 40 (figures n)) q ≡ eqb (n / 10 ^ q) 0
  used-test q = leb-is (places_used 40 (figures n)) q (n / 10 ^ q) 0 (used-iff q).0 (used-iff q).1

pub used-most : (k : ℕ) (l : List ℕ) → places_used k l ≤ k
unfolding places_used
used-most zero l = omega arith
used-most (suc k) l =
    let ih = used-most k l in
    cond-case (λ (r : ℕ). r ≤ suc k) (eqb (get_or l k 0) 0) (λ t. omega arith) (λ t. omega arith)

-- of the f places from k on, where nothing stands below 10^k
lowest-zero : (n f k q : ℕ) → f + k ≡ 40 → n % 10 ^ k ≡ 0 → q < 40 → q < lowest_from f k (figures n) → n % 10 ^ (q + 1) ≡ 0
unfolding lowest_from
lowest-zero n zero k q s e most h = mod-lower n (q + 1) k (omega arith) e
lowest-zero n (suc f) k q s e most h =
    cond-case (λ (r : ℕ). q < r → n % 10 ^ (q + 1) ≡ 0) (eqb (get_or (figures n) k 0) 0)
    (λ t. lowest-zero n f (suc k) q (omega arith) (mod-zero-next n k (eqb-true (digit n k) 0 (digit_at_lem n k true (omega arith) t)) e) most)
    (λ t b. mod-lower n (q + 1) k (omega arith) e)
    h

zero-lowest : (n f k q : ℕ) → f + k ≡ 40 → n % 10 ^ k ≡ 0 → q < 40 → n % 10 ^ (q + 1) ≡ 0 → q < lowest_from f k (figures n)
unfolding lowest_from
zero-lowest n zero k q s e most g = omega arith
zero-lowest n (suc f) k q s e most g =
    cond-case (λ (r : ℕ). q < r) (eqb (get_or (figures n) k 0) 0)
    (λ t. zero-lowest n f (suc k) q (omega arith) (mod-zero-next n k (eqb-true (digit n k) 0 (digit_at_lem n k true (omega arith) t)) e) most g)
    (λ t. ⊎_elim (λ (a : q < k). a)
    (λ (b : k ≤ q). absurd (eqb-false (digit n k) 0 (digit_at_lem n k false (omega arith) t) (mod-zero-digit n k (mod-lower n (suc k) (q + 1) (omega arith) g))))
    (lt-or-le q k))

module _ (n : ℕ) where
  -- an insignificant decimal zero: nothing up to 10^q
  pub lowest-iff : (q : ℕ) → q < 40 → (q < lowest_place (figures n)) ↔ (n % 10 ^ (q + 1) ≡ 0)
  unfolding lowest_place
  lowest-iff q h = (lowest-zero n 40 0 q (omega arith) (mod-one n) h, zero-lowest n 40 0 q (omega arith) (mod-one n) h)

  pub lowest-test : (q : ℕ) → q < 40 → ltb q (lowest_place (figures n)) ≡ eqb (n % 10 ^ (q + 1)) 0
  lowest-test q h = leb-is (suc q) (lowest_place (figures n)) (n % 10 ^ (q + 1)) 0 (lowest-iff q h).0 (lowest-iff q h).1

-- a search that goes one place on
used_step : (j : ℕ) (l : List ℕ) → get_or l j 0 ≡ 0 → places_used j l ≡ places_used (suc j) l
unfolding places_used
used_step j l d = rw (eq-eqb (get_or l j 0) 0 d) refl

used-stop : (j : ℕ) (l : List ℕ) → (get_or l j 0 ≡ 0 → ⊥) → suc j ≡ places_used (suc j) l
unfolding places_used
used-stop j l d = rw (ne_eqb (get_or l j 0) 0 d) refl

-- a step of the two loops, k being the place that they have reached
module _ (k : ℕ) (l : List ℕ) (h : 0 < k) where
  before : suc (k - 1) ≡ k
  before = omega arith

  pub used-here : (get_or l (k - 1) 0 ≡ 0 → ⊥) → k ≡ places_used k l
  used-here d = sym before ∙ used-stop (k - 1) l d ∙ ap (λ (x : ℕ). places_used x l) before

  pub used-below : get_or l (k - 1) 0 ≡ 0 → places_used (k - 1) l ≡ places_used k l
  used-below d = used_step (k - 1) l d ∙ ap (λ (x : ℕ). places_used x l) before

module _ (k : ℕ) (l : List ℕ) (h : k < 40) where
  after : 40 - k ≡ suc (40 - (k + 1))
  after = omega arith

  pub lowest-here : (get_or l k 0 ≡ 0 → ⊥) → k ≡ lowest_from (40 - k) k l
  unfolding lowest_from
  lowest-here d = rw (after, ne_eqb (get_or l k 0) 0 d)

  pub lowest-further : get_or l k 0 ≡ 0 → lowest_from (40 - (k + 1)) (k + 1) l ≡ lowest_from (40 - k) k l
  unfolding lowest_from
  lowest-further d = rw (after, eq-eqb (get_or l k 0) 0 d, add-one k)

pub used-end : (k : ℕ) (l : List ℕ) → k ≤ 0 → 0 ≡ places_used k l
unfolding places_used
used-end k l h = let e : k ≡ 0 = omega arith in rw e refl

pub lowest-end : (k : ℕ) (l : List ℕ) → k ≤ 40 → 40 ≤ k → 40 ≡ lowest_from (40 - k) k l
unfolding lowest_from
lowest-end k l h g = let e : k ≡ 40 = omega arith in rw e refl

-- what a place says of the number that the digits stand for
pub used-number : {r : ℕ} {l : List ℕ} → r ≡ places_used 40 l
    → (n : ℕ) → n < 10 ^ 40 → l ≡ figures n → (q : ℕ) → leb r q ≡ eqb (n / 10 ^ q) 0
used-number e n h f q = ap (λ (x : ℕ). leb x q) (e ∙ ap (places_used 40) f) ∙ used-test n h q

pub lowest-number : {r : ℕ} {l : List ℕ} → r ≡ lowest_place l
    → (n : ℕ) → l ≡ figures n → (q : ℕ) → q < 40 → ltb q r ≡ eqb (n % 10 ^ (q + 1)) 0
lowest-number e n f q h = ap (λ (x : ℕ). ltb q x) (e ∙ ap lowest_place f) ∙ lowest-test n q h
