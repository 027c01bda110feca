-- Laws of digits: one or more, and the number that they write, up to a limit.
-- Assumes nothing.
use Prim.Native.Nat.{ℕ, zero, suc, ◌+◌, ◌-◌, ◌*◌, ◌≤◌, ◌<◌, min}
use mathlib.Core.Path.{◌≡◌, refl, sym, ◌∙◌}
use mathlib.Core.Bool.{Bool, true, not, ◌&&◌}
use mathlib.Core.List.{List, [], ◌∷◌, ◌++◌, map}
use native.Mathlib.Omega.{arith}
use native.Mathlib.Numerals.{add-one}
use native.Mathlib.Nat.{min-eq_left, min-eq_right}
use native.Mathlib.Decide.{dec_le}
use borrow.Author.Tests.{ne_eqb}
use lib.Dec.{T, eqb}
use lib.ListN.{length, drop, get_or, drop_of_length-le}
use lib.Seq.{drop-cons}
use Rattle.lists.specs.Lists.{every, is_empty}
use Rattle.lists.proofs.Bools.{and_left, and_right, true-T, T_true, every-head, every-tail}
use Rattle.std.specs.List.{list_all}
use Rattle.formats.specs.Tokens.{is_digit, digit_of, number_from}
use Rattle.formats.proofs.Lexing.{number-grows}
use Rattle.lexing.proofs.Scanning.{every-all, digit-unit}
use Rattle.requests.specs.Written.{is_digits}

-- ---- one digit or more
pub digits-told : (us : List ℕ) (a b : Bool) → a ≡ eqb (length us) 0 → b ≡ list_all is_digit us → (not a && b) ≡ is_digits us
unfolding is_digits is_empty
digits-told [] a b e f = rw e
digits-told (u ∷ us) a b e f = rw (e, ne_eqb (length (u ∷ us)) 0 (λ n. absurd (omega arith)), f) (sym (every-all is_digit (u ∷ us)))

-- where there are digits, each unit is one
pub digits-each : (us : List ℕ) → is_digits us ≡ true → T (every is_digit us)
unfolding is_digits
digits-each us e = and_right (not (is_empty us)) (every is_digit us) (true-T e)

pub digit-bounds : (us : List ℕ) (i : ℕ) → T (every is_digit us) → i < length us → (48 ≤ get_or us i 0) × (get_or us i 0 ≤ 57)
digit-bounds [] i d h = absurd (omega arith)
digit-bounds (u ∷ us) zero d h = digit-unit u (every-head is_digit u us d)
digit-bounds (u ∷ us) (suc i) d h = digit-bounds us i (every-tail is_digit u us d) (omega arith)

-- of two runs that are both digits
module _ (xs ys : List ℕ) (a b : Bool) (e : a ≡ is_digits xs) (f : b ≡ is_digits ys) (h : (a && b) ≡ true) where
  pub digits-first : T (every is_digit xs)
  digits-first = digits-each xs (sym e ∙ T_true a (and_left a b (true-T h)))

  pub digits-second : T (every is_digit ys)
  digits-second = digits-each ys (sym f ∙ T_true b (and_right a b (true-T h)))

-- ---- the number up to a limit
-- a number that has passed the limit stays past it
pub capped-from : (a limit : ℕ) (ds : List ℕ) → min (number_from (min a limit) ds) limit ≡ min (number_from a ds) limit
capped-from a limit ds =
    elim (dec_le a limit) [
      | yes h ↦ rw (min-eq_left h)
      | no h ↦
          let l : limit ≤ a = omega arith in
          rw (min-eq_right l) (omega (arith, number-grows limit ds, number-grows a ds))
    ]

-- what the loop of `number_behind` keeps
pub record Counting (us : List ℕ) (v limit n i : ℕ) : Type 0 where
  pub inside : i ≤ length us
  pub most : n ≤ limit
  pub same : min (number_from v (map digit_of us)) limit ≡ min (number_from n (map digit_of (drop i us))) limit

pub counting-start : (us : List ℕ) (v limit : ℕ) → v ≤ limit → Counting us v limit v 0
counting-start us v limit h = record { inside = omega arith; most = h; same = refl }

module _ (us : List ℕ) (v limit n i : ℕ) (inv : Counting us v limit n i) where
  pub counting-step : i < length us → (m d : ℕ) → d ≡ get_or us i 0 - 48 → m ≡ min (10 * n + d) limit → Counting us v limit m (i + 1)
  unfolding number_from digit_of
  counting-step h m d e f =
      record {
        inside = omega arith;
        most = omega arith;
        same = inv.same ∙ rw (add-one i, drop-cons us i 0 h, ← e, f) (sym (capped-from (10 * n + d) limit (map digit_of (drop (suc i) us))));
      }

  pub counting-end : length us ≤ i → n ≡ min (number_from v (map digit_of us)) limit
  unfolding number_from
  counting-end h = let s = rw (drop_of_length-le us {i = i} h) at inv.same in let m = inv.most in omega arith

-- the number of digits behind others
pub numeral-behind : (v : ℕ) (us vs : List ℕ) → number_from v (map digit_of (us ++ vs)) ≡ number_from (number_from v (map digit_of us)) (map digit_of vs)
unfolding number_from
numeral-behind v [] vs = refl
numeral-behind v (u ∷ us) vs = numeral-behind (10 * v + digit_of u) us vs
