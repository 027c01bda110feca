-- Laws of written values: what a number and an instant are read as.
-- Assumes nothing.
use Prim.Native.Nat.{ℕ, suc, ◌+◌, ◌-◌, ◌^◌, ◌≤◌, min}
use mathlib.Core.Path.{◌≡◌, refl, ◌∙◌}
use mathlib.Core.Bool.{Bool, true, false, ◌&&◌, ◌||◌}
use mathlib.Core.List.{List, [], ◌++◌, map, append-nil}
use native.Mathlib.Omega.{arith}
use native.Mathlib.Numerals.{add-one}
use borrow.Author.Tests.{eq-eqb, ne_eqb}
use mir.Syntax.{w64}
use mir.Val.{to_z, of_z}
use lib.Dec.{eqb}
use lib.IntN.{ℤ, pos, nat_abs}
use lib.ListN.{length, take, drop, drop_of_length-le}
use Rattle.values.specs.declared.Value.TheVariants as value
use Rattle.lists.specs.Lists.{is_empty}
use Rattle.lists.proofs.Bools.{by_cases}
use Rattle.figures.proofs.Sign.{back, nat_abs-negℤ}
use Rattle.calendar.specs.Names.{units}
use Rattle.formats.specs.Tokens.{before, starts_with, digit_of, number_from}
use Rattle.lexing.proofs.Scanning.{rest_all}
use Rattle.std.proofs.Common.{Some, None}
use Rattle.requests.specs.Written.{is_digits, numeral_up_to, signed_by, unsigned_of, number_of, instant_of}
use Rattle.requests.proofs.Numerals.{capped-from, numeral-behind}

-- all that is behind the unit at n
pub behind-mark : (us : List ℕ) (n : ℕ) → take (length us - (n + 1)) (drop (n + 1) us) ≡ drop (suc n) us
behind-mark us n = rest_all us (n + 1) ∙ rw (add-one n)

nat_abs-signed : (negative : Bool) (n : ℕ) → nat_abs (signed_by negative n) ≡ n
unfolding signed_by
nat_abs-signed true n = nat_abs-negℤ (pos n)
nat_abs-signed false n = refl

-- a coefficient of at most the limit is in the width of its type
pub coefficient-is : (negative : Bool) (n : ℕ) (c : ℤ) → n ≤ 10 ^ 15 → c ≡ signed_by negative n → to_z w64 (of_z w64 c) ≡ signed_by negative n
coefficient-is negative n c h e =
    back w64 c (rw (e, nat_abs-signed negative n) (omega arith)) ∙ e

-- ---- a number behind its sign, with n units before its point
module _ (negative : Bool) (us : List ℕ) (n : ℕ) (e : n ≡ before 46 us) where
  pub unsigned-none : is_digits (take n us) ≡ false → None ≡ unsigned_of negative us
  unfolding unsigned_of
  unsigned-none f = rw (← e, f)

  pub unsigned-bad : is_digits (take n us) ≡ true → (n ≡ length us → ⊥) → is_digits (drop (suc n) us) ≡ false → None ≡ unsigned_of negative us
  unfolding unsigned_of
  unsigned-bad f h g = rw (← e, f, ne_eqb n (length us) h, g)

  well-formed : is_digits (take n us) ≡ true → (eqb n (length us) || is_digits (drop (suc n) us)) ≡ true
      → (m : ℕ) → m ≡ numeral_up_to (10 ^ 15) (take n us ++ drop (suc n) us)
      → Some (value.Number (record { coefficient = signed_by negative m; scale = length (drop (suc n) us) })) ≡ unsigned_of negative us
  unfolding unsigned_of
  well-formed f g m k = rw (← e, f, g, k)

  module _ (f : is_digits (take n us) ≡ true) (w : ℕ) (k : w ≡ min (number_from 0 (map digit_of (take n us))) (10 ^ 15)) (c : ℤ) where
    pub unsigned-whole : n ≡ length us → c ≡ signed_by negative w
        → Some (value.Number (record { coefficient = c; scale = 0 })) ≡ unsigned_of negative us
    unfolding numeral_up_to
    unsigned-whole h q =
        let z : drop (suc n) us ≡ [] = drop_of_length-le us {i = suc n} (omega arith) in
        rw q (rw z at (well-formed f (rw (eq-eqb n (length us) h)) w (k ∙ rw (z, append-nil))))

    pub unsigned-read : is_digits (drop (suc n) us) ≡ true → (m : ℕ) → m ≡ min (number_from w (map digit_of (drop (suc n) us))) (10 ^ 15)
        → c ≡ signed_by negative m → (s : ℕ) → s ≡ length (drop (suc n) us)
        → Some (value.Number (record { coefficient = c; scale = s })) ≡ unsigned_of negative us
    unfolding numeral_up_to
    unsigned-read g m l q s p =
        let ds : List ℕ = map digit_of (drop (suc n) us) in
        let all : number_from 0 (map digit_of (take n us ++ drop (suc n) us)) ≡ number_from (number_from 0 (map digit_of (take n us))) ds =
        numeral-behind 0 (take n us) (drop (suc n) us) in
        rw (q, p)
        (well-formed f (rw g (by_cases (eqb n (length us)) (λ b. rw b) (λ b. rw b))) m
        (l ∙ rw (k, all) (capped-from (number_from 0 (map digit_of (take n us))) (10 ^ 15) ds)))

pub number-minus : (us : List ℕ) → starts_with (units "-") us ≡ true → unsigned_of true (drop 1 us) ≡ number_of us
unfolding number_of
number-minus us e = rw e

pub number-plain : (us : List ℕ) → starts_with (units "-") us ≡ false → unsigned_of false us ≡ number_of us
unfolding number_of
number-plain us e = rw e

-- both sides of a mark are digits
pub both-digits : (us : List ℕ) (n : ℕ) (a b t : Bool) → a ≡ is_digits (take n us) → b ≡ is_digits (take (length us - (n + 1)) (drop (n + 1) us))
    → (a && b) ≡ t → (is_digits (take n us) && is_digits (drop (suc n) us)) ≡ t
both-digits us n a b t e f h = rw (← e, ← behind-mark us n, ← f) h

-- ---- an instant, with n units before its solidus
module _ (us : List ℕ) (n : ℕ) (e : n ≡ before 47 us) where
  pub instant-bad : (is_digits (take n us) && is_digits (drop (suc n) us)) ≡ false → None ≡ instant_of us
  unfolding instant_of
  instant-bad f = rw (← e, f)

  pub instant-unmarked : n ≡ length us → None ≡ instant_of us
  unfolding is_digits is_empty
  instant-unmarked h =
      let z : drop (suc n) us ≡ [] = drop_of_length-le us {i = suc n} (omega arith) in
      instant-bad (rw z (by_cases (is_digits (take n us)) (λ b. rw b) (λ b. rw b)))

  pub instant-read : (is_digits (take n us) && is_digits (drop (suc n) us)) ≡ true
      → (d m : ℕ) → d ≡ numeral_up_to (10 ^ 9) (take n us) → m ≡ numeral_up_to (10 ^ 9) (drop (suc n) us)
      → Some (value.Instant (record { 0 = d }) (record { 0 = m })) ≡ instant_of us
  unfolding instant_of
  instant-read f d m k l = rw (← e, f, k, l)
