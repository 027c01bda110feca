-- A condition as a table has it, from its comparison, its sign and its digits.
-- Assumes nothing.
use Prim.Native.Nat.{ℕ, ◌+◌, ◌-◌, ◌*◌, ◌^◌, ◌≤◌, ◌<◌, min}
use mathlib.Core.Path.{◌≡◌, refl, sym, ap, ◌∙◌}
use mathlib.Core.Bool.{Bool, true, false, not, ◌&&◌}
use mathlib.Core.List.{List, map}
use mathlib.Core.Option.{some}
use native.Mathlib.Omega.{arith}
use native.Mathlib.Nat.{pow-le-pow_right}
use lib.Dec.{leb, ltb, eqb}
use borrow.Author.Tests.{ltb-true, ltb-false, le-leb, lt-leb, ne_eqb, eq-eqb, eqb-false}
use lib.ListN.{length, take, drop, length-drop, length-map, drop_of_length-le}
use lib.Seq.{length-take-le, take_all}
use Rattle.lists.specs.Lists.{every}
use Rattle.lists.proofs.Bools.{by_cases}
use Rattle.formats.specs.Tokens.{leading, is_digit, digit_of, number_from}
use Rattle.formats.specs.Kinds.{millionths_of}
use Rattle.formats.specs.Limits.{written_within}
use Rattle.tables.specs.Encode.{comparison_word}
use Rattle.tables.specs.Decode.{comparison_at}
use Rattle.tables.proofs.BackEntries.{span-at}
use Rattle.std.proofs.Common.{Some, None}
use Rattle.std.specs.List.{prefix_len}
use Rattle.std.proofs.lemmas.Option.{none-some, same_Some}
use Rattle.bodies.specs.Conditions.{whole_units, decimal_units, written_of, padded_number, Measures, AmountOf}
use Rattle.formats.proofs.Lexing.{leading-most}
use Rattle.lexing.proofs.Scanning.{leading-prefix}
use Rattle.bodies.proofs.Numbers.{leading-digits, padded-number}

pub word_back : (n : ℕ) → n ≤ 6 → eqb n 0 ≡ false → n ≡ comparison_word (comparison_at n)
unfolding comparison_word comparison_at
word_back n h e =
    let some = eqb-false n 0 e in
    span-at (λ (m : ℕ). m ≡ comparison_word (comparison_at m)) 1 6 n (refl, (refl, (refl, (refl, (refl, (refl, tt)))))) (omega arith) (omega arith)

-- the sign of a number that is not zero
sign_of : (n w m : ℕ) → n ≡ w * 10 ^ 6 + m → ltb 0 (w + m) ≡ not (eqb n 0)
sign_of n w m e = by_cases (ltb 0 (w + m))
    (λ t. let p = ltb-true 0 (w + m) t in rw (t, ne_eqb n 0 (λ z. omega arith)))
    (λ t. let p = ltb-false 0 (w + m) t in rw (t, eq-eqb n 0 (omega arith)))

module _ (us : List ℕ) (n b : ℕ) (g : n ≡ prefix_len is_digit us) (f : b ≡ min (length us) (n + 1)) where
  e : n ≡ leading is_digit us
  e = g ∙ sym (leading-prefix is_digit us)

  pub whole_length : n ≡ length (take n us)
  whole_length = let d = e in let m = leading-most is_digit us in sym (length-take-le n us (omega arith))

  whole_part_lem : take n us ≡ whole_units us
  unfolding whole_units
  whole_part_lem = rw e

  pub whole-digits : every is_digit (take n us) ≡ true
  whole-digits = rw e (leading-digits us)

  pub decimals-part : take (length us - b) (drop b us) ≡ decimal_units us
  unfolding decimal_units
  decimals-part =
      take_all (length us - b) (drop b us) (rw (length-drop b us) (omega arith))
      ∙ rw (← e) (by_cases (ltb n (length us))
      (λ t. let h = ltb-true n (length us) t in let z : b ≡ n + 1 = omega arith in rw z)
      (λ t. let h = ltb-false n (length us) t in drop_of_length-le us {i = b} (omega arith) ∙ sym (drop_of_length-le us {i = n + 1} (omega arith))))

  module _ (negative : Bool) (operator : ℕ) where
    within-limits : written_within (some (written_of operator negative us)) ≡ (leb n 9 && leb (length (take (length us - b) (drop b us))) 6)
    unfolding written_within written_of
    within-limits =
        rw (length-map (whole_units us) digit_of, length-map (decimal_units us) digit_of, ← whole_part_lem, ← whole_length, decimals-part)

    beyond : (leb n 9 && leb (length (take (length us - b) (drop b us))) 6) ≡ false → AmountOf (written_of operator negative us) None
    beyond t = record { within = sym (within-limits ∙ t); measures = λ a z. absurd (none-some a z) }

    pub beyond-whole : 9 < n → AmountOf (written_of operator negative us) None
    beyond-whole h = beyond (rw (lt-leb n 9 h))

    pub beyond-decimals : n ≤ 9 → 6 < length (take (length us - b) (drop b us)) → AmountOf (written_of operator negative us) None
    beyond-decimals h k = beyond (rw (le-leb n 9 h, lt-leb (length (take (length us - b) (drop b us))) 6 k))

    module _ (h : n ≤ 9) (k : length (take (length us - b) (drop b us)) ≤ 6) (w m : ℕ) (p : w ≡ padded_number n (take n us)) (q : w < 10 ^ n)
        (s : m ≡ padded_number 6 (take (length us - b) (drop b us))) (t : m < 10 ^ 6) where
      whole-small : w < 10 ^ 9
      whole-small = let z : 10 ^ n ≤ 10 ^ 9 = pow-le-pow_right {n = 10} (omega arith) {i = n} {j = 9} h in omega arith

      written-number : millionths_of (written_of operator negative us) ≡ w * 10 ^ 6 + m
      unfolding millionths_of written_of
      written-number =
          let l = whole_length in
          let d = ap length decimals-part in
          let z : n - length (take n us) ≡ 0 = omega arith in
          let whole : w ≡ number_from 0 (map digit_of (take n us)) = p ∙ padded-number n (take n us) (omega arith) ∙ rw z (omega arith) in
          let decimals : m ≡ number_from 0 (map digit_of (decimal_units us)) * 10 ^ (6 - length (decimal_units us))
          = s ∙ ap (padded_number 6) decimals-part ∙ padded-number 6 (decimal_units us) (omega arith) in
          rw (length-map (decimal_units us) digit_of, ← whole_part_lem, ← whole, ← decimals)

      measured : Measures (written_of operator negative us) (record { negative = negative && ltb 0 (w + m); whole = w; millionths = m })
      unfolding written_of
      measured =
          record {
            number = written-number;
            negative = ap (λ (c : Bool). negative && c) (sign_of (millionths_of (written_of operator negative us)) w m written-number);
            whole = whole-small;
            millionths = t;
          }

      pub amount-within : AmountOf (written_of operator negative us) (Some (record { negative = negative && ltb 0 (w + m); whole = w; millionths = m }))
      amount-within =
          record {
            within = sym (within-limits ∙ rw (le-leb n 9 h, le-leb (length (take (length us - b) (drop b us))) 6 k));
            measures = λ a z. rw (← (same_Some _ _ z)) measured;
          }
