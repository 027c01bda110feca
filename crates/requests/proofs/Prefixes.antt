-- Three lines of 2,048 bytes with their line feeds, and one byte more: 6,148 bytes of an input decide what it asks.
-- Assumes nothing.
use Prim.Native.Nat.{ℕ, zero, suc, ◌+◌, ◌-◌, ◌≤◌, ◌<◌, min}
use mathlib.Core.Path.{◌≡◌, refl, sym, ap, ◌∙◌}
use mathlib.Core.Bool.{false, ◌&&◌}
use mathlib.Core.List.{List, [], ◌∷◌}
use native.Mathlib.Omega.{arith}
use native.Mathlib.Nat.{zero-min, min-zero, suc-min-suc, min-eq_right}
use native.Mathlib.Decide.{dec_le}
use borrow.Author.Tests.{lt-ltb, le-ltb, ltb-true, ltb-false}
use lib.Dec.{ltb, eqb}
use lib.ListN.{length, take, drop, length-take}
use lib.Seq.{take-take, length-take-le}
use Rattle.std.proofs.Common.{Option, Some, None}
use Rattle.values.specs.declared.Ask.{Ask}
use Rattle.values.specs.declared.Value.{Value}
use Rattle.requests.specs.declared.written.Sort.{Sort}
use Rattle.values.specs.Ranges.{asked}
use Rattle.lists.specs.Lists.{is_empty}
use Rattle.lists.proofs.Bools.{by_cases}
use Rattle.calendar.specs.Names.{units}
use Rattle.formats.specs.Tokens.{before}
use Rattle.requests.specs.Lines.{is_line, Field, field, missing, field_of}
use Rattle.requests.specs.Written.{sort_of, value_of, text_of}
use Rattle.requests.specs.Request.{Request, from_end, from_value, from_third, from_kind, from_second, from_first, request_of}
use Rattle.requests.proofs.Lining.{line-long, drop-take}

before-take : (u m : ℕ) (us : List ℕ) → before u (take m us) ≡ min m (before u us)
unfolding before
before-take u zero us = sym (zero-min _)
before-take u (suc m) [] = sym (min-zero (suc m))
before-take u (suc m) (v ∷ vs) =
    by_cases (eqb v u)
    (λ e. rw e (sym (min-zero (suc m))))
    (λ e. rw e (ap suc (before-take u m vs) ∙ sym (suc-min-suc m (before u vs))))

-- a line that does not end in 2,048 bytes is none
line-late : (name us : List ℕ) → 2048 < before 10 us → field_of name us ≡ missing
unfolding field_of
line-late name us h =
    let n : ℕ = before 10 us in
    by_cases (ltb n (length us))
    (λ e.
    let size : length (take n us) ≡ n = length-take-le n us (omega (arith, ltb-true n (length us) e)) in
    let long : is_line name (take n us) ≡ false = sym (line-long name (take n us) (omega arith)) in
    rw (e, long))
    (λ e. rw e)

-- a part of more than n units, or the whole
ltb-take : (n m : ℕ) (us : List ℕ) → n < m → ltb n (length (take m us)) ≡ ltb n (length us)
ltb-take n m us h =
    by_cases (ltb n (length us))
    (λ e. rw e (lt-ltb n (length (take m us)) (rw length-take (omega (arith, ltb-true n (length us) e)))))
    (λ e. rw e (le-ltb n (length (take m us)) (rw length-take (omega (arith, ltb-false n (length us) e)))))

-- a part of at least 2,049 bytes has the same first line, and all its other bytes behind it
module _ (F : Field → Request) (name us : List ℕ) (m : ℕ) (h : 2049 ≤ m)
    (same : (c r : List ℕ) (j : ℕ) → m ≤ j + 2049 → F (field c (take j r)) ≡ F (field c r)) where
  early : before 10 us ≤ 2048 → F (field_of name (take m us)) ≡ F (field_of name us)
  unfolding field_of
  early l =
      let n : ℕ = before 10 us in
      let there : before 10 (take m us) ≡ n = before-take 10 m us ∙ min-eq_right (omega arith) in
      let line : take n (take m us) ≡ take n us = take-take n m us (omega arith) in
      rw (there, line, ltb-take n m us (omega arith), drop-take (suc n) m us)
      (by_cases (ltb n (length us) && is_line name (take n us))
      (λ e. rw e (same (drop (length name) (take n us)) (drop (suc n) us) (m - suc n) (omega arith)))
      (λ e. rw e))

  field-prefix : F (field_of name (take m us)) ≡ F (field_of name us)
  field-prefix =
      elim (dec_le (before 10 us) 2048) [
        | yes l ↦ early l
        | no l ↦
            let late : 2048 < before 10 (take m us) = rw (before-take 10 m us) (omega arith) in
            ap F (line-late name (take m us) late ∙ sym (line-late name us (omega arith)))
      ]

-- ---- what is left to read of each line on
end-prefix : (code : List ℕ) (ask : Ask) (text rest : List ℕ) (j : ℕ) → 1 ≤ j → from_end code ask text (take j rest) ≡ from_end code ask text rest
unfolding from_end is_empty
end-prefix code ask text rest zero h = absurd (omega arith)
end-prefix code ask text [] (suc j) h = refl
end-prefix code ask text (u ∷ us) (suc j) h = refl

value-prefix : (code : List ℕ) (o : Option Value) (text rest : List ℕ) (j : ℕ) → 1 ≤ j → from_value code o text (take j rest) ≡ from_value code o text rest
unfolding from_value
value-prefix code None text rest j h = refl
value-prefix code (Some v) text rest j h = end-prefix code (asked v) text rest j h

kind-prefix : (code : List ℕ) (k : Option Sort) (rest : List ℕ) (j : ℕ) → 2050 ≤ j → from_kind code k (take j rest) ≡ from_kind code k rest
unfolding from_kind from_third
kind-prefix code None rest j h = refl
kind-prefix code (Some s) rest j h =
    field-prefix (from_third code s) (units "value=") rest j (omega arith)
    (λ c r i l. value-prefix code (value_of s c) (text_of s c) r i (omega arith))

second-prefix : (code rest : List ℕ) (j : ℕ) → 4099 ≤ j
    → from_second code (field_of (units "kind=") (take j rest)) ≡ from_second code (field_of (units "kind=") rest)
unfolding from_second
second-prefix code rest j h =
    field-prefix (from_second code) (units "kind=") rest j (omega arith) (λ c r i l. kind-prefix code (sort_of c) r i (omega arith))

pub request-prefix : (input : List ℕ) (n : ℕ) → 6148 ≤ n → request_of (take n input) ≡ request_of input
unfolding request_of from_first
request-prefix input n h = field-prefix from_first (units "code=") input n (omega arith) (λ c r i l. second-prefix c r i (omega arith))
