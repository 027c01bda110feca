-- Laws of lines: tests of every unit, a line at a place of the input, units as bytes.
-- Assumes nothing.
use Prim.Native.Nat.{ℕ, zero, suc, ◌+◌, ◌-◌, ◌≤◌, ◌<◌}
use mathlib.Core.Path.{◌≡◌, sym, ap, ◌∙◌}
use mathlib.Core.Bool.{true, false, ◌&&◌}
use mathlib.Core.List.{List, [], ◌∷◌, ◌++◌, map}
use native.Mathlib.Omega.{arith}
use native.Mathlib.Numerals.{add-one}
use native.Mathlib.Nat.{add-sub_cancel_left, add-suc, sub-zero, zero-sub, suc-sub-suc}
use borrow.Author.Tests.{lt-ltb, le-ltb, lt-leb, leb-true}
use lib.Dec.{leb, ltb, eqb}
use lib.ListN.{length, take, drop, get_or, length-drop}
use lib.Seq.{drop-drop, length-take-le, take-nil}
use Rattle.lists.specs.Lists.{every}
use Rattle.lists.proofs.Bools.{by_cases, and_left, and_right, true-T, T_true}
use Rattle.formats.specs.Tokens.{before, starts_with}
use Rattle.writing.proofs.Laws.{drop-first}
use Rattle.formats.proofs.Lexing.{word-most}
use Rattle.std.proofs.Common.{Option, Some, None, MatchOption, position, unwrap_or}
use Rattle.lexing.proofs.Scanning.{position-before}
use Rattle.requests.specs.Bytes.{low_byte}
use Rattle.requests.specs.Lines.{is_ascii, is_line, missing, field_of}
use Rattle.requests.specs.Reads.{part_of, Content}

-- ---- a line
pub line-long : (name line : List ℕ) → 2048 < length line → false ≡ is_line name line
unfolding is_line
line-long name line h = rw (lt-leb (length line) 2048 h)

-- what a line's test says
pub line-says : (name line : List ℕ) → is_line name line ≡ true → (length line ≤ 2048) × (length name ≤ length line)
unfolding is_line
line-says name line e =
    let t = true-T e in
    let l = and_left (leb (length line) 2048 && every is_ascii line) (starts_with name line) t in
    let r = and_right (leb (length line) 2048 && every is_ascii line) (starts_with name line) t in
    (leb-true (length line) 2048 (T_true _ (and_left (leb (length line) 2048) (every is_ascii line) l)), word-most name line (T_true _ r))

-- what is behind the first units of a part
pub drop-take : (k n : ℕ) (us : List ℕ) → drop k (take n us) ≡ take (n - k) (drop k us)
drop-take zero n us = rw (sub-zero n)
drop-take (suc k) zero us = rw (zero-sub (suc k))
drop-take (suc k) (suc n) [] = sym (take-nil (suc n - suc k))
drop-take (suc k) (suc n) (u ∷ us) = drop-take k n us ∙ ap (λ (m : ℕ). take m (drop k us)) (sym (suc-sub-suc n k))

-- ---- where the first of a unit stands
module _ (u : ℕ) (us : List ℕ) (o : Option ℕ) (e : o ≡ position (λ (v : ℕ). eqb v u) us) where
  pub marked : (n : ℕ) → o ≡ Some n → (n ≡ before u us) × (n < length us)
  marked n f = rw f at (position-before u us o e)

  pub unmarked : o ≡ None → before u us ≡ length us
  unmarked f = rw f at (position-before u us o e)

  -- or behind all, where it does not
  pub mark-or-end : (n : ℕ) → n ≡ unwrap_or o (length us) → n ≡ before u us
  mark-or-end n g = from o (position-before u us o e) g
    where
      from : (o : Option ℕ) → MatchOption o (before u us ≡ length us) (λ (m : ℕ). (m ≡ before u us) × (m < length us)) → n ≡ unwrap_or o (length us) → n ≡ before u us
      from None h g = g ∙ sym h
      from (Some m) h g = g ∙ h.0

module _ (input name : List ℕ) (at n : ℕ) (e : n ≡ before 10 (drop at input)) where
  pub line-unended : length input ≤ at + n → field_of name (drop at input) ≡ missing
  unfolding field_of
  line-unended l =
      let k : length (drop at input) ≤ n = rw length-drop (omega arith) in
      rw (← e, le-ltb n (length (drop at input)) k)

  pub line_refused : is_line name (take (at + n - at) (drop at input)) ≡ false → field_of name (drop at input) ≡ missing
  unfolding field_of
  line_refused f =
      rw (← e, rw (add-sub_cancel_left at n) at f) (by_cases (ltb n (length (drop at input))) (λ b. rw b) (λ b. rw b))

  content : drop (length name) (take n (drop at input)) ≡ part_of input (record { start = at + length name; end = at + n })
  content =
      let k : n - length name ≡ (at + n) - (at + length name) = omega arith in
      drop-take (length name) n (drop at input) ∙ rw (drop-drop (length name) at input, k)

  behind : drop (suc n) (drop at input) ≡ drop (at + n + 1) input
  behind = drop-drop (suc n) at input ∙ rw (add-suc at n, ← add-one (at + n))

  pub line-found : at + n < length input → is_line name (take (at + n - at) (drop at input)) ≡ true
      → Content input at name (record { start = at + length name; end = at + n })
  unfolding field_of
  line-found l t =
      let f : is_line name (take n (drop at input)) ≡ true = rw (add-sub_cancel_left at n) at t in
      let k : n < length (drop at input) = rw length-drop (omega arith) in
      let s = line-says name (take n (drop at input)) f in
      let size : length (take n (drop at input)) ≡ n = length-take-le n (drop at input) (omega arith) in
      record {
        found = rw (← e, lt-ltb n (length (drop at input)) k, f, content, behind);
        ended = record {
          within = record { ordered = omega arith; inside = omega arith; short = omega arith };
          before = l;
        };
      }

-- ---- units as bytes
pub low_first : (us : List ℕ) (i : ℕ) → i < length us → map low_byte (drop i us) ≡ (low_byte (get_or us i 0) ∷ []) ++ map low_byte (drop (i + 1) us)
low_first us i h = ap (map low_byte) (drop-first us i h)
