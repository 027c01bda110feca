-- The uses of a body's commas: one pass counts them.
-- Assumes nothing.
use Prim.Native.Nat.{ℕ, ◌+◌, ◌≤◌}
use mathlib.Core.Path.{◌≡◌, refl, sym, ap, ◌∙◌}
use mathlib.Core.Bool.{Bool, true, false, cond, ◌&&◌, ◌||◌, or-true, true≢false}
use mathlib.Core.Bool as bool
use mathlib.Core.List.{List, [], ◌∷◌, ◌++◌}
use native.Mathlib.Omega.{arith}
use lib.Dec.{leb, ltb, eqb}
use borrow.Author.Tests.{eqb-true, le-leb, lt-leb, ne_eqb}
use lib.ListN.{length, take, length-take}
use Rattle.std.specs.List.{fold}
use Rattle.lists.specs.Lists.{any, count}
use Rattle.lists.proofs.Bools.{by_cases}
use Rattle.lists.proofs.Counts.{positive-count}
use Rattle.formats.specs.Tokens.{Token}
use Rattle.formats.specs.Kinds.{form_of, is_place, is_point, is_comma, CommaUse, groups, divides, misplaced, is_grouping, is_dividing, is_misplaced, integer_place_in, uses_from, comma_uses}
use Rattle.formats.proofs.CommaUses.{comma_use, comma_uses_from, comma-uses}
use Rattle.marks.specs.declared.Mark.{Mark}
use Rattle.marks.specs.Marks.{mark_rows, mark_token, condition_of, tokens_in}
use Rattle.bodies.specs.declared.commas.Commas.{Commas}
use Rattle.bodies.specs.declared.commas.Scan.{Scan}
use Rattle.bodies.specs.Uses.{commas_of, met, scanned, scan_form}
use Rattle.marks.proofs.ByForm.{by_form}
use Rattle.marks.proofs.Buffer.{fold-end}

-- one token more
abbrev scan_token : Scan → Token → Scan
scan_token s t = scanned s (is_comma t) (is_point t) (is_place t)

abbrev pub nothing_scanned : Scan
nothing_scanned = record { point = false; place = false; held = 0; misplaced = 0; grouping = 0; dividing = 0 }

-- at the end the commas held divide
abbrev scan_commas : Scan → Commas
scan_commas s =
    record {
      misplaced = ltb 0 s.misplaced;
      grouped = ltb 0 s.grouping;
      thousands = s.dividing + s.held;
    }

scan-form : (s : Scan) (f a : ℕ) (us : List ℕ) → scan_token s (mark_token f a us) ≡ scan_form s f
unfolding mark_rows condition_of
scan-form s f a us = by_form (scan_token s) (scan_form s) a us refl
    (λ n h. rw (ne_eqb n 8 (omega arith), ne_eqb n 7 (omega arith), lt-leb n 6 (omega arith), le-leb 4 n (omega arith))) f

-- ---- one token more
module _ (f : CommaUse → Bool) where
  -- n commas of one use, where the test counts it
  weigh : CommaUse → ℕ → ℕ
  weigh u n = cond (f u) n 0

  weigh-add : (u : CommaUse) (m n : ℕ) → weigh u (m + n) ≡ weigh u m + weigh u n
  unfolding weigh
  weigh-add u m n = by_cases (f u) (λ e. rw e) (λ e. rw e (omega arith))

  weigh-none : (u : CommaUse) → weigh u 0 ≡ 0
  unfolding weigh
  weigh-none u = by_cases (f u) (λ e. rw e) (λ e. rw e)

  weigh-cons : (u : CommaUse) (us : List CommaUse) → count f (u ∷ us) ≡ weigh u 1 + count f us
  unfolding weigh count
  weigh-cons u us = by_cases (f u) (λ e. rw e (omega arith)) (λ e. rw e (omega arith))

  -- the commas of the uses that the test counts: those met, those held before the tokens ts, those of ts
  total : Scan → List Token → ℕ
  total s ts =
      weigh misplaced s.misplaced + weigh groups s.grouping + weigh divides s.dividing
      + weigh (comma_use s.point true ts) s.held + count f (comma_uses_from s.point s.place ts)

  module _ (s : Scan) (t : Token) (ts : List Token) where
    -- a comma is held behind a place, and misplaced elsewhere
    total-comma : form_of t ≡ 8 → total s (t ∷ ts) ≡ total (scan_token s t) ts
    unfolding total comma_uses_from comma_use integer_place_in any
    total-comma k = by_cases s.place
        (λ q. let u = comma_use s.point true ts in
        rw (k, q, bool.or-false s.point) (omega (arith, weigh-add u s.held 1, weigh-cons u (comma_uses_from s.point true ts))))
        (λ q. rw (k, q, bool.or-false s.point) (omega (arith, weigh-add misplaced s.misplaced 1, weigh-cons misplaced (comma_uses_from s.point false ts))))

    -- the first point ends the integer places
    total-point : form_of t ≡ 7 → total s (t ∷ ts) ≡ total (scan_token s t) ts
    unfolding total comma_uses_from comma_use integer_place_in any
    total-point k = by_cases s.point
        (λ p. rw (k, p, bool.or-false s.place))
        (λ p. rw (k, p, bool.or-false s.place) (omega (arith, weigh-add divides s.dividing s.held, weigh-none (comma_use true true ts))))

    -- a place tells the use of the commas held
    total-place : form_of t ≡ 4 → total s (t ∷ ts) ≡ total (scan_token s t) ts
    unfolding total comma_uses_from comma_use integer_place_in any
    total-place k = by_cases s.point
        (λ p. rw (k, p, or-true s.place) (omega (arith, weigh-add misplaced s.misplaced s.held, weigh-none (comma_use true true ts))))
        (λ p. rw (k, p, or-true s.place) (omega (arith, weigh-add groups s.grouping s.held, weigh-none (comma_use false true ts))))

    total-other : is_comma t ≡ false → is_point t ≡ false → is_place t ≡ false → total s (t ∷ ts) ≡ total (scan_token s t) ts
    unfolding total comma_uses_from comma_use integer_place_in any
    total-other a b c = rw (a, b, c, bool.or-false s.point, bool.or-false s.place)

    total-step : total s (t ∷ ts) ≡ total (scan_token s t) ts
    total-step = by_cases (is_comma t) (λ a. total-comma (eqb-true (form_of t) 8 a))
        (λ a. by_cases (is_point t) (λ b. total-point (eqb-true (form_of t) 7 b))
        (λ b. by_cases (is_place t) (λ c. total-place (eqb-true (form_of t) 4 c)) (λ c. total-other a b c)))

  total-all : (s : Scan) (ts : List Token) → total s ts ≡ total (fold scan_token s ts) []
  total-all s [] = refl
  total-all s (t ∷ ts) = total-step s t ts ∙ total-all (scan_token s t) ts

  -- at the end: those met, and those held divide
  total-end : (s : Scan) → total s [] ≡ weigh misplaced s.misplaced + weigh groups s.grouping + weigh divides (s.dividing + s.held)
  unfolding total comma_uses_from comma_use integer_place_in any count
  total-end s = by_cases s.point
      (λ p. rw p (omega (arith, weigh-add divides s.dividing s.held)))
      (λ p. rw p (omega (arith, weigh-add divides s.dividing s.held)))

  -- the commas of one use are those that the pass counted
  pub uses-counted : (ts : List Token)
      → count f (comma_uses ts)
      ≡ cond (f misplaced) (fold scan_token nothing_scanned ts).misplaced 0 + cond (f groups) (fold scan_token nothing_scanned ts).grouping 0
      + cond (f divides) ((fold scan_token nothing_scanned ts).dividing + (fold scan_token nothing_scanned ts).held) 0
  unfolding total weigh
  uses-counted ts =
      let s = nothing_scanned in
      let a = weigh-none misplaced in
      let b = weigh-none groups in
      let d = weigh-none divides in
      let e = weigh-none (comma_use false true ts) in
      let start : total s ts ≡ count f (comma_uses_from false false ts) = omega arith in
      ap (count f) (comma-uses ts) ∙ sym start ∙ total-all s ts ∙ total-end (fold scan_token s ts)

-- one pass gives the commas
pub commas-scanned : (ts : List Token) → scan_commas (fold scan_token nothing_scanned ts) ≡ commas_of ts
unfolding commas_of
commas-scanned ts =
    let s = fold scan_token nothing_scanned ts in
    let a : count is_misplaced (comma_uses ts) ≡ s.misplaced = uses-counted is_misplaced ts ∙ omega arith in
    let b : count is_grouping (comma_uses ts) ≡ s.grouping = uses-counted is_grouping ts ∙ omega arith in
    let d : count is_dividing (comma_uses ts) ≡ s.dividing + s.held = uses-counted is_dividing ts ∙ omega arith in
    rw (← (positive-count is_misplaced (comma_uses ts)), ← (positive-count is_grouping (comma_uses ts)), a, b, d)

-- without a comma there is no use
uses-none : (before ts : List Token) → any is_comma ts ≡ false → uses_from before ts ≡ []
unfolding any uses_from
uses-none before [] e = refl
uses-none before (t ∷ ts) e =
    by_cases (is_comma t) (λ h. absurd (true≢false (rw h at e))) (λ h. rw h (uses-none (before ++ (t ∷ [])) ts (rw h at e)))

pub commas-none : (ts : List Token) → any is_comma ts ≡ false → record { misplaced = false; grouped = false; thousands = 0 } ≡ commas_of ts
unfolding commas_of comma_uses any count
commas-none ts e = rw (uses-none [] ts e)

-- ---- the pass
-- a token is one comma at most
met-most : (s : Scan) (f : ℕ) → met (scan_form s f) ≤ met s + 1
met-most s f = by_cases (eqb f 8)
    (λ a. by_cases s.place (λ p. rw (a, p) (omega arith)) (λ p. rw (a, p) (omega arith)))
    (λ a. by_cases (eqb f 7)
    (λ b. by_cases s.point (λ p. rw (a, b, p) (omega arith)) (λ p. rw (a, b, p) (omega arith)))
    (λ b. by_cases (leb 4 f && leb f 6)
    (λ c. by_cases s.point (λ p. rw (a, b, c, p) (omega arith)) (λ p. rw (a, b, c, p) (omega arith)))
    (λ c. rw (a, b, c) (omega arith))))

-- the commas of marks
abbrev pub scan_marks : Scan → List Mark → Scan
scan_marks s ms = fold (λ t m. scan_form t m.form) s ms

met-few : (s : Scan) (ms : List Mark) → met (scan_marks s ms) ≤ met s + length ms
met-few s [] = omega arith
met-few s (m ∷ ms) = omega (arith, met-few (scan_form s m.form) ms, met-most s m.form)

-- what the loop of `scan_body` needs, and what it gives
module _ (ms : List Mark) (k : ℕ) (s : Scan) (e : s ≡ scan_marks nothing_scanned (take k ms)) where
  pub scan-room : met s ≤ k
  scan-room = rw e (omega (arith, met-few nothing_scanned (take k ms), length-take k ms))

pub scan_end : (ms : List Mark) (s : Scan) → s ≡ scan_marks nothing_scanned (take (length ms) ms) → (code : List ℕ) → scan_commas s ≡ commas_of (tokens_in code ms)
scan_end ms s e code =
    ap scan_commas (e ∙ fold-end code scan_token scan_form scan-form nothing_scanned ms) ∙ commas-scanned (tokens_in code ms)
