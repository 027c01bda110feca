-- Where a section stands between the semicolons of a code (R111).
-- Assumes nothing.
use Rattle.std.specs.Prelude.{ℕ, zero, suc, ◌+◌, ◌*◌, ◌≤◌, ◌≡◌, cond, List, length, get_or, ltb}
use Rattle.formats.specs.Accept.{Span}
use Rattle.spans.specs.declared.SectionSpan.{SectionSpan}

-- the place behind the semicolon before section n, or the start
unfoldable pub start_behind : ℕ → ℕ → List ℕ → ℕ
start_behind start zero ks = start
start_behind start (suc n) ks = suc (get_or ks n 0)

-- the place of the semicolon behind section n, or the end
unfoldable pub end_before : ℕ → ℕ → List ℕ → ℕ
end_before end n ks = cond (ltb n (length ks)) (get_or ks n 0) end

-- the numbers of a part of a code, which lies in it
pub record SpanIs (code : List ℕ) (s : Span) (r : SectionSpan) : Type 0 where
  pub start : r.start ≡ s.start
  pub size : r.size ≡ s.size
  pub inside : r.start + r.size ≤ length code

-- where unit k of a run lies: in the run's block, two bytes a unit behind the first
unfoldable pub unit_place : ℕ × ℕ → ℕ → ℕ × ℕ
unit_place p k = (p.0, p.1 + 2 * k)
