-- "The answer list", 1 to 6 (R10 to R13), sections (R28) and their parts (R111): whether a code is accepted, and as which sections.
-- Assumes nothing.
use Rattle.std.specs.Prelude.{ℕ, zero, suc, ◌-◌, cond, ◌||◌, List, [], ◌∷◌, map, length, take, drop, get_or, ltb, eqb}
use Rattle.std.proofs.Math.Option.{Option, none, some}
use Rattle.answers.specs.declared.Refusal.{Refusal}
use Rattle.answers.specs.declared.Refusal.TheVariants as answer
use Rattle.lists.specs.Lists.{first_failing}
use Rattle.formats.specs.Tokens.{Token, Placed, Lexed, good, bad, lex}
use Rattle.formats.specs.Items.{Section}
use Rattle.formats.specs.Kinds.{Parts, parts_of, section_of, fits, is_semicolon}
use Rattle.formats.specs.Where.{stands_at}
use Rattle.formats.specs.Limits.{within_limits}

unfoldable pub placed_of : Lexed → List Placed
placed_of (good ps) = ps
placed_of (bad k) = []

unfoldable pub tokens_of : List Placed → List Token
tokens_of [] = []
tokens_of (p ∷ ps) = p.token ∷ tokens_of ps

-- the places of the semicolons
unfoldable pub semicolons : List Placed → List ℕ
semicolons [] = []
semicolons (p ∷ ps) = let r = semicolons ps in cond (is_semicolon p.token) (p.start ∷ r) r

-- a token put in front of the first section
unfoldable pub joined : Token → List (List Token) → List (List Token)
joined t [] = (t ∷ []) ∷ []
joined t (s ∷ ss) = (t ∷ s) ∷ ss

-- the tokens of each section (R28)
unfoldable pub split : List Token → List (List Token)
split [] = [] ∷ []
split (t ∷ ts) = let r = split ts in cond (is_semicolon t) ([] ∷ r) (joined t r)

unfoldable pub parts_in : List ℕ → List Parts
parts_in code = map parts_of (split (tokens_of (placed_of (lex code))))

unfoldable pub sections_in : List ℕ → List Section
sections_in code = map section_of (parts_in code)

-- what a test says of a code: nothing, or an answer and its place
pub data Verdict : Type 0 where
  fine : Verdict
  refused : Refusal → ℕ → Verdict

-- the first of two tests that refuses
unfoldable pub or_else : Verdict → Verdict → Verdict
or_else fine v = v
or_else (refused a k) v = refused a k

-- 1: "code length is 0 or above 254"
unfoldable pub length_verdict : List ℕ → Verdict
length_verdict code = cond (eqb (length code) 0 || ltb 254 (length code)) (refused answer.CodeLength 0) fine

-- 2: "a unit starts no token, or its token is broken"
unfoldable pub token_verdict : Lexed → Verdict
token_verdict (good ps) = fine
token_verdict (bad k) = refused answer.Token k

-- 3: "more than four sections", at the fourth semicolon
unfoldable pub count_verdict : List ℕ → Verdict
count_verdict places = cond (ltb 3 (length places)) (refused answer.SectionCount (get_or places 3 0)) fine

-- 4, 5 and 6 name the "first such section"
unfoldable pub section_verdict : Refusal → Option ℕ → Verdict
section_verdict a none = fine
section_verdict a (some k) = refused a k

-- 4: "a section fits no kind"
unfoldable pub kind_verdict : List Parts → Verdict
kind_verdict ps = section_verdict answer.Kind (first_failing (λ (i : ℕ) (p : Parts). fits p) 0 ps)

-- 5: "a section stands where it may not"
unfoldable pub where_verdict : List Section → Verdict
where_verdict ss = section_verdict answer.Standing (first_failing (stands_at (length ss)) 0 ss)

-- 6: "a count limit is passed"
unfoldable pub limit_verdict : List Parts → Verdict
limit_verdict ps = section_verdict answer.Limit (first_failing (λ (i : ℕ) (p : Parts). within_limits p) 0 ps)

-- "Preparing tests 1 to 7 in that order" (R11): each over the whole code before the next
unfoldable pub verdict : List ℕ → Verdict
verdict code =
    or_else (length_verdict code)
    (or_else (token_verdict (lex code))
    (or_else (count_verdict (semicolons (placed_of (lex code))))
    (or_else (kind_verdict (parts_in code))
    (or_else (where_verdict (sections_in code)) (limit_verdict (parts_in code))))))

-- "A code is accepted when none of 1 to 6 is given." (R13)
pub data Accepted : Type 0 where
  sections : List Section → Accepted
  refusal : Refusal → ℕ → Accepted

unfoldable pub accepted_by : Verdict → List Section → Accepted
accepted_by fine ss = sections ss
accepted_by (refused a k) ss = refusal a k

unfoldable pub accept : List ℕ → Accepted
accept code = accepted_by (verdict code) (sections_in code)

-- a part of a code
pub record Span : Type 0 where
  pub start : ℕ
  pub size : ℕ

abbrev pub empty_start : Span
empty_start = record { start = 0; size = 0 }

-- section n of the places between these semicolons, the first beginning at `start`, the last ending at `end`
unfoldable pub span_from : ℕ → ℕ → ℕ → List ℕ → Span
span_from start end zero [] = record { start = start; size = end - start }
span_from start end (suc n) [] = empty_start
span_from start end zero (k ∷ ks) = record { start = start; size = k - start }
span_from start end (suc n) (k ∷ ks) = span_from (suc k) end n ks

-- "A caller may ask for section n of a code and gets that part of the code it lent, without semicolons; for a code refused by
-- 1 to 6 or a missing section it gets the empty part at the start." (R111)
unfoldable pub span_by : Verdict → ℕ → List ℕ → Span
span_by fine n code = span_from 0 (length code) n (semicolons (placed_of (lex code)))
span_by (refused a k) n code = empty_start

unfoldable pub section_span : ℕ → List ℕ → Span
section_span n code = span_by (verdict code) n code

unfoldable pub section_part : ℕ → List ℕ → List ℕ
section_part n code = let s = section_span n code in take s.size (drop s.start code)
