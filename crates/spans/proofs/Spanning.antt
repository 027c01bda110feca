-- Where the sections of a code stand: the span of section n, from the places of the semicolons.
-- Assumes nothing.
use Prim.Native.Nat.{ℕ, zero, suc, ◌+◌, ◌-◌, ◌*◌, ◌≤◌, ◌<◌}
use native.Mathlib.Omega.{arith}
use native.Mathlib.Nat.{add-sub_cancel_left}
use mathlib.Core.Path.{◌≡◌, refl, sym, ◌∙◌, ap}
use mathlib.Core.List.{List, [], ◌∷◌}
use lib.ListN.{length, take, drop, get_or, length-map}
use lib.Dec.{ltb}
use borrow.Author.Tests.{lt-ltb, le-ltb, ltb-true, ltb-false}
use Rattle.lists.proofs.Bools.{by_cases}
use Rattle.answers.specs.declared.Refusal.{Refusal}
use Rattle.marks.specs.declared.Mark.{Mark}
use Rattle.drafting.specs.declared.Draft.{Draft}
use Rattle.formats.specs.Tokens.{lex}
use Rattle.formats.specs.Kinds.{section_of}
use Rattle.formats.specs.Accept.{placed_of, semicolons, parts_in, sections_in, fine, refused, token_verdict, verdict, Span, empty_start, span_from, span_by, section_span, section_part}
use Rattle.formats.proofs.First.{semicolon-places}
use Rattle.formats.proofs.Lexing.{step-inside}
use Rattle.formats.proofs.ItemCount.{section-count}
use Rattle.lexing.specs.Buffer.{semicolons_in}
use Rattle.examining.specs.declared.Examined.{Examined}
use Rattle.spans.specs.declared.SectionSpan.{SectionSpan}
use Rattle.examining.specs.Examine.{Buffered, Sound}
use Rattle.spans.specs.Span.{SpanIs, start_behind, end_before, unit_place}
use Rattle.examining.proofs.Answering.{places_same, token-fine}

-- ---- between places
next_start : (start k n : ℕ) (ks : List ℕ) → start_behind (suc k) n ks ≡ start_behind start (suc n) (k ∷ ks)
unfolding start_behind
next_start start k zero ks = refl
next_start start k (suc n) ks = refl

next-end : (end k n : ℕ) (ks : List ℕ) → end_before end n ks ≡ end_before end (suc n) (k ∷ ks)
unfolding end_before
next-end end k n ks = by_cases (ltb n (length ks))
    (λ t. rw (t, lt-ltb (suc n) (suc (length ks)) (omega (arith, ltb-true n (length ks) t))))
    (λ t. rw (t, le-ltb (suc n) (suc (length ks)) (omega (arith, ltb-false n (length ks) t))))

abbrev span_over : ℕ → ℕ → Span
span_over start end = record { start = start; size = end - start }

span-there : (start end n : ℕ) (ks : List ℕ) → n ≤ length ks → span_from start end n ks ≡ span_over (start_behind start n ks) (end_before end n ks)
unfolding span_from start_behind end_before
span-there start end zero [] h = refl
span-there start end (suc n) [] h = absurd (omega arith)
span-there start end zero (k ∷ ks) h = rw (lt-ltb 0 (suc (length ks)) (omega arith))
span-there start end (suc n) (k ∷ ks) h =
    span-there (suc k) end n ks (omega arith)
    ∙ ap (λ (s : ℕ). span_over s (end_before end n ks)) (next_start start k n ks)
    ∙ ap (span_over (start_behind start (suc n) (k ∷ ks))) (next-end end k n ks)

span-missing : (start end n : ℕ) (ks : List ℕ) → length ks < n → span_from start end n ks ≡ empty_start
unfolding span_from
span-missing start end zero ks h = absurd (omega arith)
span-missing start end (suc n) [] h = refl
span-missing start end (suc n) (k ∷ ks) h = span-missing (suc k) end n ks (omega arith)

-- ---- from what the passes over the tokens told
pub behind-none : (n : ℕ) (ks : List ℕ) → n ≡ 0 → 0 ≡ start_behind 0 n ks
unfolding start_behind
behind-none n ks e = rw e

pub behind-some : (n place : ℕ) (ks : List ℕ) → (n ≡ 0 → ⊥) → place ≡ get_or ks (n - 1) 0 → place + 1 ≡ start_behind 0 n ks
unfolding start_behind
behind-some zero place ks z e = absurd (z refl)
behind-some (suc n) place ks z e = let same : place ≡ get_or ks n 0 = e ∙ ap (λ (j : ℕ). get_or ks j 0) (omega arith) in omega arith

pub before-some : (end n place : ℕ) (ks : List ℕ) → n < length ks → place ≡ get_or ks n 0 → place ≡ end_before end n ks
unfolding end_before
before-some end n place ks h e = e ∙ rw (lt-ltb n (length ks) h)

pub before-none : (end n : ℕ) (ks : List ℕ) → length ks ≤ n → end ≡ end_before end n ks
unfolding end_before
before-none end n ks h = rw (le-ltb n (length ks) h)

-- ---- of a code
module _ (code : List ℕ) (sound : token_verdict (lex code) ≡ fine) where
  abbrev ks : List ℕ
  ks = semicolons (placed_of (lex code))

  place_inside : (i : ℕ) → i < length ks → get_or ks i 0 < length code
  place_inside i h = step-inside code (get_or ks i 0) _ ((semicolon-places code sound).each i h).step

  start-inside : (n : ℕ) → n ≤ length ks → start_behind 0 n ks ≤ length code
  unfolding start_behind
  start-inside zero h = omega arith
  start-inside (suc n) h = place_inside n h

  end-inside : (n : ℕ) → end_before (length code) n ks ≤ length code
  unfolding end_before
  end-inside n = by_cases (ltb n (length ks))
      (λ t. rw t (omega (arith, place_inside n (ltb-true n (length ks) t))))
      (λ t. rw t (omega arith))

  start-before : (n : ℕ) → n ≤ length ks → start_behind 0 n ks ≤ end_before (length code) n ks
  unfolding start_behind end_before
  start-before zero h = omega arith
  start-before (suc n) h = by_cases (ltb (suc n) (length ks))
      (λ t. rw t ((semicolon-places code sound).ascend n (suc n) (omega arith) (ltb-true (suc n) (length ks) t)))
      (λ t. rw t (place_inside n h))

-- ---- from the tokens
module _ (code : List ℕ) (tokens : List Mark) (last n : ℕ) (b : Buffered code tokens)
    (many : last ≡ length (semicolons (placed_of (lex code)))) (within : n ≤ last) where
  there : n ≤ length (semicolons (placed_of (lex code)))
  there = omega arith

  pub last-counted : last ≡ length (semicolons_in tokens)
  last-counted = rw (places_same code tokens b) many

  pub start_small : start_behind 0 n (semicolons_in tokens) ≤ 254
  start_small = rw (places_same code tokens b) (omega (arith, start-inside code (token-fine code tokens b) n there, b.small))

  module _ (start end : ℕ) (s : start ≡ start_behind 0 n (semicolons_in tokens))
      (e : end ≡ end_before (length code) n (semicolons_in tokens)) where
    begins : start ≡ start_behind 0 n (semicolons (placed_of (lex code)))
    begins = s ∙ ap (start_behind 0 n) (places_same code tokens b)

    closes : end ≡ end_before (length code) n (semicolons (placed_of (lex code)))
    closes = e ∙ ap (end_before (length code) n) (places_same code tokens b)

    pub start-end : start ≤ end
    start-end = omega (arith, begins, closes, start-before code (token-fine code tokens b) n there)

    pub span-is : SpanIs code (span_by fine n code) (record { start = start; size = end - start })
    unfolding span_by
    span-is =
        let ks : List ℕ = semicolons (placed_of (lex code)) in
        let t : span_by fine n code ≡ span_over (start_behind 0 n ks) (end_before (length code) n ks) = span-there 0 (length code) n ks there in
        record {
          start = begins ∙ sym (ap (λ (p : Span). p.start) t);
          size = rw (begins, closes) (sym (ap (λ (p : Span). p.size) t));
          inside = omega (arith, start-end, closes, end-inside code (token-fine code tokens b) n);
        }

-- ---- by the verdict
module _ (code : List ℕ) (n : ℕ) where
  pub section-refused : (a : Refusal) (k : ℕ) → verdict code ≡ refused a k → SpanIs code (section_span n code) (record { start = 0; size = 0 })
  unfolding section_span span_by
  section-refused a k v = record { start = rw v; size = rw v; inside = omega arith }

  pub section-fine : verdict code ≡ fine → (r : SectionSpan) → SpanIs code (span_by fine n code) r → SpanIs code (section_span n code) r
  unfolding section_span
  section-fine v r s = rw v s

  module _ (tokens : List Mark) (r : Examined) (out : List ℕ) (drafts : List Draft) (s : Sound code tokens r out drafts) where
    many-sections : r.sections ≡ 1 + length (semicolons (placed_of (lex code)))
    unfolding sections_in
    many-sections = omega (arith, s.many, section-count code, length-map (parts_in code) section_of)

    pub last-section : r.sections - 1 ≡ length (semicolons (placed_of (lex code)))
    last-section = omega (arith, many-sections)

    pub section-missing : verdict code ≡ fine → r.sections ≤ n → SpanIs code (section_span n code) (record { start = 0; size = 0 })
    unfolding section_span span_by
    section-missing v h =
        let e : section_span n code ≡ empty_start = rw v (span-missing 0 (length code) n (semicolons (placed_of (lex code))) (omega (arith, many-sections))) in
        record { start = rw e; size = rw e; inside = omega arith }

-- the part of a code by its span
pub part_same : (code : List ℕ) (n start size : ℕ) → start ≡ (section_span n code).start → size ≡ (section_span n code).size
    → take (start + size - start) (drop start code) ≡ section_part n code
unfolding section_part
part_same code n start size s z = rw (add-sub_cancel_left start size, s, z)

pub place_same : (code : List ℕ) (n start : ℕ) (p : ℕ × ℕ) → start ≡ (section_span n code).start
    → ◌≡◌ {A = ℕ × ℕ} (p.0, start * 2 + p.1) (unit_place p (section_span n code).start)
unfolding unit_place
place_same code n start p s = ap (λ (o : ℕ). (p.0, o)) (omega arith)
