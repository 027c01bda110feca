-- The verdict on a code, test by test.
-- Assumes nothing.
use Prim.Native.Nat.{ℕ, ◌+◌, ◌-◌, ◌≤◌, ◌<◌}
use native.Mathlib.Omega.{arith}
use mathlib.Core.Path.{◌≡◌, refl, sym, ◌∙◌, ap}
use mathlib.Core.List.{List}
use lib.ListN.{length, take, get_or, length-map}
use lib.Seq.{length-take-le}
use lib.Dec.{leb, eqb}
use borrow.Author.Tests.{lt-ltb, le-ltb, ne_eqb, eqb-false, leb-true, leb-false}
use Rattle.lists.proofs.Bools.{by_cases}
use Rattle.std.proofs.Common.{Result, Ok, Err}
use Rattle.answers.specs.declared.Refusal.{Refusal}
use Rattle.answers.specs.declared.Refusal.TheVariants as answer
use Rattle.answers.specs.declared.Refused.{Refused}
use Rattle.formats.specs.Tokens.{Lexed, lex}
use Rattle.formats.specs.Kinds.{section_of}
use Rattle.formats.specs.Accept.{placed_of, tokens_of, semicolons, parts_in, sections_in, fine, refused, or_else, length_verdict, token_verdict, count_verdict, verdict}
use Rattle.formats.proofs.First.{token-refused, count-refused}
use Rattle.formats.proofs.Lexing.{step-inside}
use Rattle.formats.proofs.ItemCount.{section-count}
use Rattle.marks.specs.declared.Mark.{Mark}
use Rattle.marks.proofs.Buffer.{tokens-placed}
use Rattle.lexing.specs.declared.buffer.Filled.{Filled}
use Rattle.lexing.specs.Buffer.{lex_meant, count_of, semicolons_of, Fills, semicolons_in}
use Rattle.lexing.proofs.Semicolons.{semicolons-in}
use Rattle.writing.proofs.Laws.{put-size}
use Rattle.examining.specs.declared.Examined.{Examined}
use Rattle.drafting.specs.declared.Draft.{Draft}
use Rattle.drafting.specs.Draft.{item_words, AllDrafted, Lexes}
use Rattle.examining.specs.Examine.{verdict_of, drafts_verdict, sections_verdict, ExaminedAs, Buffered}
use Rattle.drafting.proofs.Settled.{put-read}
use Rattle.drafting.proofs.Sectioning.{items-room}
use Rattle.examining.proofs.Refusing.{drafts-told, drafted-enough}

-- ---- a refusal
pub examined-refused : (code : List ℕ) (tokens : List Mark) (out : List ℕ) (drafts : List Draft) (r : Refused) (a : Refusal) (k : ℕ)
    → r ≡ record { refusal = a; place = k } → verdict code ≡ refused a k → ExaminedAs code tokens (Err r) out drafts
unfolding verdict_of
examined-refused code tokens out drafts r a k e v = record { told = rw e (sym v); sound = λ x f. cc }

-- ---- 1
pub length-wrong : (code : List ℕ) → (1 ≤ length code → length code ≤ 254 → ⊥) → verdict code ≡ refused answer.CodeLength 0
unfolding verdict or_else length_verdict
length-wrong code h =
    by_cases (eqb (length code) 0) (λ e. rw e)
    (λ e. let long : 254 < length code = above (eqb-false (length code) 0 e) in rw (e, lt-ltb 254 (length code) long))
  where
    above : (length code ≡ 0 → ⊥) → 254 < length code
    above z = by_cases (leb (length code) 254) (λ t. absurd (h (omega arith) (leb-true (length code) 254 t))) (λ t. leb-false (length code) 254 t)

pub length-fair : (code : List ℕ) → 1 ≤ length code → length code ≤ 254 → length_verdict code ≡ fine
unfolding length_verdict
length-fair code l h = rw (ne_eqb (length code) 0 (omega arith), le-ltb 254 (length code) h)

-- ---- 3
module _ (code : List ℕ) (tokens : List Mark) (b : Buffered code tokens) where
  pub places_same : semicolons_in tokens ≡ semicolons (placed_of (lex code))
  unfolding placed_of
  places_same = sym (semicolons-in code tokens) ∙ ap (λ (l : Lexed). semicolons (placed_of l)) b.same

  pub token-fine : token_verdict (lex code) ≡ fine
  unfolding token_verdict
  token-fine = rw (← b.same)

  module _ (count : ℕ) (counted : count ≡ length (semicolons_in tokens)) where
    many : count ≡ length (semicolons (placed_of (lex code)))
    many = rw places_same at counted

    pub verdict-count : (k : ℕ) → k ≡ get_or (semicolons_in tokens) 3 0 → 3 < count → verdict code ≡ refused answer.SectionCount k
    unfolding verdict or_else count_verdict
    verdict-count k e l = rw (b.fair, token-fine, lt-ltb 3 (length (semicolons (placed_of (lex code)))) (omega (arith, many)), e, places_same)

    pub verdict-sections : count ≤ 3 → verdict code ≡ sections_verdict code
    unfolding verdict or_else count_verdict sections_verdict
    verdict-sections l = rw (b.fair, token-fine, le-ltb 3 (length (semicolons (placed_of (lex code)))) (omega (arith, many)))

    pub lexes-all : Lexes code tokens (count + 1)
    unfolding placed_of sections_in
    lexes-all = record {
      same = sym (tokens-placed code tokens) ∙ ap (λ (l : Lexed). tokens_of (placed_of l)) b.same;
      many = omega (arith, many, section-count code, length-map (parts_in code) section_of);
    }

pub count-inside : (code : List ℕ) (k : ℕ) → verdict code ≡ refused answer.SectionCount k → k < length code
count-inside code k e = let f = count-refused code k e in step-inside code k _ f.here.step

-- ---- 4, 5 and 6
module _ (code : List ℕ) (v : verdict code ≡ sections_verdict code) {old out : List ℕ} {drafts : List Draft} (words : ℕ)
    (d : AllDrafted (parts_in code) old words out drafts) (n : ℕ) (many : n ≡ length (parts_in code)) where
  pub drafts-enough : n ≤ length drafts
  drafts-enough = omega (arith, drafted-enough (parts_in code) drafts d.each)

  verdict-drafts : (j : Result (Unit {0}) Refused) → verdict_of j ≡ drafts_verdict (take n drafts) → verdict code ≡ verdict_of j
  unfolding sections_verdict sections_in
  verdict-drafts j e = v ∙ sym (e ∙ rw many (drafts-told (parts_in code) drafts d.each))

  pub examined-drafts : (r : Refused) → verdict_of {A = Unit {0}} (Err r) ≡ drafts_verdict (take n drafts) → (tokens : List Mark)
      → ExaminedAs code tokens (Err r) out drafts
  unfolding verdict_of
  examined-drafts r e tokens = examined-refused code tokens out drafts r r.refusal r.place refl (verdict-drafts (Err r) e)

  pub examined-done : verdict_of {A = Unit {0}} (Ok tt) ≡ drafts_verdict (take n drafts) → n ≤ 4 → length old ≡ 508
      → (tokens : List Mark) (count : ℕ) → count ≤ length tokens → Buffered code (take count tokens)
      → ExaminedAs code tokens (Ok (record { tokens = count; sections = n; words = words })) out drafts
  unfolding verdict_of
  examined-done e few wide tokens count inside b =
      let size : words ≡ 0 + length (item_words (parts_in code)) = d.put.next in
      let room = items-room code b.small in
      record {
        told = sym (verdict-drafts (Ok tt) e);
        sound = λ r f.
            let g : r ≡ record { tokens = count; sections = n; words = words } = cc in
            rw g (record {
              buffered = b;
              inside = inside;
              many = many;
              few = few;
              enough = drafts-enough;
              each = d.each;
              words = let z : words - 0 ≡ words = omega arith in rw z at (put-read d.put (omega arith));
              short = omega arith;
              room = omega (arith, put-size d.put);
            });
      }

-- ---- 2
pub token-inside : (code : List ℕ) (k : ℕ) → verdict code ≡ refused answer.Token k → k < length code
token-inside code k e = (token-refused code k e).inside

-- what filling left
module _ (code : List ℕ) (old tokens : List Mark) where
  pub filled-few : (f : Filled) → Fills code old tokens (Ok f) → f.tokens ≤ length code
  unfolding count_of
  filled-few f x = x.few

  pub filled-count : (f : Filled) → Fills code old tokens (Ok f) → f.semicolons ≡ length (semicolons_in (take f.tokens tokens))
  unfolding count_of semicolons_of
  filled-count f x = x.counted

  pub filled-all : (f : Filled) → Fills code old tokens (Ok f) → 1 ≤ length code → length code ≤ 254 → length old ≡ 254 → Buffered code (take f.tokens tokens)
  unfolding lex_meant
  filled-all f x least small wide =
      let few = filled-few f x in
      record {
        few = omega (arith, length-take-le f.tokens tokens (omega (arith, x.size)));
        small = small;
        same = x.same;
        fair = length-fair code least small;
      }

  pub filled-bad : (k : ℕ) → Fills code old tokens (Err k) → 1 ≤ length code → length code ≤ 254 → verdict code ≡ refused answer.Token k
  unfolding verdict or_else lex_meant token_verdict
  filled-bad k x least small = rw (length-fair code least small, ← x.same)

-- ---- from what examining told
pub examined-no : (code : List ℕ) (tokens : List Mark) (r : Refused) (out : List ℕ) (drafts : List Draft) → ExaminedAs code tokens (Err r) out drafts
    → verdict code ≡ refused r.refusal r.place
unfolding verdict_of
examined-no code tokens r out drafts x = sym x.told

pub examined-fine : (code : List ℕ) (tokens : List Mark) (e : Examined) (out : List ℕ) (drafts : List Draft) → ExaminedAs code tokens (Ok e) out drafts → verdict code ≡ fine
unfolding verdict_of
examined-fine code tokens e out drafts x = sym x.told
