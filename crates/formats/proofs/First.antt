-- A code is refused by an answer at a place exactly when what that answer says holds there (Given.antt): no earlier test refuses, no
-- earlier unit or section offends, and the named one does.
-- Assumes nothing.
use Prim.Native.Nat.{ℕ, zero, suc, ◌+◌, ◌≤◌, ◌<◌}
use native.Mathlib.Omega.{arith}
use native.Mathlib.Nat.{zero-add}
use mathlib.Core.Path.{◌≡◌, refl, sym, ap, ◌∙◌}
use mathlib.Core.Bool.{Bool, true, false, cond, ◌||◌, true≢false}
use mathlib.Core.Logic.{◌⊎◌, inl, inr, ◌↔◌}
use mathlib.Core.List.{List, [], ◌∷◌}
use mathlib.Core.Option.{Option, none, some}
use lib.ListN.{length, drop, get_or}
use lib.Dec.{ltb, eqb}
use borrow.Author.Tests.{ltb-true, ltb-false, eqb-true, eqb-false, lt-ltb, le-ltb, eq-eqb, ne_eqb}
use Rattle.answers.specs.declared.Refusal.{Refusal}
use Rattle.answers.specs.declared.Refusal.TheVariants as answer
use Rattle.answers.specs.Number.{number_of}
use Rattle.lists.specs.Lists.{any, All, first_failing}
use Rattle.lists.proofs.Bools.{no, by_cases}
use Rattle.lists.proofs.First.{first-exactly}
use Rattle.formats.specs.Tokens.{Token, semicolon, broken, Placed, Lexed, good, bad, onto, lex_from, lex}
use Rattle.formats.specs.Starts.{StepIs, TokenStart, begin, next, ReadsAt, SemicolonAt}
use Rattle.formats.specs.Kinds.{Parts, fits, is_semicolon}
use Rattle.formats.specs.Where.{stands_at}
use Rattle.formats.specs.Limits.{within_limits}
use Rattle.formats.specs.Accept.{placed_of, semicolons, parts_in, sections_in, Verdict, fine, refused, or_else, length_verdict, token_verdict, count_verdict, section_verdict, kind_verdict, where_verdict, limit_verdict, verdict}
use Rattle.formats.specs.Given.{tests, FineBelow, RefusedBy, WrongLength, FirstBroken, StandsIn, SemicolonPlaces, FourthSemicolon, FirstSection}
use Rattle.formats.proofs.Lexing.{LexesTo, ends, breaks, reads, lexes, lexes-at, lex-front, lex-front-broken, at-start, step-inside}
use Rattle.formats.proofs.Each.{by_token}

-- what cannot be
not-refused : {P : Type 0} {a : Refusal} {k : ℕ} → fine ≡ refused a k → P
not-refused e = let z : ◌≡◌ {A = ℕ} 0 1 = cc in absurd (omega arith)

not-bad : {P : Type 0} {ps : List Placed} {k : ℕ} → good ps ≡ bad k → P
not-bad e = let z : ◌≡◌ {A = ℕ} 0 1 = cc in absurd (omega arith)

-- ---- the tests in their order

-- a test that refuses by the answer of number n alone
abbrev Says : ℕ → Verdict → Type 0
Says n fine = Unit {0}
Says n (refused a k) = number_of a ≡ n

abbrev SayFrom : ℕ → List Verdict → Type 0
SayFrom n [] = Unit {0}
SayFrom n (v ∷ vs) = Says n v × SayFrom (suc n) vs

first_of : List Verdict → Verdict
first_of [] = fine
first_of (v ∷ vs) = or_else v (first_of vs)

record FirstOf (vs : List Verdict) (n : ℕ) (a : Refusal) (k : ℕ) : Type 0 where
  index : ℕ
  number : number_of a ≡ n + index
  refuses : get_or vs index fine ≡ refused a k
  before : (i : ℕ) → i < index → get_or vs i fine ≡ fine

first-of : (vs : List Verdict) (n : ℕ) → SayFrom n vs → (a : Refusal) (k : ℕ) → first_of vs ≡ refused a k → FirstOf vs n a k
unfolding first_of or_else
first-of [] n s a k e = not-refused e
first-of (fine ∷ vs) n s a k e =
    let r = first-of vs (suc n) s.1 a k e in
    record { index = suc r.index; number = omega arith; refuses = r.refuses; before = earlier r.index r.before }
  where
    earlier : (m : ℕ) → ((i : ℕ) → i < m → get_or vs i fine ≡ fine) → (i : ℕ) → i < suc m → get_or (fine ∷ vs) i fine ≡ fine
    earlier m h zero l = refl
    earlier m h (suc i) l = h i (omega arith)
first-of (refused b j ∷ vs) n s a k e =
    let same : b ≡ a = cc in
    record { index = 0; number = rw (← same) (omega (arith, s.0)); refuses = e; before = λ i h. absurd (omega arith) }

-- a test that refuses by an answer or not at all
says_if : (b : Bool) (a : Refusal) (k : ℕ) → Says (number_of a) (cond b (refused a k) fine)
says_if true a k = refl
says_if false a k = tt

length-says : (code : List ℕ) → Says 1 (length_verdict code)
unfolding length_verdict
length-says code = says_if (eqb (length code) 0 || ltb _ (length code)) answer.CodeLength 0

token-says : (l : Lexed) → Says 2 (token_verdict l)
unfolding token_verdict
token-says (good ps) = tt
token-says (bad k) = refl

count-says : (places : List ℕ) → Says 3 (count_verdict places)
unfolding count_verdict
count-says places = says_if (ltb _ (length places)) answer.SectionCount _

section-says : (a : Refusal) (o : Option ℕ) → Says (number_of a) (section_verdict a o)
unfolding section_verdict
section-says a none = tt
section-says a (some k) = refl

tests-say : (code : List ℕ) → SayFrom 0 (tests code)
unfolding kind_verdict where_verdict limit_verdict
tests-say code = (
  tt,
  (
    length-says code,
    (
      token-says (lex code),
      (
        count-says (semicolons (placed_of (lex code))),
        (section-says answer.Kind _, (section-says answer.Standing _, (section-says answer.Limit _, tt))),
      ),
    ),
  ),
)

or-fine : (v : Verdict) → or_else v fine ≡ v
unfolding or_else
or-fine fine = refl
or-fine (refused a k) = refl

verdict-first : (code : List ℕ) → verdict code ≡ first_of (tests code)
unfolding verdict first_of or_else
verdict-first code = rw (or-fine (limit_verdict (parts_in code)))

pub refused-by : (code : List ℕ) (a : Refusal) (k : ℕ) → verdict code ≡ refused a k → RefusedBy code a k
refused-by code a k e =
    let r = first-of (tests code) 0 (tests-say code) a k (sym (verdict-first code) ∙ e) in
    let same : number_of a ≡ r.index = omega arith in
    record { refuses = rw same r.refuses; before = rw same r.before }

of-first : (vs : List Verdict) (n : ℕ) (a : Refusal) (k : ℕ) → get_or vs n fine ≡ refused a k
    → ((i : ℕ) → i < n → get_or vs i fine ≡ fine) → first_of vs ≡ refused a k
unfolding first_of or_else
of-first [] n a k e b = not-refused e
of-first (v ∷ vs) zero a k e b = rw e
of-first (v ∷ vs) (suc n) a k e b = rw (b 0 (omega arith)) (of-first vs n a k e (λ i h. b (suc i) (omega arith)))

by-refused : (code : List ℕ) (a : Refusal) (k : ℕ) → RefusedBy code a k → verdict code ≡ refused a k
by-refused code a k r = verdict-first code ∙ of-first (tests code) (number_of a) a k r.refuses r.before

pub refused-exactly : (code : List ℕ) (a : Refusal) (k : ℕ) → (verdict code ≡ refused a k) ↔ RefusedBy code a k
refused-exactly code a k = (refused-by code a k, by-refused code a k)

-- every test finds nothing
pub record AllFine (code : List ℕ) : Type 0 where
  pub length-fine : length_verdict code ≡ fine
  pub tokens-fine : token_verdict (lex code) ≡ fine
  pub count-fine : count_verdict (semicolons (placed_of (lex code))) ≡ fine
  pub kinds-fine : kind_verdict (parts_in code) ≡ fine
  pub standing-fine : where_verdict (sections_in code) ≡ fine
  pub limits-fine : limit_verdict (parts_in code) ≡ fine

or_left : (v w : Verdict) → or_else v w ≡ fine → v ≡ fine
unfolding or_else
or_left fine w e = refl
or_left (refused a k) w e = e

or_right : (v w : Verdict) → or_else v w ≡ fine → w ≡ fine
unfolding or_else
or_right fine w e = e
or_right (refused a k) w e = not-refused (sym e)

pub verdict-fine : (code : List ℕ) → verdict code ≡ fine → AllFine code
unfolding verdict
verdict-fine code e =
    let e₁ = or_right (length_verdict code) _ e in
    let e₂ = or_right (token_verdict (lex code)) _ e₁ in
    let e₃ = or_right (count_verdict (semicolons (placed_of (lex code)))) _ e₂ in
    let e₄ = or_right (kind_verdict (parts_in code)) _ e₃ in
    record {
      length-fine = or_left (length_verdict code) _ e;
      tokens-fine = or_left (token_verdict (lex code)) _ e₁;
      count-fine = or_left (count_verdict (semicolons (placed_of (lex code)))) _ e₂;
      kinds-fine = or_left (kind_verdict (parts_in code)) _ e₃;
      standing-fine = or_left (where_verdict (sections_in code)) _ e₄;
      limits-fine = or_right (where_verdict (sections_in code)) _ e₄;
    }

pub fine-verdict : (code : List ℕ) → AllFine code → verdict code ≡ fine
unfolding verdict or_else
fine-verdict code f =
    rw (f.length-fine, f.tokens-fine, f.count-fine, f.kinds-fine, f.standing-fine, f.limits-fine)

-- ---- 1: the length

fine-between : (n most : ℕ) → cond (eqb n 0 || ltb most n) (refused answer.CodeLength 0) fine ≡ fine → (1 ≤ n) × (n ≤ most)
fine-between n most e =
    by_cases (eqb n 0)
    (λ t. not-refused (sym (rw t at e)))
    (λ t. by_cases (ltb most n)
    (λ u. not-refused (sym (rw (t, u) at e)))
    (λ u. let least = eqb-false n 0 t in (omega arith, ltb-false most n u)))

pub length-bounds : (code : List ℕ) → length_verdict code ≡ fine → (1 ≤ length code) × (length code ≤ 254)
unfolding length_verdict
length-bounds code e = let (least, most) = fine-between (length code) _ e in (least, omega arith)

bounds-length : (code : List ℕ) → 1 ≤ length code → length code ≤ 254 → length_verdict code ≡ fine
unfolding length_verdict
bounds-length code l m = rw (ne_eqb (length code) 0 (λ e. omega arith), le-ltb 254 (length code) m)

pub length-exactly : (code : List ℕ) (k : ℕ) → (verdict code ≡ refused answer.CodeLength k) ↔ WrongLength code k
unfolding length_verdict
length-exactly code k = (λ e. wrong (refused-by code answer.CodeLength k e).refuses, λ w. by-refused code answer.CodeLength k (refusing w))
  where
    wrong : length_verdict code ≡ refused answer.CodeLength k → WrongLength code k
    wrong r =
        by_cases (eqb (length code) 0)
        (λ t. let q : refused answer.CodeLength 0 ≡ refused answer.CodeLength k = rw t at r in
        record { place = cc; wrong = inl (eqb-true (length code) 0 t) })
        (λ t. by_cases (ltb 254 (length code))
        (λ u. let q : refused answer.CodeLength 0 ≡ refused answer.CodeLength k = rw (t, u) at r in
        record { place = cc; wrong = inr (ltb-true 254 (length code) u) })
        (λ u. not-refused (rw (t, u) at r)))

    test : (length code ≡ 0) ⊎ (254 < length code) → length_verdict code ≡ refused answer.CodeLength 0
    test (inl e) = rw (eq-eqb (length code) 0 e)
    test (inr l) = rw (ne_eqb (length code) 0 (λ e. omega arith), lt-ltb 254 (length code) l)

    refusing : WrongLength code k → RefusedBy code answer.CodeLength k
    refusing w = record { refuses = rw w.place (test w.wrong); before = λ i h. let z : i ≡ 0 = omega arith in rw z }

-- ---- 2: the tokens

onto-bad : (k : ℕ) (p : Placed) (l : Lexed) → onto p l ≡ bad k → l ≡ bad k
unfolding onto
onto-bad k p (good ps) e = not-bad e
onto-bad k p (bad j) e = e

onto-fine : (p : Placed) (l : Lexed) → token_verdict (onto p l) ≡ fine → token_verdict l ≡ fine
unfolding onto token_verdict
onto-fine p (good ps) e = refl
onto-fine p (bad k) e = e

-- the place of a broken token, found from a token's start on
record BrokenFrom (code : List ℕ) (j k : ℕ) : Type 0 where
  starts : TokenStart code k
  breaks-there : StepIs code k broken
  later : j ≤ k

module _ (code : List ℕ) where
  broken-from : (j : ℕ) (l : Lexed) (k : ℕ) → LexesTo code j l → TokenStart code j → l ≡ bad k → BrokenFrom code j k
  broken-from j l k (ends i e) h b = not-bad b
  broken-from j l k (breaks i s) h b =
      let same : k ≡ i = cc in
      record { starts = rw same h; breaks-there = rw same s; later = omega arith }
  broken-from j l k (reads i t more m s r) h b =
      let f = broken-from (i + suc more) m k r (next i t more h s) (onto-bad k _ m b) in
      record { starts = f.starts; breaks-there = f.breaks-there; later = omega (arith, f.later) }

  -- the step at a token's start from which lexing comes to a broken token at place k
  reads-or-breaks : (j : ℕ) (l : Lexed) (k : ℕ) → LexesTo code j l → l ≡ bad k → j < k → ReadsAt code j
  reads-or-breaks j l k (ends i e) b h = not-bad b
  reads-or-breaks j l k (breaks i s) b h = let same : k ≡ i = cc in absurd (omega arith)
  reads-or-breaks j l k (reads i t more m s r) b h = record { token = t; more = more; step = s }

token-bad : (l : Lexed) (a : Refusal) (k : ℕ) → token_verdict l ≡ refused a k → l ≡ bad k
unfolding token_verdict
token-bad (good ps) a k e = not-refused e
token-bad (bad j) a k e = let same : j ≡ k = cc in ap bad same

pub token-refused : (code : List ℕ) (k : ℕ) → verdict code ≡ refused answer.Token k → FirstBroken code k
token-refused code k e =
    let r = refused-by code answer.Token k e in
    let b = length-bounds code (r.before 1 (omega arith)) in
    let whole = token-bad (lex code) answer.Token k r.refuses in
    let there = broken-from code 0 (lex code) k (lexes code) begin whole in
    record {
      least = b.0;
      most = b.1;
      starts = there.starts;
      breaks-there = there.breaks-there;
      inside = step-inside code k broken there.breaks-there;
      earlier = λ j h. reads-or-breaks code j _ k (lexes-at code j) (at-start code (λ (l : Lexed). l ≡ bad k) (onto-bad k) whole j h);
      last = λ j h. (broken-from code j _ k (lexes-at code j) h (at-start code (λ (l : Lexed). l ≡ bad k) (onto-bad k) whole j h)).later;
    }

-- where lexing is bad from a token's start on, it is bad as a whole
bad-whole : (code : List ℕ) (k j : ℕ) → TokenStart code j → lex_from j 0 (drop j code) ≡ bad k → lex code ≡ bad k
unfolding lex onto
bad-whole code k j begin e = e
bad-whole code k j (next i t more h s) e = bad-whole code k i h (lex-front code i t more s ∙ rw e)

pub token-exactly : (code : List ℕ) (k : ℕ) → (verdict code ≡ refused answer.Token k) ↔ FirstBroken code k
unfolding token_verdict
token-exactly code k = (token-refused code k, λ b. by-refused code answer.Token k (refusing b))
  where
    refusing : FirstBroken code k → RefusedBy code answer.Token k
    refusing b =
        record {
          refuses = rw (bad-whole code k k b.starts (lex-front-broken code k b.breaks-there));
          before = earlier;
        }
      where
        earlier : FineBelow code 2
        earlier zero h = refl
        earlier (suc zero) h = bounds-length code b.least b.most
        earlier (suc (suc i)) h = absurd (omega arith)

-- ---- 4, 5 and 6: the sections

pub fine-none : (a : Refusal) (o : Option ℕ) → section_verdict a o ≡ fine → o ≡ none
unfolding section_verdict
fine-none a none e = refl
fine-none a (some j) e = not-refused (sym e)

section-some : (a b : Refusal) (o : Option ℕ) (k : ℕ) → section_verdict a o ≡ refused b k → o ≡ some k
unfolding section_verdict
section-some a b none k e = not-refused e
section-some a b (some j) k e = let same : j ≡ k = cc in ap some same

-- a test over sections refuses by the answer a at place k exactly when section k is the first that fails
module _ {A : Type 0} (f : ℕ → A → Bool) (xs : List A) (a : Refusal) (code : List ℕ) (k : ℕ) where
  section-exactly : (get_or (tests code) (number_of a) fine ≡ section_verdict a (first_failing f 0 xs))
      → (verdict code ≡ refused a k) ↔ FirstSection code (number_of a) f xs k
  unfolding section_verdict
  section-exactly is = (first, λ r. by-refused code a k (record { refuses = is ∙ rw (found r); before = r.before }))
    where
      first : verdict code ≡ refused a k → FirstSection code (number_of a) f xs k
      first e =
          let r = refused-by code a k e in
          let g = (first-exactly f xs k).0 (section-some a a (first_failing f 0 xs) k (sym is ∙ r.refuses)) in
          record {
            before = r.before;
            within = g.within;
            fails = λ d. rw (zero-add k) at (g.fails d);
            earlier = λ d j h. rw (zero-add j) at (g.earlier d j h);
          }

      found : FirstSection code (number_of a) f xs k → first_failing f 0 xs ≡ some k
      found r = (first-exactly f xs k).1
          (record { within = r.within; fails = λ d. rw (zero-add k) (r.fails d); earlier = λ d j h. rw (zero-add j) (r.earlier d j h) })

pub kind-exactly : (code : List ℕ) (k : ℕ)
    → (verdict code ≡ refused answer.Kind k) ↔ FirstSection code 4 (λ (i : ℕ) (p : Parts). fits p) (parts_in code) k
unfolding kind_verdict
kind-exactly code k = section-exactly _ _ answer.Kind code k refl

pub standing-exactly : (code : List ℕ) (k : ℕ)
    → (verdict code ≡ refused answer.Standing k) ↔ FirstSection code 5 (stands_at (length (sections_in code))) (sections_in code) k
unfolding where_verdict
standing-exactly code k = section-exactly _ _ answer.Standing code k refl

pub limit-exactly : (code : List ℕ) (k : ℕ)
    → (verdict code ≡ refused answer.Limit k) ↔ FirstSection code 6 (λ (i : ℕ) (p : Parts). within_limits p) (parts_in code) k
unfolding limit_verdict
limit-exactly code k = section-exactly _ _ answer.Limit code k refl

-- ---- 3: the semicolons

-- numbers that ascend, none below `low`
abbrev AscendFrom : ℕ → List ℕ → Type 0
AscendFrom low [] = Unit {0}
AscendFrom low (x ∷ xs) = (low ≤ x) × AscendFrom (suc x) xs

ascend-lower : (low least : ℕ) (xs : List ℕ) → least ≤ low → AscendFrom low xs → AscendFrom least xs
ascend-lower low least [] h a = tt
ascend-lower low least (x ∷ xs) h a = (omega (arith, a.0), a.1)

ascend-least : (low : ℕ) (xs : List ℕ) → AscendFrom low xs → (j : ℕ) → j < length xs → low ≤ get_or xs j 0
ascend-least low [] a j h = absurd (omega arith)
ascend-least low (x ∷ xs) a zero h = a.0
ascend-least low (x ∷ xs) a (suc j) h = omega (arith, a.0, ascend-least (suc x) xs a.1 j (omega arith))

ascend-at : (low : ℕ) (xs : List ℕ) → AscendFrom low xs → (i j : ℕ) → i < j → j < length xs → get_or xs i 0 < get_or xs j 0
ascend-at low [] a i j h l = absurd (omega arith)
ascend-at low (x ∷ xs) a i zero h l = absurd (omega arith)
ascend-at low (x ∷ xs) a zero (suc j) h l = ascend-least (suc x) xs a.1 j (omega arith)
ascend-at low (x ∷ xs) a (suc i) (suc j) h l = ascend-at (suc x) xs a.1 i j (omega arith) (omega arith)

all-at : (P : ℕ → Type 0) (xs : List ℕ) → All P xs → (i : ℕ) → i < length xs → P (get_or xs i 0)
all-at P [] a i h = absurd (omega arith)
all-at P (x ∷ xs) a zero h = a.0
all-at P (x ∷ xs) a (suc i) h = all-at P xs a.1 i (omega arith)

any-stands : (m : ℕ) (xs : List ℕ) → any (eqb m) xs ≡ true → StandsIn m xs
unfolding any
any-stands m [] e = absurd (true≢false (sym e))
any-stands m (x ∷ xs) e = by_cases (eqb m x)
    (λ t. record { index = 0; within = omega arith; same = sym (eqb-true m x t) })
    (λ t. let r = any-stands m xs (rw t at e) in record { index = suc r.index; within = omega arith; same = r.same })

is-semicolon : (t : Token) → is_semicolon t ≡ true → t ≡ semicolon
is-semicolon =
    by_token (λ (t : Token). is_semicolon t ≡ true → t ≡ semicolon) (λ us. no) (λ u. no) (λ u. no) (λ u. no) (λ p. no) no no no no (λ e. refl) no
    (λ h. no) (λ l n. no) (λ x n. no) (λ n. no) (λ w. no) (λ m. no) (λ p. no) (λ p n. no)

module _ (code : List ℕ) where
  semicolons-ascend : (k : ℕ) (l : Lexed) → LexesTo code k l → AscendFrom k (semicolons (placed_of l))
  unfolding semicolons placed_of onto
  semicolons-ascend k l (ends i e) = tt
  semicolons-ascend k l (breaks i s) = tt
  semicolons-ascend k l (reads i t more m s r) = put m (semicolons-ascend (i + suc more) m r)
    where
      put : (m : Lexed) → AscendFrom (i + suc more) (semicolons (placed_of m))
          → AscendFrom i (semicolons (placed_of (onto (record { token = t; start = i }) m)))
      put (good ps) a = by_cases (is_semicolon t)
          (λ e. rw e (omega arith, ascend-lower (i + suc more) (suc i) (semicolons ps) (omega arith) a))
          (λ e. rw e (ascend-lower (i + suc more) i (semicolons ps) (omega arith) a))
      put (bad j) a = tt

  semicolons-start : (k : ℕ) (l : Lexed) → LexesTo code k l → TokenStart code k → All (SemicolonAt code) (semicolons (placed_of l))
  unfolding semicolons placed_of onto
  semicolons-start k l (ends i e) h = tt
  semicolons-start k l (breaks i s) h = tt
  semicolons-start k l (reads i t more m s r) h = put m (semicolons-start (i + suc more) m r (next i t more h s))
    where
      put : (m : Lexed) → All (SemicolonAt code) (semicolons (placed_of m))
          → All (SemicolonAt code) (semicolons (placed_of (onto (record { token = t; start = i }) m)))
      put (good ps) a = by_cases (is_semicolon t)
          (λ e. rw e (record { starts = h; more = more; step = rw (is-semicolon t e) at s }, a))
          (λ e. rw e a)
      put (bad j) a = tt

  -- the semicolons among these tokens are semicolons of the whole code
  abbrev InWhole : Lexed → Type 0
  InWhole l = (m : ℕ) → any (eqb m) (semicolons (placed_of l)) ≡ true → any (eqb m) (semicolons (placed_of (lex code))) ≡ true

  whole-behind : (p : Placed) (l : Lexed) → InWhole (onto p l) → InWhole l
  unfolding semicolons placed_of onto any
  whole-behind p (bad k) h m e = h m e
  whole-behind p (good ps) h m e = h m (by_cases (is_semicolon p.token)
      (λ t. rw t (by_cases (eqb m p.start) (λ u. rw u) (λ u. rw u e)))
      (λ t. rw t e))

  semicolons-all : token_verdict (lex code) ≡ fine → (j : ℕ) → SemicolonAt code j → StandsIn j (semicolons (placed_of (lex code)))
  unfolding semicolons placed_of onto any token_verdict
  semicolons-all e j s =
      let front = lex-front code j semicolon s.more s.step in
      let here = rw front at (at-start code InWhole whole-behind (λ m t. t) j s.starts) in
      let sound = rw front at (at-start code (λ (l : Lexed). token_verdict l ≡ fine) onto-fine e j s.starts) in
      any-stands j _ (stands (lex_from (j + suc s.more) 0 (drop (j + suc s.more) code)) sound here)
    where
      stands : (l : Lexed) → token_verdict (onto (record { token = semicolon; start = j }) l) ≡ fine
          → InWhole (onto (record { token = semicolon; start = j }) l) → any (eqb j) (semicolons (placed_of (lex code))) ≡ true
      stands (good ps) f h = h j (rw (eq-eqb j j refl))
      stands (bad k) f h = not-refused (sym f)

pub semicolon-places : (code : List ℕ) → token_verdict (lex code) ≡ fine → SemicolonPlaces code (semicolons (placed_of (lex code)))
semicolon-places code e =
    let places = semicolons (placed_of (lex code)) in
    record {
      ascend = ascend-at 0 places (semicolons-ascend code 0 (lex code) (lexes code));
      each = all-at (SemicolonAt code) places (semicolons-start code 0 (lex code) (lexes code) begin);
      all = semicolons-all code e;
    }

not-above : (xs : List ℕ) → ((i j : ℕ) → i < j → j < length xs → get_or xs i 0 < get_or xs j 0) → (i j : ℕ) → i ≤ j → j < length xs
    → get_or xs i 0 ≤ get_or xs j 0
not-above xs ascend i j h l = by_cases (ltb i j)
    (λ t. omega (arith, ascend i j (ltb-true i j t) l))
    (λ t. let n = ltb-false i j t in let same : i ≡ j = omega arith in rw same (omega arith))

-- of two lists of a code's semicolons the second is as long as the first, and no place of it comes later
module _ (code : List ℕ) (ps qs : List ℕ) (p : SemicolonPlaces code ps) (q : SemicolonPlaces code qs) where
  stands : (i : ℕ) → i < length ps → StandsIn (get_or ps i 0) qs
  stands i h = q.all (get_or ps i 0) (p.each i h)

  not-before : (i : ℕ) (h : i < length ps) → i ≤ (stands i h).index
  not-before zero h = omega arith
  not-before (suc i) h =
      let l : i < length ps = omega arith in
      let s = stands i l in
      let t = stands (suc i) h in
      by_cases (ltb s.index t.index)
      (λ b. omega (arith, ltb-true s.index t.index b, not-before i l))
      (λ b. let n = ltb-false s.index t.index b in
      absurd (omega (arith, not-above qs q.ascend t.index s.index n s.within, p.ascend i (suc i) (omega arith) h, s.same, t.same)))

  no-later : (i : ℕ) → i < length ps → (i < length qs) × (get_or qs i 0 ≤ get_or ps i 0)
  no-later i h =
      let s = stands i h in
      let n = not-before i h in
      (omega (arith, s.within), omega (arith, s.same, not-above qs q.ascend i s.index n s.within))

count-many : (places : List ℕ) (a : Refusal) (k : ℕ) → count_verdict places ≡ refused a k → (3 < length places) × (get_or places 3 0 ≡ k)
unfolding count_verdict
count-many places a k e = by_cases (ltb 3 (length places))
    (λ t. let q : refused answer.SectionCount (get_or places 3 0) ≡ refused a k = rw t at e in (ltb-true 3 (length places) t, cc))
    (λ t. not-refused (rw t at e))

-- where test 3 refuses nothing there are at most three semicolons
pub count-few : (places : List ℕ) → count_verdict places ≡ fine → length places ≤ 3
unfolding count_verdict
count-few places e = by_cases (ltb 3 (length places))
    (λ t. not-refused (sym (rw t at e)))
    (λ t. ltb-false 3 (length places) t)

pub count-refused : (code : List ℕ) (k : ℕ) → verdict code ≡ refused answer.SectionCount k → FourthSemicolon code k
count-refused code k e =
    let r = refused-by code answer.SectionCount k e in
    let sound = r.before 2 (omega arith) in
    let p = semicolon-places code sound in
    let c = count-many (semicolons (placed_of (lex code))) answer.SectionCount k r.refuses in
    record {
      before = r.before;
      places = semicolons (placed_of (lex code));
      semicolons = p;
      many = c.0;
      fourth = c.1;
      here = rw c.1 at (p.each 3 c.0);
    }

pub count-exactly : (code : List ℕ) (k : ℕ) → (verdict code ≡ refused answer.SectionCount k) ↔ FourthSemicolon code k
unfolding count_verdict
count-exactly code k = (count-refused code k, λ f. by-refused code answer.SectionCount k (record { refuses = counted f; before = f.before }))
  where
    counted : FourthSemicolon code k → count_verdict (semicolons (placed_of (lex code))) ≡ refused answer.SectionCount k
    counted f =
        let found = semicolon-places code (f.before 2 (omega arith)) in
        let far = no-later code f.places _ f.semicolons found 3 f.many in
        let near = no-later code _ f.places found f.semicolons 3 far.0 in
        let same : get_or (semicolons (placed_of (lex code))) 3 0 ≡ k = omega (arith, f.fourth, far.1, near.1) in
        rw (lt-ltb 3 (length (semicolons (placed_of (lex code)))) far.0, same)
