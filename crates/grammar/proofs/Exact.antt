-- A code is refused by none of 1 to 6 exactly when the grammar derives it.
-- Assumes nothing.
use Prim.Native.Nat.{ℕ, suc, ◌≤◌}
use native.Mathlib.Omega.{arith}
use mathlib.Core.Path.{◌≡◌, refl, sym, ap, subst, ◌∙◌}
use mathlib.Core.Bool.{Bool, true}
use mathlib.Core.List.{List, [], ◌∷◌, ◌++◌, map, append-nil}
use mathlib.Core.Logic.{◌↔◌}
use mathlib.Core.Option.{Option, none, some}
use lib.ListN.{length, length-map}
use borrow.Author.Tests.{le-ltb, ne_eqb}
use Rattle.answers.specs.declared.Refusal.TheVariants as answer
use Rattle.lists.specs.Lists.{every, All, first_failing}
use Rattle.lists.proofs.Bools.{by_cases}
use Rattle.formats.specs.Tokens.{Token, semicolon, Lexed, good, bad, lex}
use Rattle.formats.specs.Kinds.{Parts, parts_of, section_of, fits}
use Rattle.formats.specs.Where.{stands_at}
use Rattle.formats.specs.Limits.{within_limits}
use Rattle.formats.specs.Accept.{placed_of, tokens_of, semicolons, split, parts_in, sections_in, fine, length_verdict, token_verdict, count_verdict, section_verdict, kind_verdict, where_verdict, limit_verdict, verdict}
use Rattle.formats.proofs.ItemCount.{split-length, semicolons-length}
use Rattle.formats.proofs.First.{AllFine, verdict-fine, fine-verdict, length-bounds, count-few, fine-none}
use Rattle.grammar.specs.Units.{Spelled, done, token}
use Rattle.grammar.specs.Codes as codes
use Rattle.grammar.specs.Codes.{all-condition, all_one, all_two, all_three, all-four, Derives}
use Rattle.grammar.proofs.Tests.{every_in}
use Rattle.grammar.proofs.Fronts.{is_shown, spells-front}
use Rattle.grammar.proofs.Lexed.{Gives, lex-spelled, spelled-lex}
use Rattle.grammar.proofs.PlainBodies.{NoSemicolon}
use Rattle.grammar.proofs.Sections.{Passes, passed, any_of, fourth-of, one_of, any-passes, fourth-passes, condition-passes}
use Rattle.grammar.proofs.Split.{behind, join, join-split, split-each, split_plain, split_one, split-before}

-- ---- a colour that units spell is above 0, and a literal has a unit

spelled-shown : {us : List ℕ} {ts : List Token} → Spelled us ts → every is_shown ts ≡ true
unfolding every
spelled-shown done = refl
spelled-shown (token {t = t} {ts = ts} s d) = every_in is_shown t ts (spells-front s).shown (spelled-shown d)

-- ---- the tests of each section

-- the sections from place k on, of n
abbrev PassAll : ℕ → ℕ → List (List Token) → Type 0
PassAll n k [] = Unit {0}
PassAll n k (s ∷ ss) = Passes n k s × PassAll n (suc k) ss

module _ {A : Type 0} (f : ℕ → A → Bool) where
  none-parts : (k : ℕ) (x : A) (xs : List A) → first_failing f k (x ∷ xs) ≡ none → (f k x ≡ true) × (first_failing f (suc k) xs ≡ none)
  unfolding first_failing
  none-parts k x xs e = by_cases (f k x) (λ h. (h, rw h at e)) (λ h. absurd (some-none k (rw h at e)))
    where
      some-none : (k : ℕ) → ◌≡◌ {A = Option ℕ} (some k) none → ⊥
      some-none k e = let z : ◌≡◌ {A = ℕ} 0 1 = cc in absurd (omega arith)

  none_in : (k : ℕ) (x : A) (xs : List A) → f k x ≡ true → first_failing f (suc k) xs ≡ none → first_failing f k (x ∷ xs) ≡ none
  unfolding first_failing
  none_in k x xs e h = rw e h

abbrev fits_at : ℕ → Parts → Bool
fits_at i p = fits p

abbrev within_at : ℕ → Parts → Bool
within_at i p = within_limits p

-- what each of the three tests finds, section by section
record NoneFail (n k : ℕ) (ss : List (List Token)) : Type 0 where
  kinds : first_failing fits_at k (map parts_of ss) ≡ none
  standing : first_failing (stands_at n) k (map section_of (map parts_of ss)) ≡ none
  limits : first_failing within_at k (map parts_of ss) ≡ none

pass_all : (n k : ℕ) (ss : List (List Token)) → All NoSemicolon ss → NoneFail n k ss → PassAll n k ss
pass_all n k [] a f = tt
pass_all n k (s ∷ ss) a f =
    let (f₁, f₂) = none-parts fits_at k (parts_of s) (map parts_of ss) f.kinds in
    let (s₁, s₂) = none-parts (stands_at n) k (section_of (parts_of s)) (map section_of (map parts_of ss)) f.standing in
    let (w₁, w₂) = none-parts within_at k (parts_of s) (map parts_of ss) f.limits in (
      record { plain = a.0; fitted = f₁; stands = s₁; within = w₁ },
      pass_all n (suc k) ss a.1 (record { kinds = f₂; standing = s₂; limits = w₂ }),
    )

none-fail : (n k : ℕ) (ss : List (List Token)) → PassAll n k ss → NoneFail n k ss
unfolding first_failing
none-fail n k [] p = record { kinds = refl; standing = refl; limits = refl }
none-fail n k (s ∷ ss) p =
    let f = none-fail n (suc k) ss p.1 in
    record {
      kinds = none_in fits_at k (parts_of s) (map parts_of ss) p.0.fitted f.kinds;
      standing = none_in (stands_at n) k (section_of (parts_of s)) (map section_of (map parts_of ss)) p.0.stands f.standing;
      limits = none_in within_at k (parts_of s) (map parts_of ss) p.0.within f.limits;
    }

-- ---- from All to the tests

-- the sections of tokens that All derives
record Parted (ts : List Token) : Type 0 where
  sections : List (List Token)
  are : split ts ≡ sections
  few : length sections ≤ 4
  pass : PassAll (length sections) 0 sections

parted-one : (ts : List Token) → Passes 1 0 ts → Parted ts
parted-one ts p = record { sections = ts ∷ []; are = split_one ts p.plain; few = omega arith; pass = (p, tt) }

all-parted : {ts : List Token} → codes.All ts → Parted ts
all-parted {ts} (all-condition c d b) = parted-one ts (condition-passes c d b)
all-parted {ts} (all_one d) = parted-one ts (any-passes 1 0 _ _ refl d)
all-parted (all_two s t a b e) =
    let p = any-passes 2 0 _ _ refl a in
    let q = any-passes 2 1 _ _ refl b in
    record {
      sections = s ∷ t ∷ [];
      are = rw (e, split-before s t p.plain, split_one t q.plain);
      few = omega arith;
      pass = (p, (q, tt));
    }
all-parted (all_three s t u a b c e) =
    let p = any-passes 3 0 _ _ refl a in
    let q = any-passes 3 1 _ _ refl b in
    let r = any-passes 3 2 _ _ refl c in
    record {
      sections = s ∷ t ∷ u ∷ [];
      are = rw (e, split-before s (t ++ semicolon ∷ u) p.plain, split-before t u q.plain, split_one u r.plain);
      few = omega arith;
      pass = (p, (q, (r, tt)));
    }
all-parted (all-four s t u v a b c d e) =
    let p = any-passes 4 0 _ _ refl a in
    let q = any-passes 4 1 _ _ refl b in
    let r = any-passes 4 2 _ _ refl c in
    let x = fourth-passes d in
    record {
      sections = s ∷ t ∷ u ∷ v ∷ [];
      are = rw (
        e,
        split-before s (t ++ semicolon ∷ (u ++ semicolon ∷ v)) p.plain,
        split-before t (u ++ semicolon ∷ v) q.plain,
        split-before u v r.plain,
        split_one v x.plain,
      );
      few = omega arith;
      pass = (p, (q, (r, (x, tt))));
    }

-- ---- from the tests to All

abbrev AllShown : List (List Token) → Type 0
AllShown ss = All (λ (s : List Token). every is_shown s ≡ true) ss

derive-all : (ts : List Token) (ss : List (List Token)) → join ss ≡ ts → AllShown ss → PassAll (length ss) 0 ss → 1 ≤ length ss → length ss ≤ 4 → codes.All ts
unfolding join behind
derive-all ts [] j c p h l = absurd (omega arith)
derive-all ts (s ∷ []) j c p h l = subst codes.All (sym (append-nil s) ∙ j) (one_of (passed c.0 p.0))
derive-all ts (s ∷ t ∷ []) j c p h l =
    all_two s t (any_of 2 0 (passed c.0 p.0)) (any_of 2 1 (passed c.1.0 p.1.0)) (sym j ∙ (rw (append-nil t)))
derive-all ts (s ∷ t ∷ u ∷ []) j c p h l =
    all_three s t u (any_of 3 0 (passed c.0 p.0)) (any_of 3 1 (passed c.1.0 p.1.0))
    (any_of 3 2 (passed c.1.1.0 p.1.1.0)) (sym j ∙ (rw (append-nil u)))
derive-all ts (s ∷ t ∷ u ∷ v ∷ []) j c p h l =
    all-four s t u v (any_of 4 0 (passed c.0 p.0)) (any_of 4 1 (passed c.1.0 p.1.0))
    (any_of 4 2 (passed c.1.1.0 p.1.1.0)) (fourth-of (passed c.1.1.1.0 p.1.1.1.0)) (sym j ∙ (rw (append-nil v)))
derive-all ts (s ∷ t ∷ u ∷ v ∷ w ∷ ss) j c p h l = absurd (omega arith)

-- ---- whole codes

good-lexed : (l : Lexed) → token_verdict l ≡ fine → l ≡ good (placed_of l)
unfolding token_verdict placed_of
good-lexed (good ps) e = refl
good-lexed (bad k) e = let z : ◌≡◌ {A = ℕ} 0 1 = cc in absurd (omega arith)

sections-length : (ss : List (List Token)) → length (map section_of (map parts_of ss)) ≡ length ss
sections-length ss = length-map (map parts_of ss) section_of ∙ length-map ss parts_of

all-fine-none : (code : List ℕ) → AllFine code → NoneFail (length (split (tokens_of (placed_of (lex code))))) 0 (split (tokens_of (placed_of (lex code))))
unfolding kind_verdict where_verdict limit_verdict parts_in sections_in
all-fine-none code f =
    let ss = split (tokens_of (placed_of (lex code))) in
    record {
      kinds = fine-none answer.Kind (first_failing fits_at 0 (map parts_of ss)) f.kinds-fine;
      standing = rw (sections-length ss) at (fine-none answer.Standing (first_failing (stands_at (length (map section_of (map parts_of ss)))) 0 (map section_of (map parts_of ss))) f.standing-fine);
      limits = fine-none answer.Limit (first_failing within_at 0 (map parts_of ss)) f.limits-fine;
    }

accepted-derives : (code : List ℕ) → verdict code ≡ fine → Derives code
accepted-derives code e =
    let f = verdict-fine code e in
    let (least, most) = length-bounds code f.length-fine in
    let ps = placed_of (lex code) in
    let ts = tokens_of ps in
    let s : Spelled code ts = lex-spelled code ps (good-lexed (lex code) f.tokens-fine) in
    let sections : length (split ts) ≡ suc (length (semicolons ps)) = split-length ts ∙ ap suc (sym (semicolons-length ps)) in
    let few = count-few (semicolons ps) f.count-fine in
    record {
      least = least;
      most = most;
      tokens = ts;
      spelled = s;
      derived = derive-all ts (split ts) (join-split ts) (split-each is_shown ts (spelled-shown s))
          (pass_all (length (split ts)) 0 (split ts) (split_plain ts) (all-fine-none code f)) (omega arith) (omega arith);
    }

-- each test finds nothing in a code of these tokens and sections
length-fine : (code : List ℕ) → 1 ≤ length code → length code ≤ 254 → length_verdict code ≡ fine
unfolding length_verdict
length-fine code l m = rw (ne_eqb (length code) 0 (λ e. omega arith), le-ltb 254 (length code) m)

count-fine : (places : List ℕ) → length places ≤ 3 → count_verdict places ≡ fine
unfolding count_verdict
count-fine places h = rw (le-ltb 3 (length places) h)

derives-fine : (code : List ℕ) (ts : List Token) → 1 ≤ length code → length code ≤ 254 → Gives (lex code) ts → Parted ts → AllFine code
unfolding token_verdict placed_of kind_verdict where_verdict limit_verdict section_verdict parts_in sections_in
derives-fine code ts l m g p =
    let ss = p.sections in
    let n = none-fail (length ss) 0 ss p.pass in
    let parts : split (tokens_of g.placed) ≡ ss = ap split g.are ∙ p.are in
    let few = p.few in
    let sections : suc (length (semicolons g.placed)) ≡ length ss = ap suc (semicolons-length g.placed) ∙ sym (split-length (tokens_of g.placed)) ∙ ap length parts in
    record {
      length-fine = length-fine code l m;
      tokens-fine = rw g.is-good;
      count-fine = rw g.is-good (count-fine (semicolons g.placed) (omega arith));
      kinds-fine = rw (g.is-good, parts, n.kinds);
      standing-fine = rw (g.is-good, parts, sections-length ss, n.standing);
      limits-fine = rw (g.is-good, parts, n.limits);
    }

derives-accepted : (code : List ℕ) → Derives code → verdict code ≡ fine
derives-accepted code d =
    fine-verdict code (derives-fine code d.tokens d.least d.most (spelled-lex code d.tokens d.spelled) (all-parted d.derived))

-- "A code is accepted when none of 1 to 6 is given": exactly when the grammar derives it
pub accepts-exactly : (code : List ℕ) → (verdict code ≡ fine) ↔ Derives code
accepts-exactly code = (accepted-derives code, derives-accepted code)
