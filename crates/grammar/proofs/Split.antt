-- Sections between semicolons: splitting, and joining what was split.
-- Assumes nothing.
use Prim.Native.Nat.{◌≤◌}
use native.Mathlib.Omega.{arith}
use mathlib.Core.Path.{◌≡◌, refl, sym, ap, ◌∙◌}
use mathlib.Core.Bool.{Bool, true}
use mathlib.Core.List.{List, [], ◌∷◌, ◌++◌}
use lib.ListN.{length}
use borrow.Author.Tests.{not-true}
use Rattle.lists.specs.Lists.{every, All}
use Rattle.lists.proofs.Bools.{by_cases}
use Rattle.formats.specs.Tokens.{Token, semicolon}
use Rattle.formats.specs.Kinds.{is_semicolon}
use Rattle.formats.specs.Accept.{joined, split}
use Rattle.formats.proofs.ItemCount.{split-length}
use Rattle.grammar.proofs.Tests.{every-parts}
use Rattle.grammar.proofs.Quiet.{known}
use Rattle.grammar.proofs.PlainBodies.{plain_token, NoSemicolon}

-- a semicolon before each of the sections, and between them
unfoldable pub behind : List (List Token) → List Token
behind [] = []
behind (s ∷ ss) = semicolon ∷ (s ++ behind ss)

unfoldable pub join : List (List Token) → List Token
join [] = []
join (s ∷ ss) = s ++ behind ss

join-joined : (t : Token) (ss : List (List Token)) → join (joined t ss) ≡ t ∷ join ss
unfolding join behind joined
join-joined t [] = refl
join-joined t (s ∷ ss) = refl

join-behind : (ss : List (List Token)) → 1 ≤ length ss → join ([] ∷ ss) ≡ semicolon ∷ join ss
unfolding join behind
join-behind [] h = absurd (omega arith)
join-behind (s ∷ ss) h = refl

pub join-split : (ts : List Token) → join (split ts) ≡ ts
unfolding split join behind
join-split [] = refl
join-split (t ∷ ts) =
    let e : join (split ts) ≡ ts = join-split ts in
    by_cases (is_semicolon t)
    (λ h.
    rw h
    (join-behind (split ts) (omega (arith, split-length ts)) ∙ ap (◌∷◌ semicolon) e
    ∙ ap (λ (x : Token). x ∷ ts) (sym ((known t).0 h))))
    (λ h. rw h (join-joined t (split ts) ∙ ap (◌∷◌ t) e))

-- what holds of all tokens holds in each section
joined-each : (f : Token → Bool) (t : Token) (ss : List (List Token)) → f t ≡ true → All (λ (s : List Token). every f s ≡ true) ss
    → All (λ (s : List Token). every f s ≡ true) (joined t ss)
unfolding joined every
joined-each f t [] e a = (rw e, tt)
joined-each f t (s ∷ ss) e a = (rw e a.0, a.1)

pub split-each : (f : Token → Bool) (ts : List Token) → every f ts ≡ true → All (λ (s : List Token). every f s ≡ true) (split ts)
unfolding split every
split-each f [] e = (refl, tt)
split-each f (t ∷ ts) e =
    let (a, b) = every-parts f t ts e in
    by_cases (is_semicolon t)
    (λ h. rw h (refl, split-each f ts b))
    (λ h. rw h (joined-each f t (split ts) a (split-each f ts b)))

pub split_plain : (ts : List Token) → All NoSemicolon (split ts)
unfolding split every
split_plain [] = (refl, tt)
split_plain (t ∷ ts) =
    by_cases (is_semicolon t)
    (λ h. rw h (refl, split_plain ts))
    (λ h. rw h (joined-each plain_token t (split ts) (rw h) (split_plain ts)))

-- a section without a semicolon, alone and before others
pub split_one : (s : List Token) → NoSemicolon s → split s ≡ s ∷ []
unfolding split joined
split_one [] n = refl
split_one (t ∷ s) n =
    let (a, b) = every-parts plain_token t s n in
    rw (not-true (is_semicolon t) a, split_one s b)

pub split-before : (s ts : List Token) → NoSemicolon s → split (s ++ semicolon ∷ ts) ≡ s ∷ split ts
unfolding split joined
split-before [] ts n = refl
split-before (t ∷ s) ts n =
    let (a, b) = every-parts plain_token t s n in
    rw (not-true (is_semicolon t) a, split-before s ts b)
