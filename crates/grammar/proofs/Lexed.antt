-- Level 1, whole codes: a code's units spell exactly the tokens that lexing gives.
-- Assumes nothing.
use Prim.Native.Nat.{ℕ, zero, suc, ◌+◌}
use native.Mathlib.Omega.{arith}
use mathlib.Core.Path.{◌≡◌, refl, sym, ap, subst, ◌∙◌}
use mathlib.Core.List.{List, [], ◌∷◌}
use mathlib.Core.Logic.{◌↔◌}
use lib.ListN.{drop}
use lib.Seq.{drop-nil}
use Rattle.formats.specs.Tokens.{Token, Step, read, broken, step_at, Placed, Lexed, good, bad, onto, after_step, lex_from, lex}
use Rattle.formats.specs.Accept.{placed_of, tokens_of}
use Rattle.formats.proofs.Lexing.{lex-skip}
use Rattle.grammar.specs.Units.{Spells, Spelled, done, token}
use Rattle.grammar.proofs.Fronts.{step_of, Front, spells-front}
use Rattle.grammar.proofs.Steps.{step-spells}

-- the units spell what lexing gives
abbrev Good : List ℕ → Lexed → Type 0
Good us (good ps) = Spelled us (tokens_of ps)
Good us (bad k) = Unit {0}

onto-good : (t : Token) (k : ℕ) (us vs : List ℕ) (l : Lexed) → Spells t us vs → Good vs l → Good us (onto (record { token = t; start = k }) l)
unfolding onto tokens_of
onto-good t k us vs (good ps) s g = token s g
onto-good t k us vs (bad j) s g = tt

lex-good : (k skip : ℕ) (us : List ℕ) → Good (drop skip us) (lex_from k skip us)
unfolding lex_from tokens_of after_step
lex-good k skip [] = rw (drop-nil {A = ℕ} skip) done
lex-good k (suc skip) (u ∷ us) = lex-good (suc k) skip us
lex-good k zero (u ∷ us) = step-good (step_at u us) refl (λ more. lex-good (suc k) more us)
  where
    step-good : (s : Step) → step_at u us ≡ s → ((more : ℕ) → Good (drop more us) (lex_from (suc k) more us))
        → Good (u ∷ us) (after_step k s (λ (more : ℕ). lex_from (suc k) more us))
    step-good (read t more) e g = onto-good t k (u ∷ us) (drop more us) (lex_from (suc k) more us) (step-spells u us t more e) (g more)
    step-good broken e g = tt

pub lex-spelled : (code : List ℕ) (ps : List Placed) → lex code ≡ good ps → Spelled code (tokens_of ps)
unfolding lex
lex-spelled code ps e = subst (Good code) e (lex-good 0 0 code)

front-lex : (k : ℕ) (us : List ℕ) (t : Token) (more : ℕ) → step_of us ≡ read t more
    → lex_from k 0 us ≡ onto (record { token = t; start = k }) (lex_from (suc k + more) 0 (drop (suc more) us))
unfolding lex_from after_step
front-lex k [] t more e = let z : ◌≡◌ {A = ℕ} 0 1 = cc in absurd (omega arith)
front-lex k (u ∷ us) t more e = rw e (ap (onto (record { token = t; start = k })) (lex-skip (suc k) more us))

-- lexing gives the tokens ts
pub record Gives (l : Lexed) (ts : List Token) : Type 0 where
  pub placed : List Placed
  pub is-good : l ≡ good placed
  pub are : tokens_of placed ≡ ts

spelled-from : {us : List ℕ} {ts : List Token} → Spelled us ts → (k : ℕ) → Gives (lex_from k 0 us) ts
unfolding lex_from onto tokens_of
spelled-from done k = record { placed = []; is-good = refl; are = refl }
spelled-from (token {t = t} {us = us} {vs = vs} {ts = ts} s d) k = from (spells-front s) (λ n. spelled-from d n)
  where
    from : Front t us vs → ((n : ℕ) → Gives (lex_from n 0 vs) ts) → Gives (lex_from k 0 us) (t ∷ ts)
    from f g =
        let r = g (suc k + f.more) in
        record {
          placed = record { token = t; start = k } ∷ r.placed;
          is-good = front-lex k us t f.more f.step ∙ (rw (f.left, r.is-good));
          are = ap (◌∷◌ t) r.are;
        }

pub spelled-lex : (code : List ℕ) (ts : List Token) → Spelled code ts → Gives (lex code) ts
unfolding lex
spelled-lex code ts d = spelled-from d 0

-- level 1: lexing gives exactly the tokens that the units spell
pub spelled-exactly : (code : List ℕ) (ts : List Token) → Gives (lex code) ts ↔ Spelled code ts
spelled-exactly code ts = ((λ g. rw g.are at (lex-spelled code g.placed g.is-good)), spelled-lex code ts)

-- lexing gives one list of tokens, so units spell one
one_list : (l : Lexed) (ts us : List Token) → Gives l ts → Gives l us → ts ≡ us
unfolding placed_of
one_list l ts us g h =
    let same : g.placed ≡ h.placed = ap placed_of (sym g.is-good ∙ h.is-good) in
    sym g.are ∙ ap tokens_of same ∙ h.are

pub spelled-once : (code : List ℕ) (ts us : List Token) → Spelled code ts → Spelled code us → ts ≡ us
spelled-once code ts us d e = one_list (lex code) ts us (spelled-lex code ts d) (spelled-lex code us e)
