-- Laws of the buffer of tokens: a token put, and what the loop that fills it keeps.
-- Assumes nothing.
use Prim.Native.Nat.{ℕ, suc, ◌+◌, ◌≤◌, ◌<◌}
use mathlib.Core.Path.{◌≡◌, refl, sym, ap, ◌∙◌}
use mathlib.Core.List.{List, [], ◌∷◌, ◌++◌, append_assoc, append-nil}
use native.Mathlib.Omega.{arith}
use native.Mathlib.Numerals.{add-one}
use lib.ListN.{length, take, drop, get_or, set, length-set, drop_of_length-le}
use lib.Seq.{take-suc-set, drop-cons}
use Rattle.std.proofs.Common.{Ok, Err, Some, None}
use Rattle.std.proofs.lemmas.List.{map-append}
use Rattle.formats.specs.Tokens.{read, broken, step_at, Placed, Lexed, good, bad, onto, lex_from, lex}
use Rattle.formats.specs.Starts.{StepIs}
use Rattle.formats.proofs.Lexing.{lex-front, lex-front-broken, read-inside}
use Rattle.lexing.specs.declared.Step.{Step}
use Rattle.marks.specs.declared.Mark.{Mark}
use Rattle.marks.specs.Marks.{token_at, marked, placed, placed_in}
use Rattle.lexing.specs.Marks.{step_behind, step_meant}
use Rattle.lexing.specs.Buffer.{lex_meant, semicolons_in}
use Rattle.lexing.proofs.Semicolons.{count-hit, count-miss}

-- the tokens ps, and behind them those of a lexing
unfoldable pub onto_all : List Placed → Lexed → Lexed
onto_all ps (good qs) = good (ps ++ qs)
onto_all ps (bad k) = bad k

onto-all : (ps : List Placed) (p : Placed) (l : Lexed) → onto_all ps (onto p l) ≡ onto_all (ps ++ (p ∷ [])) l
unfolding onto_all onto
onto-all ps p (good qs) = ap good (sym (append_assoc ps (p ∷ []) qs))
onto-all ps p (bad k) = refl

-- what the loop keeps: the lexing of the whole is the n tokens in the buffer, k of them semicolons, and then that of what is left from `at` on
pub record Filling (code : List ℕ) (tokens : List Mark) (room at n k : ℕ) : Type 0 where
  pub small : length code ≤ 254
  pub wide : 254 ≤ room
  pub size : length tokens ≡ room
  pub inside : at ≤ length code
  pub few : n ≤ at
  pub fewer : k ≤ n
  pub counted : k ≡ length (semicolons_in (take n tokens))
  pub same : lex code ≡ onto_all (placed_in code (take n tokens)) (lex_from at 0 (drop at code))

pub filling-start : (code : List ℕ) (tokens : List Mark) → length code ≤ 254 → 254 ≤ length tokens → Filling code tokens (length tokens) 0 0 0
unfolding lex placed_in onto_all semicolons_in
filling-start code tokens h w = record {
  small = h;
  wide = w;
  size = refl;
  inside = omega arith;
  few = omega arith;
  fewer = omega arith;
  counted = refl;
  same = go (lex_from 0 0 code);
}
  where
    go : (l : Lexed) → l ≡ onto_all [] l
    go (good ps) = refl
    go (bad k) = refl

module _ (code : List ℕ) (tokens : List Mark) (room at n k : ℕ) (inv : Filling code tokens room at n k) where
  pub filling-end : length code ≤ at → lex_meant code tokens (Ok (record { tokens = n; semicolons = k })) ≡ lex code
  unfolding lex_meant onto_all lex_from
  filling-end h = sym (inv.same ∙ rw (drop_of_length-le code h) (ap good (append-nil _)))

  module _ (less : at < length code) where
    pub filling-broken : step_meant code at None ≡ step_at (get_or code at 0) (drop (suc at) code) → lex_meant code tokens (Err at) ≡ lex code
    unfolding lex_meant onto_all step_meant step_behind
    filling-broken e =
        let here : StepIs code at broken = record { unit = get_or code at 0; behind = drop (suc at) code; stands = drop-cons code at 0 less; step = sym e } in
        sym (inv.same ∙ rw (lex-front-broken code at here))

    module _ (s : Step) (e : step_meant code at (Some s) ≡ step_at (get_or code at 0) (drop (suc at) code)) where
      abbrev mark : Mark
      mark = record { form = s.form; argument = s.argument; start = at }

      here : StepIs code at (read (marked code mark) s.more)
      unfolding step_meant step_behind marked token_at
      here = record { unit = get_or code at 0; behind = drop (suc at) code; stands = drop-cons code at 0 less; step = sym e }

      pub filling-inside : at + (s.more + 1) ≤ length code
      filling-inside = omega (arith, read-inside code at (marked code mark) s.more here)

      front : lex_from at 0 (drop at code) ≡ onto (placed code mark) (lex_from (at + (s.more + 1)) 0 (drop (at + (s.more + 1)) code))
      unfolding placed
      front = rw (add-one s.more) (lex-front code at (marked code mark) s.more here)

      abbrev filled : List Mark
      filled = set tokens n mark

      taken_put : take (n + 1) filled ≡ take n tokens ++ (mark ∷ [])
      taken_put = rw (add-one n) (take-suc-set tokens n mark (omega (arith, inv.size)))

      placed_put : placed_in code (take (n + 1) filled) ≡ placed_in code (take n tokens) ++ (placed code mark ∷ [])
      unfolding placed_in
      placed_put = rw taken_put (map-append (placed code) (take n tokens) (mark ∷ []))

      filling_step : (j : ℕ) → j ≤ n + 1 → j ≡ length (semicolons_in (take (n + 1) filled)) → Filling code filled room (at + (s.more + 1)) (n + 1) j
      filling_step j most told = record {
        small = inv.small;
        wide = inv.wide;
        size = length-set tokens n mark ∙ inv.size;
        inside = filling-inside;
        few = omega arith;
        fewer = most;
        counted = told;
        same =
            inv.same ∙ ap (onto_all (placed_in code (take n tokens))) front
            ∙ onto-all (placed_in code (take n tokens)) _ _
            ∙ ap (λ (ps : List Placed). onto_all ps (lex_from (at + (s.more + 1)) 0 (drop (at + (s.more + 1)) code))) (sym placed_put);
      }

      pub filling-hit : s.form ≡ 11 → Filling code filled room (at + (s.more + 1)) (n + 1) (k + 1)
      filling-hit f = filling_step (k + 1) (omega arith) (rw taken_put (omega (arith, inv.counted, count-hit (take n tokens) mark f)))

      pub filling-miss : (s.form ≡ 11 → ⊥) → Filling code filled room (at + (s.more + 1)) (n + 1) k
      filling-miss f = filling_step k (omega arith) (rw taken_put (omega (arith, inv.counted, count-miss (take n tokens) mark f)))
