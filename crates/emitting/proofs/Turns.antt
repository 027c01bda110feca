-- The words of one token as the code puts them, and a turn of the walk over a buffer.
-- Assumes nothing.
use Prim.Native.Nat.{ℕ, zero, suc, ◌+◌, ◌-◌, ◌≤◌, ◌<◌, min}
use native.Mathlib.Omega.{arith}
use native.Mathlib.Nat.{min-le_right}
use native.Mathlib.Numerals.{add-one, sub-one}
use mathlib.Core.Path.{◌≡◌, sym, ◌∙◌, ap}
use mathlib.Core.Bool.{Bool, true, false, cond, ◌&&◌}
use mathlib.Core.List.{List, [], ◌∷◌}
use lib.ListN.{length, take, drop, length-take, length-drop}
use lib.Dec.{leb, ltb, eqb}
use borrow.Author.Tests.{ne_eqb, le-leb, lt-leb}
use Rattle.lists.specs.Lists.{count}
use Rattle.lists.proofs.Bools.{by_cases}
use Rattle.formats.specs.Tokens.{Token}
use Rattle.formats.specs.Items.{is_fill}
use Rattle.formats.specs.Kinds.{is_fill_token, leading_zeros, part_zeros, last_fill}
use Rattle.marks.specs.declared.Mark.{Mark}
use Rattle.marks.specs.Marks.{token_at, marked}
use Rattle.marks.proofs.ByForm.{fill-form, point-form}
use Rattle.writing.specs.Put.{Put}
use Rattle.writing.proofs.Laws.{put-none}
use Rattle.std.proofs.Common.{Option, Some, None}
use Rattle.emitting.specs.declared.Walk.{Walk}
use Rattle.emitting.specs.Emit.{emitted_from, items_words, literal_words, form_words, made_words, over_words, token_words, piece_of, form_digit, walk_after, walk_past, left, fills_left, Emitted}
use Rattle.emitting.proofs.Forms.{words_form, words-form}
use Rattle.emitting.proofs.Walks.{fills-step, words_step}
use Rattle.emitting.proofs.Buffer.{literals-length}

-- the words of a token: of n zeros of a part of a second, of a quoted literal, of a fill before another, and of any other
module _ (date : Bool) (w : Walk) (n : ℕ) (code : List ℕ) (m : Mark) where
  abbrev piece : List ℕ
  piece = piece_of date w.digit w.fills n (marked code m)

  fill-told : is_fill_token (marked code m) ≡ eqb m.form 3
  unfolding marked token_at
  fill-told = fill-form m.form m.argument (drop (suc m.start) code)

  pub piece-part : 0 < n → piece ≡ 17 ∷ n ∷ []
  piece-part h = simp (ne_eqb n 0 (omega arith))

  form-words : n ≤ 0 → (eqb m.form 3 && ltb 1 w.fills) ≡ false → piece ≡ words_form date w.digit m.argument (drop (suc m.start) code) m.form
  unfolding marked token_at token_words
  form-words h e = let z : n ≡ 0 = omega arith in rw (z, fill-told, e) (words-form date w.digit w.digit m.argument (drop (suc m.start) code) m.form)

  pub piece-literal : n ≤ 0 → m.form ≡ 0 → piece ≡ literal_words (take m.argument (drop (m.start + 1) code))
  piece-literal h e = form-words h (rw e) ∙ rw (e, add-one m.start)

  pub piece-goes : n ≤ 0 → (eqb m.form 3 && ltb 1 w.fills) ≡ true → piece ≡ []
  piece-goes h e = let z : n ≡ 0 = omega arith in rw (z, fill-told, e)

  pub piece-over : n ≤ 0 → (eqb m.form 3 && ltb 1 w.fills) ≡ false → 27 ≤ m.form → piece ≡ over_words w.digit m.argument m.form
  piece-over h e g = form-words h e ∙ rw (ne_eqb m.form 0 (λ o. omega arith), le-leb 27 m.form g)

  pub piece-made : n ≤ 0 → (eqb m.form 3 && ltb 1 w.fills) ≡ false → (m.form ≡ 0 → ⊥) → m.form < 27
      → (made : Option (ℕ × ℕ)) → made_words made ≡ form_words date w.digit m.argument m.form → piece ≡ made_words made
  piece-made h e g l made k = form-words h e ∙ rw (ne_eqb m.form 0 g, lt-leb 27 m.form l) (sym k)

-- how many words they are at most
pub over-short : (q a f : ℕ) → length (over_words q a f) ≤ 6
over-short q a f =
    by_cases (leb f 29) (λ e. rw e (omega arith)) (λ e. rw e (by_cases (leb f 32) (λ g. rw g (omega arith)) (λ g. rw g (omega arith))))

pub made-short : (made : Option (ℕ × ℕ)) → length (made_words made) ≤ 2
made-short None = omega arith
made-short (Some m) = omega arith

pub units-short : (code : List ℕ) (a s : ℕ) → length code ≤ 254 → length (take a (drop s code)) ≤ 254
units-short code a s h = rw (length-take a (drop s code)) (omega (arith, min-le_right a (length (drop s code)), length-drop s code))

pub literals-short : (code : List ℕ) (a s : ℕ) → length code ≤ 254 → length (literal_words (take a (drop s code))) ≤ 510
literals-short code a s h = omega (arith, literals-length (take a (drop s code)), units-short code a s h)

pub put-near : {old out ws piece : List ℕ} {at r : ℕ} → piece ≡ ws → length ws ≤ 510 → Put old at ws r out → Put old at piece r out × (r ≤ at + 510)
put-near e h p = (rw e p, omega (arith, p.next))

-- a token that belongs to a part of a second is passed
past-emitted : (date b : Bool) (k : ℕ) (t : Token) (ts : List Token) → 0 < k → emitted_from date b k (t ∷ ts) ≡ emitted_from date false (k - 1) ts
unfolding emitted_from
past-emitted date b zero t ts h = absurd (omega arith)
past-emitted date b (suc k) t ts h = rw sub-one

digit-most : (anew f q : ℕ) → anew ≤ 268 → q ≤ 268 → form_digit anew f q ≤ 268
unfolding form_digit
digit-most anew f q g h =
    by_cases (leb 4 f && leb f 6) (λ e. rw e (omega arith)) (λ e. rw e (by_cases (leb 25 f && leb f 32) (λ x. rw x g) (λ x. rw x h)))

module _ (date : Bool) (anew : ℕ) (code : List ℕ) (m : Mark) (later : List Token) (w : Walk) where
  abbrev first : Token
  first = marked code m

  pub turn-past : (old : List ℕ) (r : Walk) → w.digit ≤ 268 → r ≡ walk_past w → 0 < w.skip → w.fills ≡ fills_left date w (first ∷ later)
      → Emitted date anew first later old w r old
  unfolding left fills_left
  turn-past old r d g h e =
      let p = past-emitted date w.behind w.skip first later h in
      rw g
      record {
        piece = [];
        words = ap (λ is. items_words anew w.digit (last_fill is)) p;
        put = put-none old w.at;
        fills = e ∙ ap (count is_fill) p;
        digit = d;
        near = omega arith;
      }

  -- the zeros of the part of a second that the token starts
  zeros-here : (n : ℕ) → n ≡ cond (date && w.behind && eqb m.form 7) (min 3 (leading_zeros later)) 0 → n ≡ part_zeros (date && w.behind) first later
  unfolding part_zeros marked token_at
  zeros-here n e = rw (point-form m.form m.argument (drop (suc m.start) code)) e

  pub turn-put : (old out : List ℕ) (n at : ℕ) (r : Walk) → anew ≤ 268 → w.digit ≤ 268 → r ≡ walk_after anew w m.form n at → w.skip ≤ 0 → w.fills ≡ fills_left date w (first ∷ later)
      → n ≡ cond (date && w.behind && eqb m.form 7) (min 3 (leading_zeros later)) 0
      → Put old w.at (piece_of date w.digit w.fills n first) at out → at ≤ w.at + 510
      → Emitted date anew first later old w r out
  unfolding left fills_left marked token_at
  turn-put old out n at r most d g h e z p near =
      let us = drop (suc m.start) code in
      let s : emitted_from date w.behind w.skip (first ∷ later) ≡ emitted_from date w.behind 0 (first ∷ later)
      = ap (λ k. emitted_from date w.behind k (first ∷ later)) (omega arith) in
      let l : w.fills ≡ count is_fill (emitted_from date w.behind 0 (first ∷ later)) = e ∙ ap (count is_fill) s in
      rw g
      record {
        piece = piece_of date w.digit w.fills n first;
        words = ap (λ is. items_words anew w.digit (last_fill is)) s
            ∙ words_step m.form date w.behind anew w.digit m.argument us later w.fills n (zeros-here n z) l;
        put = p;
        fills = fills-step m.form date w.behind anew w.digit m.argument us later w.fills n (zeros-here n z) l;
        digit = digit-most anew m.form w.digit most d;
        near = near;
      }
