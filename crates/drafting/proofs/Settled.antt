-- The words of a body's items as they are put, every m being a month, and settled in their place.
-- Assumes nothing.
use Prim.Native.Nat.{ℕ, ◌+◌, ◌-◌, ◌≤◌}
use native.Mathlib.Omega.{arith}
use mathlib.Core.Path.{◌≡◌, sym, ◌∙◌}
use mathlib.Core.Bool.{Bool, true, false}
use mathlib.Core.List.{List, [], ◌∷◌, ◌++◌, map, append_assoc}
use lib.ListN.{length, take, drop}
use lib.Seq.{sets-eq, take_at, take-append_seam, drop_at, length-take-le}
use lib.Dec.{T}
use Rattle.lists.specs.Lists.{every, any}
use Rattle.lists.proofs.Bools.{cond_both}
use Rattle.lists.proofs.Counts.{every_map}
use Rattle.formats.specs.Tokens.{Token, Letter}
use Rattle.formats.specs.Items.{Item, literal, point, is_solidus, no_run, settled}
use Rattle.formats.specs.Kinds.{run_item, token_items, body_items, last_fill}
use Rattle.formats.proofs.Each.{by_token, by-letter}
use Rattle.formats.proofs.ItemCount.{settled-length}
use Rattle.formats.proofs.TokenRanges.{body-pass}
use Rattle.tables.specs.Words.{entries_words}
use Rattle.formats.specs.Text.{along}
use Rattle.formats.proofs.Cutting.{whole-none, main-all}
use Rattle.tables.specs.Encode.{run_entries, entries_of}
use Rattle.tables.proofs.Words.{length-entries}
use Rattle.tables.proofs.MadeItems.{run_length, made-length}
use Rattle.writing.specs.Put.{Put}
use Rattle.settling.specs.Settle.{is_no_minute}
use Rattle.emitting.specs.Emit.{emitted_words}
use Rattle.drafting.specs.Draft.{body_words, settled_words}

-- no token makes minutes
all_pass : {A : Type 0} (xs : List A) → T (every (λ (x : A). true) xs)
unfolding every
all_pass [] = tt
all_pass (x ∷ xs) = all_pass xs

literals-pass : (us : List ℕ) → T (every is_no_minute (map literal us))
unfolding every
literals-pass us = rw (every_map is_no_minute literal us) (all_pass us)

token-pass : (date : Bool) (t : Token) → T true → T (every is_no_minute (token_items date t))
unfolding token_items run_item every
token-pass date =
    by_token (λ (t : Token). T true → T (every is_no_minute (token_items date t)))
    (λ us h. literals-pass us) (λ u h. tt) (λ u h. tt) (λ u h. tt) (λ p h. tt)
    (λ h. cond_both (λ (i : Item). T (every is_no_minute (i ∷ []))) date {x = literal 46} {y = point} tt tt)
    (λ h. cond_both (λ (is : List Item). T (every is_no_minute is)) date {x = literal 44 ∷ []} {y = []} tt tt)
    (λ h. tt) (λ h. tt) (λ h. tt) (λ h. tt) (λ x h. tt)
    (λ l n h. by-letter (λ (k : Letter). T (every is_no_minute (run_item k n ∷ []))) tt tt tt tt tt l) (λ e n h. tt) (λ n h. tt) (λ w h. tt) (λ m h. tt)
    (λ p h. tt) (λ p n h. tt)

no-minutes : (ts : List Token) → T (every is_no_minute (last_fill (body_items ts)))
no-minutes ts = body-pass (λ (t : Token). true) is_no_minute token-pass (λ n h e. tt) ts (all_pass ts)

-- settling keeps how many words there are, and so does writing the powers of a fraction's parts
pub settled-size : (ts : List Token) → length (settled_words ts) ≡ length (emitted_words ts)
unfolding settled
settled-size ts =
    let is = last_fill (body_items ts) in
    omega (arith, length-entries (run_entries is) [], length-entries (run_entries (settled is)) [], run_length is, run_length (settled is), settled-length no_run is)

pub body-size : (ts : List Token) → length (body_words ts) ≡ length (settled_words ts)
body-size ts =
    let is = settled (last_fill (body_items ts)) in
    omega (arith, length-entries (entries_of is) [], length-entries (run_entries is) [], made-length is, run_length is)

-- without a solidus they are the same
pub words-bare : (ts : List Token) → any is_solidus (settled (last_fill (body_items ts))) ≡ false → settled_words ts ≡ body_words ts
unfolding entries_of run_entries along
words-bare ts none = let is = settled (last_fill (body_items ts)) in rw (whole-none is none, main-all is none)

-- the part of a room that a piece was put into
pub put-read : {l o q : List ℕ} {at r : ℕ} → Put l at q r o → at + length q ≤ length l → take (r - at) (drop at o) ≡ q
put-read {l} {o} {q} {at} {r} x h =
    let n : r - at ≡ length q = omega (arith, x.next) in
    rw (x.room, n, sets-eq q l at h, append_assoc (take at l) q (drop (at + length q) l), drop_at (take at l) (q ++ drop (at + length q) l) at (length-take-le at l (omega arith)))
    (take-append_seam q (drop (at + length q) l))

pub put-few : {l o q : List ℕ} {at r : ℕ} → Put l at q r o → at + length q ≤ length l → length l ≤ 508 → length (take (r - at) (drop at o)) ≤ 508
put-few x h k = rw (put-read x h) (omega arith)

-- a piece in the place of another one of its length
pub put-over : {old mid p q : List ℕ} {at r : ℕ} → Put old at p r mid → length q ≡ length p → at + length p ≤ length old
    → Put old at q r (take at mid ++ (q ++ drop (r - at) (drop at mid)))
put-over {old} {mid} {p} {q} {at} {r} x e h =
    let s : mid ≡ take at old ++ (p ++ drop (at + length p) old) = x.room ∙ sets-eq p old at h ∙ append_assoc (take at old) p _ in
    let n : length (take at old) ≡ at = length-take-le at old (omega arith) in
    record {
      next = omega (arith, x.next);
      room =
          rw (
            s,
            take_at (take at old) (p ++ drop (at + length p) old) at n,
            drop_at (take at old) (p ++ drop (at + length p) old) at n,
            drop_at p (drop (at + length p) old) (r - at) (omega (arith, x.next)),
            ← e,
          )
          (sym (sets-eq q old at (omega arith) ∙ append_assoc (take at old) q _));
    }

pub settled-put : (ts : List Token) {old mid ws : List ℕ} {at r : ℕ} → Put old at (emitted_words ts) r mid → at + length (settled_words ts) ≤ length old
    → ((is : List Item) → T (every is_no_minute is) → take (r - at) (drop at mid) ≡ entries_words (run_entries is) [] → ws ≡ entries_words (run_entries (settled is)) [])
    → Put old at (settled_words ts) r (take at mid ++ (ws ++ drop (r - at) (drop at mid)))
settled-put ts x h f =
    let n = settled-size ts in
    rw (f (last_fill (body_items ts)) (no-minutes ts) (put-read x (omega arith))) (put-over x n (omega arith))
