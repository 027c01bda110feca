-- The walk over a buffer of tokens: how it starts, a turn, and its end.
-- Assumes nothing.
use Prim.Native.Nat.{ℕ, ◌+◌, ◌*◌, ◌≤◌}
use native.Mathlib.Omega.{arith}
use mathlib.Core.Path.{◌≡◌, refl, sym, ◌∙◌}
use mathlib.Core.Bool.{Bool, false}
use mathlib.Core.List.{List, [], ◌∷◌}
use lib.ListN.{length}
use Rattle.formats.specs.Tokens.{Token}
use Rattle.formats.specs.Items.{Item, integer_places, places_behind}
use Rattle.formats.specs.Kinds.{body_items, last_fill}
use Rattle.formats.proofs.FormedItems.{places-last_fill, exponents-last_fill}
use Rattle.marks.specs.declared.Mark.{Mark}
use Rattle.marks.specs.Marks.{marked, tokens_in}
use Rattle.marks.proofs.Buffer.{tokens-length}
use Rattle.tables.specs.Words.{entries_words}
use Rattle.tables.specs.Encode.{run_entries}
use Rattle.writing.specs.Put.{Put, Rest}
use Rattle.writing.proofs.Laws.{rest-start, rest_put, rest-done}
use Rattle.emitting.specs.declared.Told.{Told}
use Rattle.emitting.specs.declared.Walk.{Walk}
use Rattle.emitting.specs.Emit.{emitted_words, emitted_from, items_words, left, fills_left, Emitted, ToldOf}
use Rattle.emitting.proofs.Walks.{body-emitted, fills-emitted}
use Rattle.formats.specs.Text.{along, first_of}

-- the walk before the first token
abbrev pub walk_from : ℕ → Told → Walk
walk_from at t = record { at = at; behind = false; skip = 0; digit = first_of t.integers; fills = t.fills }

-- all words of a body are left at its start
words-start : (is : List Item) (n m : ℕ) → n ≡ integer_places is → m ≡ places_behind is
    → items_words (first_of m) (first_of n) (last_fill is) ≡ entries_words (run_entries (last_fill is)) []
unfolding items_words run_entries
words-start is n m e f = rw (places-last_fill is, exponents-last_fill is, e, f)

module _ (ts : List Token) (t : Told) (h : ToldOf ts t) (at : ℕ) where
  left-start : left t.date (first_of t.exponents) (walk_from at t) ts ≡ emitted_words ts
  unfolding left
  left-start = rw (← (body-emitted t.date ts h.date)) (words-start (body_items ts) t.integers t.exponents h.integers h.exponents)

  fills-start : t.fills ≡ fills_left t.date (walk_from at t) ts
  unfolding fills_left
  fills-start = h.fills ∙ sym (fills-emitted t.date false 0 ts (omega arith))

-- and none at its end
left_end : (date : Bool) (anew : ℕ) (w : Walk) → left date anew w [] ≡ []
unfolding left items_words emitted_from last_fill entries_words along
left_end date anew w = refl

-- what the loop over a body's tokens keeps, of which `ts` are left
pub record Going (t : Told) (all : List Token) (old : List ℕ) (start : ℕ) (ts : List Token) (room : List ℕ) (w : Walk) : Type 0 where
  pub rest : Rest old start (emitted_words all) room w.at (left t.date (first_of t.exponents) w ts)
  pub fills : w.fills ≡ fills_left t.date w ts
  pub digit : w.digit ≤ 268
  pub near : w.at + 510 * length ts ≤ start + 510 * length all

-- the tokens that are left are those of the marks that are left
module _ {t : Told} {all : List Token} {old : List ℕ} {start : ℕ} {room : List ℕ} {w : Walk} (code : List ℕ) where
  pub going-next : (m : Mark) (behind ms : List Mark) → ms ≡ m ∷ behind → Going t all old start (tokens_in code ms) room w
      → Going t all old start (marked code m ∷ tokens_in code behind) room w
  unfolding tokens_in
  going-next m behind ms e g = rw e at g

  pub going-last : (ms : List Mark) → length ms ≡ 0 → Going t all old start (tokens_in code ms) room w → Going t all old start [] room w
  unfolding tokens_in
  going-last [] h g = g
  going-last (m ∷ ms) h g = absurd (omega arith)

-- there is room for a token's words
pub going-room : (code : List ℕ) (ms : List Mark) (t : Told) {old : List ℕ} {start : ℕ} {ts : List Token} {room : List ℕ} {w : Walk}
    → length ms ≤ 254 → Going t (tokens_in code ms) old start ts room w → w.at ≤ start + 129540
going-room code ms t h g = omega (arith, g.near, tokens-length code ms)

pub going_start : (ts : List Token) (t : Told) → ToldOf ts t → (old : List ℕ) (at : ℕ) → Going t ts old at ts old (walk_from at t)
going_start ts t h old at = record {
  rest = rw (left-start ts t h at) (rest-start old at (emitted_words ts));
  fills = fills-start ts t h at;
  digit = let f = h.few in omega arith;
  near = omega arith;
}

pub going_step : (t : Told) (all : List Token) (old : List ℕ) (start : ℕ) (first : Token) (later : List Token) (room out : List ℕ) (w r : Walk)
    → Going t all old start (first ∷ later) room w → Emitted t.date (first_of t.exponents) first later room w r out → Going t all old start later out r
going_step t all old start first later room out w r g e = record {
  rest = rest_put (rw e.words at g.rest) e.put;
  fills = e.fills;
  digit = e.digit;
  near = omega (arith, e.near, g.near);
}

pub going_end : (t : Told) (all : List Token) (old : List ℕ) (start : ℕ) (room : List ℕ) (w : Walk) → Going t all old start [] room w → Put old start (emitted_words all) w.at room
going_end t all old start room w g = rest-done (rw (left_end t.date (first_of t.exponents) w) at g.rest)
