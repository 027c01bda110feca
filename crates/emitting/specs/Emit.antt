-- The words of a section's items, token by token: what a token leaves behind for those that follow it, and what is left to write.
-- Assumes nothing.
use Rattle.std.specs.Prelude.{ℕ, zero, suc, ◌+◌, ◌-◌, ◌≤◌, ◌≡◌, Bool, false, cond, ◌&&◌, ◌||◌, List, [], ◌∷◌, ◌++◌, leb, ltb, eqb, Option, Some, None}
use Rattle.lists.specs.Lists.{count}
use Rattle.formats.specs.Tokens.{Token}
use Rattle.formats.specs.Items.{Item, part, is_fill, date_kind, same_kind, integer_places, places_behind}
use Rattle.formats.specs.Kinds.{is_fill_token, part_zeros, is_seconds_token, token_items, body_kind, body_items, last_fill}
use Rattle.tables.specs.Words.{entries_words}
use Rattle.tables.specs.Encode.{entries_from, run_entries}
use Rattle.writing.specs.Put.{Put}
use Rattle.emitting.specs.declared.Told.{Told}
use Rattle.emitting.specs.declared.Walk.{Walk}

-- the words of a body's items as they stand in it, every m being a month
abbrev pub emitted_words : List Token → List ℕ
emitted_words ts = entries_words (run_entries (last_fill (body_items ts))) []

-- the items of a body, of a date or not, in one walk; behind_seconds: the token just before is s, ss or an elapsed s;
-- `skip` tokens belong to a part of a second
unfoldable pub emitted_from : Bool → Bool → ℕ → List Token → List Item
emitted_from date behind_seconds skip [] = []
emitted_from date behind_seconds (suc skip) (t ∷ ts) = emitted_from date false skip ts
emitted_from date behind_seconds zero (t ∷ ts) =
    let n = part_zeros (date && behind_seconds) t ts in
    let r = emitted_from date (is_seconds_token t) n ts in
    cond (eqb n 0) (token_items date t ++ r) (part n ∷ r)

-- the words of items, where q is the power of the first one's digit and 15, and `anew` that of the digit behind an E or solidus
unfoldable pub items_words : ℕ → ℕ → List Item → List ℕ
items_words anew q is = entries_words (entries_from anew q is) []

-- the words of a token's items, of which no place stands behind an E or solidus
unfoldable pub token_words : Bool → ℕ → Token → List ℕ
token_words date q t = items_words q q (token_items date t)

unfoldable pub literal_words : List ℕ → List ℕ
literal_words [] = []
literal_words (u ∷ us) = 1 ∷ u ∷ literal_words us

-- the words of an item, its tag and its argument, where there is one
abbrev pub made_words : Option (ℕ × ℕ) → List ℕ
made_words None = []
made_words (Some m) = m.0 ∷ m.1 ∷ []

-- the words of a token that is no quoted literal and no place with a solidus, by its form f and its argument a
abbrev pub form_words : Bool → ℕ → ℕ → ℕ → List ℕ
form_words date q a f =
    cond (eqb f 1) (1 ∷ a ∷ [])
    (cond (eqb f 2) (2 ∷ a ∷ [])
    (cond (eqb f 3) (3 ∷ a ∷ [])
    (cond (eqb f 4) (4 ∷ suc q ∷ [])
    (cond (eqb f 5) (5 ∷ suc q ∷ [])
    (cond (eqb f 6) (6 ∷ suc q ∷ [])
    (cond (eqb f 7) (cond date (1 ∷ 46 ∷ []) (7 ∷ 0 ∷ []))
    (cond (eqb f 8) (cond date (1 ∷ 44 ∷ []) [])
    (cond (eqb f 9) (8 ∷ 0 ∷ [])
    (cond (eqb f 10) (10 ∷ 0 ∷ [])
    (cond (eqb f 12) (9 ∷ 0 ∷ [])
    (cond (eqb f 13) (21 ∷ 1 ∷ [])
    (cond (eqb f 14) (21 ∷ 2 ∷ [])
    (cond (eqb f 15) (11 ∷ a ∷ [])
    (cond (eqb f 16) (12 ∷ a ∷ [])
    (cond (eqb f 17) (13 ∷ a ∷ [])
    (cond (eqb f 18) (14 ∷ a ∷ [])
    (cond (eqb f 19) (16 ∷ a ∷ [])
    (cond (eqb f 20) (18 ∷ a ∷ [])
    (cond (eqb f 21) (19 ∷ a ∷ [])
    (cond (eqb f 22) (20 ∷ a ∷ [])
    (cond (eqb f 25) (22 ∷ 0 ∷ [])
    (cond (eqb f 26) (23 ∷ 0 ∷ []) []))))))))))))))))))))))

-- the words of a place with a solidus behind it, and with a fixed number behind that
abbrev pub over_words : ℕ → ℕ → ℕ → List ℕ
over_words q a f =
    cond (leb f 29) ((f - 27 + 4) ∷ suc q ∷ 24 ∷ 0 ∷ []) (cond (leb f 32) ((f - 30 + 4) ∷ suc q ∷ 24 ∷ 0 ∷ 25 ∷ a ∷ []) [])

-- the words that a token puts: a fill with another behind it puts none, `fills` being how many there are from this token on; where
-- n is not 0, the token starts a part of a second with n zeros
abbrev pub piece_of : Bool → ℕ → ℕ → ℕ → Token → List ℕ
piece_of date q fills n t =
    cond (eqb n 0) (cond (is_fill_token t && ltb 1 fills) [] (token_words date q t)) (17 ∷ n ∷ [])

-- what a token of a form leaves behind: whether it is s, ss or an elapsed s, the next digit's power and 15, which is `anew` behind an E or solidus,
-- and the fills that follow
unfoldable pub form_seconds : ℕ → Bool
form_seconds f = eqb f 19 || eqb f 22

unfoldable pub form_digit : ℕ → ℕ → ℕ → ℕ
form_digit anew f q = cond (leb 4 f && leb f 6) (q - 1) (cond (leb 25 f && leb f 32) anew q)

unfoldable pub form_fills : ℕ → ℕ → ℕ
form_fills f n = cond (eqb f 3) (n - 1) n

-- the walk behind a token of the form f whose words end at `at`, where the next n tokens belong to it
abbrev pub walk_after : ℕ → Walk → ℕ → ℕ → ℕ → Walk
walk_after anew w f n at =
    record {
      at = at;
      behind = form_seconds f;
      skip = n;
      digit = form_digit anew f w.digit;
      fills = form_fills f w.fills;
    }

-- the walk behind a token that belongs to a part of a second
abbrev pub walk_past : Walk → Walk
walk_past w = record { at = w.at; behind = false; skip = w.skip - 1; digit = w.digit; fills = w.fills }

-- the words that a walk has left to write
unfoldable pub left : Bool → ℕ → Walk → List Token → List ℕ
left date anew w ts = items_words anew w.digit (last_fill (emitted_from date w.behind w.skip ts))

-- the fills that a walk has left to pass
unfoldable pub fills_left : Bool → Walk → List Token → ℕ
fills_left date w ts = count is_fill (emitted_from date w.behind w.skip ts)

-- a walk w goes over a token t before others to the walk r, and writes its words
pub record Emitted (date : Bool) (anew : ℕ) (t : Token) (later : List Token) (old : List ℕ) (w r : Walk) (out : List ℕ) : Type 0 where
  pub piece : List ℕ
  pub words : left date anew w (t ∷ later) ≡ piece ++ left date anew r later
  pub put : Put old w.at piece r.at out
  pub fills : r.fills ≡ fills_left date r later
  pub digit : r.digit ≤ 268
  pub near : r.at ≤ w.at + 510

-- what is told of a body's tokens; it has at most 254 places of a sort
pub record ToldOf (ts : List Token) (t : Told) : Type 0 where
  pub date : t.date ≡ same_kind (body_kind ts) date_kind
  pub fills : t.fills ≡ count is_fill_token ts
  pub integers : t.integers ≡ integer_places (body_items ts)
  pub exponents : t.exponents ≡ places_behind (body_items ts)
  pub few : t.integers ≤ 254
  pub later : t.exponents ≤ 254
