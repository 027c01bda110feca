-- The loop over item words: what is left to put, and how far it has come.
-- Assumes nothing.
use Prim.Native.Nat.{ℕ, suc, ◌+◌, ◌/◌, ◌≤◌, ◌<◌}
use native.Mathlib.Omega.{arith}
use mathlib.Core.Path.{◌≡◌, refl, ap, ◌∙◌}
use mathlib.Core.List.{List, [], ◌∷◌, ◌++◌, flatten}
use lib.Dec.{T, eqb}
use lib.ListN.{length, get_or}
use Rattle.lists.proofs.Bools.{and_left, and_right, every-head, every-tail}
use Rattle.formats.specs.Items.{Kind, item_allowed, is_place}
use Rattle.formats.specs.Where.{implies}
use Rattle.formats.specs.Text.{Context, items_units, digit_after, along, first_of, item_units}
use Rattle.tables.specs.Words.{Entry, entries_at, entries_in}
use Rattle.tables.specs.Encode.{entry}
use Rattle.tables.specs.Decode.{item_at, items_at}
use Rattle.tables.specs.Rules.{entry_in_range, powers_from, all_of}
use Rattle.writing.specs.Put.{Put, Rest}
use Rattle.writing.proofs.Laws.{rest-start, rest_put, rest-done}
use Rattle.section_text.specs.Walk.{EntryFits, EntriesFit, TextOf, Begins, PutsFirst, HasText, ItemPut}

-- ---- the first of some entries, and those behind it
module _ (k : Kind) (c : Context) (q : ℕ) (e : Entry) (es : List Entry) (f : EntriesFit k c q (e ∷ es)) where
  first-in-range : T (entry_in_range e)
  first-in-range = every-head entry_in_range e es f.in_range

  pub first_fits : EntryFits k q e
  unfolding items_at powers_from along all_of
  first_fits = record {
    allowed = every-head (item_allowed k) (item_at e) (items_at es) f.allowed;
    power = and_left (implies (is_place (item_at e)) (eqb e.argument (suc q))) (powers_from (first_of c.integer_places) (digit_after (first_of c.integer_places) q (item_at e)) es) f.powers;
  }

  others-fit : EntriesFit k c (digit_after (first_of c.integer_places) q (item_at e)) es
  unfolding items_at powers_from along all_of
  others-fit = record {
    in_range = every-tail entry_in_range e es f.in_range;
    allowed = every-tail (item_allowed k) (item_at e) (items_at es) f.allowed;
    powers = and_right (implies (is_place (item_at e)) (eqb e.argument (suc q))) (powers_from (first_of c.integer_places) (digit_after (first_of c.integer_places) q (item_at e)) es) f.powers;
  }

module _ {P : Kind → Context → Type 0} {e : Entry} (b : Begins (TextOf P) e) where
  pub begins-in-range : T (entry_in_range e)
  begins-in-range = let t = b.has in first-in-range t.kind t.context t.power e b.behind t.fit

  pub begins-fits : EntryFits b.has.kind b.has.power e
  begins-fits = let t = b.has in first_fits t.kind t.context t.power e b.behind t.fit

-- an item that is put in every context puts the first piece of a text
pub puts-first : {P : Kind → Context → Type 0} {e : Entry} {old out : List ℕ} {at r : ℕ}
    → ItemPut P e old at r out → PutsFirst (TextOf P) e old at r out
unfolding items_units items_at along flatten
puts-first {e = e} p es us t =
    let anew : ℕ = first_of t.context.integer_places in
    record {
      piece = item_units t.context t.power (item_at e);
      rest = items_units t.context (digit_after anew t.power (item_at e)) (items_at es);
      joined = t.is;
      put = p t.context t.kind t.power t.subject (first_fits t.kind t.context t.power e es t.fit);
      left = record {
        context = t.context;
        kind = t.kind;
        power = digit_after anew t.power (item_at e);
        subject = t.subject;
        fit = others-fit t.kind t.context t.power e es t.fit;
        is = refl;
      };
    }

-- ---- the words of entries, a pair at a time
pub entries-pair : (p words : List ℕ) → length p ≡ 2 → entries_in (p ++ words) ≡ entry (get_or p 0 0) (get_or p 1 0) ∷ entries_in words
unfolding entries_in entries_at
entries-pair [] words h = absurd (omega (arith, h))
entries-pair (a ∷ []) words h = absurd (omega (arith, h))
entries-pair (a ∷ (b ∷ [])) words h =
    let half : suc (suc (length words)) / 2 ≡ suc (length words / 2) = omega arith in rw half
entries-pair (a ∷ (b ∷ (x ∷ p))) words h = absurd (omega (arith, h))

pub entries-none : (words : List ℕ) → length words < 2 → entries_in words ≡ []
unfolding entries_in entries_at
entries-none words h = let none : length words / 2 ≡ 0 = omega arith in rw none

-- ---- the loop
-- of a text these words are left
pub record Left (text : List Entry → List ℕ → Type 0) (old : List ℕ) (start : ℕ) (us : List ℕ) (words room : List ℕ) (at : ℕ) : Type 0 where
  pub units : List ℕ
  pub has : text (entries_in words) units
  pub rest : Rest old start us room at units

-- any text of the entries is put up to where these words begin; one is there, and it is short
pub record Walking (text : List Entry → List ℕ → Type 0) (old : List ℕ) (start : ℕ) (es : List Entry) (words room : List ℕ) (at : ℕ) : Type 0 where
  pub known : HasText text es
  pub left : (us : List ℕ) → text es us → Left text old start us words room at

module _ {text : List Entry → List ℕ → Type 0} {old : List ℕ} {start : ℕ} where
  pub walking_start : {words rest : List ℕ} → rest ≡ words → HasText text (entries_in words) → Walking text old start (entries_in words) rest old start
  walking_start e h = rw e (record { known = h; left = λ us t. record { units = us; has = t; rest = rest-start old start us } })

  module _ {es : List Entry} {words room : List ℕ} {at : ℕ} (w : Walking text old start es words room at) where
    -- a pair of words in front of the others
    module _ (pair behind : List ℕ) (e : words ≡ pair ++ behind) (n : length pair ≡ 2) where
      next : entries_in words ≡ entry (get_or pair 0 0) (get_or pair 1 0) ∷ entries_in behind
      next = ap entries_in e ∙ entries-pair pair behind n

      pub walking-begins : Begins text (entry (get_or pair 0 0) (get_or pair 1 0))
      walking-begins =
          let l = w.left w.known.units w.known.has in
          record { behind = entries_in behind; units = l.units; has = rw next at l.has }

      pub walking-step : {r : ℕ} {out : List ℕ} → PutsFirst text (entry (get_or pair 0 0) (get_or pair 1 0)) room at r out
          → Walking text old start es behind out r
      walking-step p = record {
        known = w.known;
        left = λ us t.
            let l = w.left us t in
            let d = p (entries_in behind) l.units (rw next at l.has) in
            record { units = d.rest; has = d.left; rest = rest_put (rw d.joined at l.rest) d.put };
      }

    pub walking-end : ((us : List ℕ) → text [] us → us ≡ []) → length words < 2 → (us : List ℕ) → text es us → Put old start us at room
    walking-end ends h us t =
        let l = w.left us t in
        rest-done (rw (ends l.units (rw (entries-none words h) at l.has)) at l.rest)

    -- the place where the next item goes
    pub walking-within : at ≤ start + 260096
    walking-within = omega (arith, (w.left w.known.units w.known.has).rest.ends, w.known.short)
