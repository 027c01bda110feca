-- The item words of a scientific section, cut at the E: those before it are as a number section's, those from it on show the exponent.
-- Assumes nothing.
use Prim.Native.Nat.{ℕ, ◌+◌, ◌*◌, ◌^◌, ◌≤◌}
use native.Mathlib.Omega.{arith}
use mathlib.Core.Path.{◌≡◌, refl, sym, ap, ◌∙◌}
use mathlib.Core.Bool.{Bool, false, ◌&&◌}
use mathlib.Core.List.{List, [], ◌++◌}
use lib.Dec.{T}
use lib.ListN.{length, take, drop, length-take, length-drop}
use Rattle.std.specs.Prelude.{Result}
use Rattle.answers.specs.declared.Refusal.{Refusal}
use Rattle.answers.specs.declared.Shown.{Shown}
use Rattle.lists.specs.Lists.{any, every, count}
use Rattle.lists.proofs.Bools.{T_true, and_left, and_right, carry}
use Rattle.lists.proofs.Counts.{every-both}
use Rattle.calendar.specs.Date.{date_of}
use Rattle.calendar.specs.Clock.{clock_of}
use Rattle.formats.specs.Items.{exponent, Section, Kind, number_kind, scientific_kind, kind_of, item_allowed, is_place, is_solidus, is_cut, before_cut, from_cut, integer_places, places_behind}
use Rattle.formats.specs.Text.{Context, items_units, section_units, first_of}
use Rattle.formats.specs.Reading.{look_of, within}
use Rattle.formats.proofs.Cutting.{before-bare, every-before, every-from, Cut, cut, scientific-some, no-solidus}
use Rattle.tables.specs.Words.{entries_in}
use Rattle.tables.specs.Decode.{items_at}
use Rattle.tables.specs.Rules.{entry_in_range, powers_from}
use Rattle.table_words.specs.Sections.{ItemsOf}
use Rattle.table_words.specs.Runs.{CutAt}
use Rattle.section_text.specs.Walk.{EntriesFit, TextOf, HasText}
use Rattle.scientific_sections.specs.Power.{PowerIs}
use Rattle.section_text.specs.Show.{sign_text, scientific_reading, Shows}
use Rattle.section_text.proofs.Lengths.{short-text}
use Rattle.scientific_sections.proofs.PowerItems.{power-short}
use Rattle.section_text.proofs.Cuts.{plain-allowed, powers-anew, powers-front, powers-behind}
use Rattle.section_text.proofs.Bodies.{items-powers}

-- a context that shows an exponent in so many places
abbrev power_context : ℕ → Bool → ℕ → Context
power_context size below places = record {
  figures = size * 10 ^ 15;
  grouped = false;
  integer_places = places;
  standing = [];
  date = date_of 0;
  clock = clock_of 0;
  twelve = false;
  elapsed = 0;
  below = below;
}

module _ {z : Section} {words : List ℕ} {start : ℕ} (o : ItemsOf z words) (k : kind_of z ≡ scientific_kind)
    (x : CutAt words start (before_cut (items_at (entries_in words))) (from_cut (items_at (entries_in words))))
    {before from : List ℕ} (eb : before ≡ take start words) (ef : from ≡ drop start words) where
  before-items : items_at (entries_in before) ≡ before_cut z.items
  before-items = ap (λ (ws : List ℕ). items_at (entries_in ws)) eb ∙ x.before ∙ ap before_cut (sym o.items)

  from-items : items_at (entries_in from) ≡ from_cut z.items
  from-items = ap (λ (ws : List ℕ). items_at (entries_in ws)) ef ∙ x.from ∙ ap from_cut (sym o.items)

  joined : entries_in words ≡ entries_in before ++ entries_in from
  joined = rw (eb, ef) x.joins

  pub parts-few : (length before + length from ≡ length words) × (length before ≤ 508) × (length from ≤ 508)
  parts-few = rw (eb, ef) (rw (length-take start words, length-drop start words) (omega (arith, x.inside), omega (arith, o.few), omega (arith, o.few)))

  in-range : T (every entry_in_range (entries_in before) && every entry_in_range (entries_in from))
  in-range = carry (ap (every entry_in_range) joined ∙ every-both entry_in_range (entries_in before) (entries_in from)) o.in_range

  held : T (every (item_allowed scientific_kind) z.items)
  held = rw (← o.items, k) at o.allowed

  no_slash : any is_solidus z.items ≡ false
  no_slash = no-solidus scientific_kind z.items refl held

  powers : T (powers_from (first_of (places_behind z.items)) (first_of (integer_places z.items)) (entries_in before ++ entries_in from))
  powers = carry (ap (powers_from (first_of (places_behind z.items)) (first_of (integer_places z.items))) joined) (items-powers o (rw (← o.items) no_slash))

  -- before the E, whatever the context
  pub mantissa-fit : (m : Context) → EntriesFit number_kind m (first_of (integer_places z.items)) (entries_in before)
  mantissa-fit m =
      let bare : any is_cut (items_at (entries_in before)) ≡ false = ap (any is_cut) before-items ∙ before-bare z.items in
      record {
        in_range = and_left (every entry_in_range (entries_in before)) (every entry_in_range (entries_in from)) in-range;
        allowed = rw before-items (plain-allowed (item_allowed scientific_kind) (λ i t. rw (T_true (item_allowed scientific_kind i) t) tt) (before_cut z.items) (before-bare z.items) (every-before (item_allowed scientific_kind) z.items held));
        powers = carry (powers-anew _ (first_of m.integer_places) _ (entries_in before) bare) (powers-front _ _ (entries_in before) (entries_in from) powers);
      }

  -- from the E on, in a context with the exponent's places
  pub power-fit : (c : Context) → c.integer_places ≡ places_behind z.items → EntriesFit scientific_kind c (first_of (places_behind z.items)) (entries_in from)
  unfolding kind_of
  power-fit c places =
      let at : Cut z.items = cut z.items no_slash (scientific-some z.items k) in
      record {
        in_range = and_right (every entry_in_range (entries_in before)) (every entry_in_range (entries_in from)) in-range;
        allowed = rw from-items (every-from (item_allowed scientific_kind) z.items held);
        powers = rw places (powers-behind _ _ _ (entries_in before) (entries_in from) (exponent at.mark) at.behind refl (from-items ∙ at.from) powers);
      }

  -- the places that the code counts
  pub power-places : {n : ℕ} → n ≡ count is_place (items_at (entries_in from)) → n ≡ places_behind z.items
  unfolding places_behind
  power-places c = c ∙ ap (count is_place) from-items

  -- the mantissa's text, and the exponent's, of which there is one
  pub mantissa-text : {P : Kind → Context → Type 0} (m : Context) → P number_kind m
      → TextOf P (entries_in before) (items_units m (first_of (integer_places z.items)) (items_at (entries_in before)))
  mantissa-text m p = record { context = m; kind = number_kind; power = first_of (integer_places z.items); subject = p; fit = mantissa-fit m; is = refl }

  pub power-text : {P : Kind → Context → Type 0} (c : Context) → P scientific_kind c → c.integer_places ≡ places_behind z.items
      → TextOf P (entries_in from) (items_units c (first_of (places_behind z.items)) (items_at (entries_in from)))
  power-text c p places = record { context = c; kind = scientific_kind; power = first_of (places_behind z.items); subject = p; fit = power-fit c places; is = refl }

  pub power-some : (size : ℕ) (below : Bool) → HasText (TextOf (PowerIs size below (places_behind z.items))) (entries_in from)
  power-some size below =
      let t : TextOf (PowerIs size below (places_behind z.items)) (entries_in from) _ =
      power-text (power_context size below (places_behind z.items)) (refl, record { figures = refl; ungrouped = refl; sign = refl }, refl) refl in
      short-text from _ parts-few.2 t (power-short 1024 from (omega arith) t)

  -- what is shown of the words is what is shown of the section
  pub scientific-shows : {old out : List ℕ} {r : Result Shown Refusal} {colour : ℕ} (size i : ℕ) (minus exact : Bool) (m c : Context)
      → colour ≡ z.colour → m.integer_places ≡ integer_places z.items → c.integer_places ≡ places_behind z.items
      → Shows (within size (look_of (sign_text minus ++ (items_units m (first_of (integer_places z.items)) (items_at (entries_in before))
      ++ items_units c (first_of (places_behind z.items)) (items_at (entries_in from)))) colour i exact)) old r out
      → Shows (scientific_reading size z i minus exact m c) old r out
  unfolding scientific_reading section_units
  scientific-shows {old} {out} {r} {colour} size i minus exact m c ec em ee h =
      let front : section_units m (before_cut z.items) ≡ items_units m (first_of (integer_places z.items)) (items_at (entries_in before)) =
      ap (λ (n : ℕ). items_units m (first_of n) (before_cut z.items)) em ∙ ap (items_units m (first_of (integer_places z.items))) (sym before-items) in
      let back : section_units c (from_cut z.items) ≡ items_units c (first_of (places_behind z.items)) (items_at (entries_in from)) =
      ap (λ (n : ℕ). items_units c (first_of n) (from_cut z.items)) ee ∙ ap (items_units c (first_of (places_behind z.items))) (sym from-items) in
      rw (front, back, ← ec) h
