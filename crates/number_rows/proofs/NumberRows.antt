-- The walk over a number section's items: what is left to be asked of the entries behind each, and how many places there are in all.
-- Assumes nothing.
use Prim.Native.Nat.{ℕ, zero, suc, ◌+◌, ◌-◌, ◌≤◌, ◌<◌}
use Rattle.std.specs.Prelude.{Option, None, Some, MatchOption}
use native.Mathlib.Omega.{arith}
use mathlib.Core.Path.{◌≡◌, refl, sym, ◌∙◌, subst}
use mathlib.Core.Bool.{Bool, true, false, cond, not, ◌&&◌}
use mathlib.Core.List.{List, [], ◌∷◌}
use lib.Dec.{T, leb, ltb, eqb, leb→le, le→leb, eqb→eq, eqb-suc-zero}
use borrow.Author.Tests.{eqb-true, eqb-false, eq-eqb, leb-true, leb-false, ltb-true, ltb-false, lt-ltb, le-leb, lt-leb, not-true, not-false}
use Rattle.values.specs.Ranges.{between}
use Rattle.lists.specs.Lists.{every, any, count}
use Rattle.lists.proofs.Bools.{no, cond-left, cond-right, and_left, and_right, and_in, by_cases, cond-case, true-T, T_true, carry}
use Rattle.lists.proofs.Counts.{any-count, positive-count}
use Rattle.formats.specs.Items.{Item, half, number_kind, item_allowed, is_fill, is_place, is_point, is_percent, before_cut, integer_places, decimal_places}
use Rattle.formats.proofs.ByNumber.{by_number}
use Rattle.formats.specs.Text.{digit_after, along, first_of}
use Rattle.tables.specs.Words.{Entry, entries_in}
use Rattle.tables.specs.Encode.{entry, kind_word}
use Rattle.tables.specs.Decode.{half_at, item_at, items_at, items_by_tag}
use Rattle.tables.specs.Rules.{entry_in_range, all_of, powers_from, run_powers}
use Rattle.tables.proofs.BackEntries.{between-facts, span-at}
use Rattle.tallies.proofs.Steps.{no-place-beyond}
use Rattle.number_rows.specs.declared.NumberWalk.{NumberWalk}
use Rattle.tallies.specs.Tally.{items_of}
use Rattle.tallies.proofs.Places.{places-bare}
use Rattle.tallies.proofs.Held.{apart, uncut, no-solidi, holds, holds-back, powers-one, powers-bare}
use Rattle.number_rows.specs.NumberRows.{number_items, greatest_power, NumberTold, place_taken, point_taken, percent_taken, fill_taken, number_after}

-- the power and 15 that the next place must have, with n integer places left: before the first place it is theirs
abbrev digit_left : ℕ → ℕ → ℕ → ℕ
digit_left zero next n = 14 + n
digit_left (suc f) next n = next - 1

-- where a place was met and no point, the integer places that are left run down to the power 0
abbrev EndsLeft : ℕ → Bool → ℕ → ℕ → Type 0
EndsLeft zero point next n = Unit {0}
EndsLeft (suc f) true next n = Unit {0}
EndsLeft (suc f) false next n = next ≡ 15 + n

-- the powers without an E, where the digit anew does not matter
abbrev bare_powers : ℕ → List Entry → Bool
bare_powers q es = powers_from 0 q es

-- what is left to be asked of the entries that are left, by what they tell
pub record Asked (first : ℕ) (point : Bool) (next filled : ℕ) (all ranged : Bool) (f p n : ℕ) (power : ℕ → Bool) : Type 0 where
  pub items : T all
  pub ranges : T ranged
  pub fill : filled + f ≤ 1
  pub points : p ≤ cond point 0 1
  pub powers : T (power (digit_left first next n))
  pub ends : EndsLeft first point next n

abbrev pub Left : NumberWalk → List Entry → Type 0
Left s es =
    let is = items_at es in
    Asked s.first s.point s.next s.fills (every (item_allowed number_kind) is) (every entry_in_range es)
    (count is_fill is) (count is_point is) (integer_places is) (λ (q : ℕ). bare_powers q es)

-- what is known of the places: there are i before and d behind the point in all, and of these n and m, together c, are left
abbrev Places : ℕ → Bool → ℕ → ℕ → ℕ → ℕ → ℕ → ℕ → Type 0
Places zero point next i d n m c = (point ≡ false) × (next ≡ 0) × (i ≡ n) × (d ≡ m)
Places (suc f) false next i d n m c = (next ≤ f) × (f ≤ 34) × (i + next ≡ suc f + n) × (d ≡ m)
Places (suc f) true next i d n m c = (next ≤ 15) × (f ≤ 34) × (i + 15 ≡ suc f) × (d + next ≡ 15 + c)

-- so are p percents in all, of which l are left
pub record Counted (i d p first : ℕ) (point : Bool) (next percent filled n m c l : ℕ) : Type 0 where
  pub places : Places first point next i d n m c
  pub percents : p ≡ percent + l
  pub few : percent ≤ 5
  pub fill : filled ≤ 1

abbrev pub Known : ℕ → ℕ → ℕ → NumberWalk → List Entry → Type 0
Known i d p s es =
    let is = items_at es in
    Counted i d p s.first s.point s.next s.percents s.fills (integer_places is) (decimal_places is) (count is_place (before_cut is)) (count is_percent is)

-- the limits, and that there is a place
pub record Within (i d p : ℕ) : Type 0 where
  pub some : 0 < i + d
  pub integers : i ≤ 20
  pub decimals : d ≤ 15
  pub percents : p ≤ 5

-- s becomes r by an entry
pub record Went (i d p : ℕ) (s : NumberWalk) (e : Entry) (es : List Entry) (r : NumberWalk) : Type 0 where
  pub goes : Known i d p r es
  pub back : Left r es → Left s (e ∷ es)
  pub out : Within i d p → Left s (e ∷ es) → Left r es

-- r is what s becomes by an entry; nothing where it is at fault
abbrev pub Turned : ℕ → ℕ → ℕ → NumberWalk → Entry → List Entry → Option NumberWalk → Type 0
Turned i d p s e es r = MatchOption r (Within i d p → Left s (e ∷ es) → ⊥) (Went i d p s e es)

-- opens all that an entry with a known tag computes by
unfoldable computed : Entry → Item
unfolding item_at items_at every count before_cut integer_places decimal_places powers_from all_of along digit_after entry_in_range item_allowed
computed e = item_at e

module _ (i d p : ℕ) (s : NumberWalk) (a : ℕ) (es : List Entry) where
  literal-turn : a < 65536 → Known i d p s (entry 1 a ∷ es) → Turned i d p s (entry 1 a) es (Some s)
  unfolding computed
  literal-turn h k = record { goes = k; back = λ l. rw (lt-ltb a 65536 h) l; out = λ w l. rw (lt-ltb a 65536 h) at l }

  blank_turn : a < 65536 → Known i d p s (entry 2 a ∷ es) → Turned i d p s (entry 2 a) es (Some s)
  unfolding computed
  blank_turn h k = record { goes = k; back = λ l. rw (lt-ltb a 65536 h) l; out = λ w l. rw (lt-ltb a 65536 h) at l }

  one-fill : a < 65536 → s.fills ≡ 0 → Known i d p s (entry 3 a ∷ es) → Turned i d p s (entry 3 a) es (Some (record s { fills = 1 }))
  unfolding computed
  one-fill h e k =
      record {
        goes = record { places = k.places; percents = k.percents; few = k.few; fill = omega arith };
        back = λ l. record { items = l.items; ranges = rw (lt-ltb a 65536 h) l.ranges; fill = omega (arith, l.fill); points = l.points; powers = l.powers; ends = l.ends };
        out = λ w l. record { items = l.items; ranges = rw (lt-ltb a 65536 h) at l.ranges; fill = omega (arith, l.fill); points = l.points; powers = l.powers; ends = l.ends };
      }

  fill-turn : a < 65536 → Known i d p s (entry 3 a ∷ es) → Turned i d p s (entry 3 a) es (fill_taken s)
  unfolding computed fill_taken
  fill-turn h k =
      cond-case (Turned i d p s (entry 3 a) es) (eqb s.fills 0)
      (λ e. one-fill h (eqb-true s.fills 0 e) k)
      (λ e w l. let some = eqb-false s.fills 0 e in let f = l.fill in omega arith)

  few-percents : eqb a 0 ≡ true → s.percents < 5 → Known i d p s (entry 8 a ∷ es) → Turned i d p s (entry 8 a) es (Some (record s { percents = s.percents + 1 }))
  unfolding computed
  few-percents z h k =
      record {
        goes = record { places = k.places; percents = omega (arith, k.percents); few = omega arith; fill = k.fill };
        back = λ l. rw z l;
        out = λ w l. rw z at l;
      }

  percent-turn : Known i d p s (entry 8 a ∷ es) → Turned i d p s (entry 8 a) es (percent_taken s a)
  unfolding computed percent_taken
  percent-turn k =
      let P : Option NumberWalk → Type 0 = Turned i d p s (entry 8 a) es in
      cond-case P (eqb a 0)
      (λ z. cond-case P (ltb s.percents 5)
      (λ e. few-percents z (ltb-true s.percents 5 e) k)
      (λ e w l. let most = ltb-false s.percents 5 e in let q = k.percents in let m = w.percents in omega arith))
      (λ z w l. rw z at l.ranges)

abbrev walk_with : Bool → ℕ → ℕ → ℕ → ℕ → NumberWalk
walk_with point first next percents fills =
    record { point = point; first = first; next = next; percents = percents; fills = fills }

-- a place's range and power, as the rules ask for them
place-asked : (a q : ℕ) (es : List Entry) → T (every entry_in_range (entry 4 a ∷ es)) → T (bare_powers q (entry 4 a ∷ es))
    → (1 ≤ a) × (a ≤ 35) × (a ≡ suc q) × T (every entry_in_range es) × T (bare_powers (q - 1) es)
unfolding computed
place-asked a q es r t =
    let range = between-facts 1 35 a (cond-left (between 1 35 a) (every entry_in_range es) r) in
    (range.0, range.1, eqb→eq a (suc q) (and_left (eqb a (suc q)) _ t), cond-right (between 1 35 a) _ r, and_right (eqb a (suc q)) _ t)

place-ranged : (a : ℕ) (es : List Entry) → 1 ≤ a → a ≤ 35 → T (every entry_in_range es) → T (every entry_in_range (entry 4 a ∷ es))
unfolding computed
place-ranged a es l m t = rw (le-leb 1 a l, le-leb a 35 m) t

place-powered : (a q : ℕ) (es : List Entry) → a ≡ suc q → T (bare_powers (q - 1) es) → T (bare_powers q (entry 4 a ∷ es))
unfolding computed
place-powered a q es e t = and_in (eqb a (suc q)) _ (true-T (eq-eqb a (suc q) e)) t

-- behind a place with the power expected the next power is the one below, and one place less is left
power-places : (f : ℕ) (point : Bool) (a b i d n m c : ℕ) → suc b ≡ a → Places (suc f) point a i d (suc n) m (suc c) → (a ≤ 35) × Places (suc f) point b i d n m c
power-places f false a b i d n m c z q = (omega arith, (omega arith, omega arith, omega arith, omega arith))
power-places f true a b i d n m c z q = (omega arith, (omega arith, omega arith, omega arith, omega arith))

power-ends : (f : ℕ) (point : Bool) (a b n : ℕ) → suc b ≡ a
    → (EndsLeft (suc f) point a (suc n) → EndsLeft (suc f) point b n) × (EndsLeft (suc f) point b n → EndsLeft (suc f) point a (suc n))
power-ends f true a b n z = (λ e. tt, λ e. tt)
power-ends f false a b n z = (λ e. omega arith, λ e. omega arith)

module _ (i d p : ℕ) (es : List Entry) (percents fills : ℕ) where
  abbrev walk : Bool → ℕ → ℕ → NumberWalk
  walk point first next = walk_with point first next percents fills

  abbrev Placed : Bool → ℕ → ℕ → ℕ → Option NumberWalk → Type 0
  Placed point first next a r = Known i d p (walk point first next) (entry 4 a ∷ es) → Turned i d p (walk point first next) (entry 4 a) es r

  -- a place with the power expected; b is the power below
  power-turn : (point : Bool) (first a b : ℕ) → suc b ≡ a → Placed point first a a (Some (walk point first b))
  unfolding computed
  power-turn point zero a b e k = absurd (omega (arith, k.places))
  power-turn point (suc f) a b e k =
      let q = power-places f point a b i d (integer_places (items_at es)) (decimal_places (items_at es)) (count is_place (before_cut (items_at es))) e k.places in
      let ends = power-ends f point a b (integer_places (items_at es)) e in
      let below : b - 1 ≡ a - 1 - 1 = omega arith in
      record {
        goes = record { places = q.1; percents = k.percents; few = k.few; fill = k.fill };
        back = λ l. record {
          items = l.items;
          ranges = place-ranged a es (omega arith) q.0 l.ranges;
          fill = l.fill;
          points = l.points;
          powers = place-powered a (a - 1) es (omega arith) (rw below at l.powers);
          ends = ends.1 l.ends;
        };
        out = λ w l. let h = place-asked a (a - 1) es l.ranges l.powers in
            record { items = l.items; ranges = h.3; fill = l.fill; points = l.points; powers = rw below h.4; ends = ends.0 l.ends };
      }

  -- the first place
  first-turn : (point : Bool) (next b : ℕ) → b ≤ 34 → Placed point zero next (suc b) (Some (walk false (suc b) b))
  unfolding computed
  first-turn point next b m k =
      let q = k.places in
      record {
        goes = record { places = (omega arith, m, omega arith, q.3); percents = k.percents; few = k.few; fill = k.fill };
        back = λ l. let e = l.ends in
            let same : b - 1 ≡ 14 + suc (integer_places (items_at es)) - 1 = omega arith in
            record {
              items = l.items;
              ranges = place-ranged (suc b) es (omega arith) (omega arith) l.ranges;
              fill = l.fill;
              points = rw q.0 l.points;
              powers = place-powered (suc b) (14 + suc (integer_places (items_at es))) es (omega arith) (rw (← same) l.powers);
              ends = tt;
            };
        out = λ w l. let h = place-asked (suc b) (14 + suc (integer_places (items_at es))) es l.ranges l.powers in
            let same : b - 1 ≡ 14 + suc (integer_places (items_at es)) - 1 = omega arith in
            record { items = l.items; ranges = h.3; fill = l.fill; points = rw q.0 at l.points; powers = rw same h.4; ends = omega arith };
      }

  -- a place with another power
  wrong-turn : (point : Bool) (f next a : ℕ) → (next ≡ a → ⊥) → Placed point (suc f) next a None
  unfolding computed
  wrong-turn false f next a n k w l = let h = place-asked a (next - 1) es l.ranges l.powers in let x = l.ends in n (omega arith)
  wrong-turn true f next a n k w l =
      let h = place-asked a (next - 1) es l.ranges l.powers in let q = k.places in let m = w.decimals in n (omega arith)

  -- a place where none was expected
  open_turn : (point : Bool) (first next a : ℕ) → (a ≡ 0 → ⊥) → (next ≡ a → ⊥)
      → Placed point first next a (cond (eqb first 0) (cond (leb a greatest_power) (Some (walk false a (a - 1))) None) None)
  open_turn point (suc f) next a z n k = rw (eqb-suc-zero f) (wrong-turn point f next a n k)
  open_turn point zero next zero z n k = absurd (z refl)
  open_turn point zero next (suc b) z n k =
      let below : suc b - 1 ≡ b = omega arith in
      cond-case (Turned i d p (walk point zero next) (entry 4 (suc b)) es) (leb (suc b) greatest_power)
      (λ e. rw below (first-turn point next b (omega (arith, leb-true (suc b) greatest_power e)) k))
      (λ e w l. let h = place-asked (suc b) _ es l.ranges l.powers in let m = leb-false (suc b) greatest_power e in omega arith)

  place-turn : (point : Bool) (first next a : ℕ) → Placed point first next a (place_taken (walk point first next) a)
  unfolding place_taken
  place-turn point first next a k =
      let P : Option NumberWalk → Type 0 = Turned i d p (walk point first next) (entry 4 a) es in
      cond-case P (eqb a 0)
      (λ z w l. let h = place-asked a _ es l.ranges l.powers in let e = eqb-true a 0 z in omega arith)
      (λ z. let some = eqb-false a 0 z in
      cond-case P (eqb next a)
      (λ e. subst (λ (m : ℕ). Placed point first m a (Some (walk point first (a - 1)))) (sym (eqb-true next a e)) (power-turn point first a (a - 1) (omega arith)) k)
      (λ e. open_turn point first next a some (eqb-false next a e) k))

  -- the point
  abbrev Pointed : Bool → ℕ → ℕ → ℕ → Option NumberWalk → Type 0
  Pointed point first next a r = Known i d p (walk point first next) (entry 7 a ∷ es) → Turned i d p (walk point first next) (entry 7 a) es r

  -- the first that is met
  early-turn : (next a : ℕ) → eqb a 0 ≡ true → Pointed false zero next a (Some (walk true 15 15))
  unfolding computed
  early-turn next a e k =
      let q = k.places in
      record {
        goes = record { places = (omega arith, omega arith, omega arith, omega arith); percents = k.percents; few = k.few; fill = k.fill };
        back = λ l. record { items = l.items; ranges = rw e l.ranges; fill = l.fill; points = omega (arith, l.points); powers = l.powers; ends = tt };
        out = λ w l. record { items = l.items; ranges = rw e at l.ranges; fill = l.fill; points = omega (arith, l.points); powers = l.powers; ends = tt };
      }

  -- behind the place of power 0
  late-turn : (f a : ℕ) → eqb a 0 ≡ true → Pointed false (suc f) 15 a (Some (walk true (suc f) 15))
  unfolding computed
  late-turn f a e k =
      let q = k.places in
      record {
        goes = record { places = (omega arith, omega arith, omega arith, omega arith); percents = k.percents; few = k.few; fill = k.fill };
        back = λ l. record { items = l.items; ranges = rw e l.ranges; fill = l.fill; points = omega (arith, l.points); powers = l.powers; ends = omega arith };
        out = λ w l. record { items = l.items; ranges = rw e at l.ranges; fill = l.fill; points = omega (arith, l.points); powers = l.powers; ends = tt };
      }

  point-turn : (point : Bool) (first next a : ℕ) → Pointed point first next a (point_taken (walk point first next) a)
  unfolding computed point_taken
  point-turn true first next a k = λ w l. let e = l.points in omega arith
  point-turn false zero next a k =
      cond-case (Turned i d p (walk false zero next) (entry 7 a) es) (not (eqb a 0))
      (λ e w l. rw (not-true (eqb a 0) e) at l.ranges)
      (λ e. early-turn next a (not-false (eqb a 0) e) k)
  point-turn false (suc f) next a k =
      let P : Option NumberWalk → Type 0 = Turned i d p (walk false (suc f) next) (entry 7 a) es in
      rw (eqb-suc-zero f)
      (cond-case P (not (eqb a 0))
      (λ e w l. rw (not-true (eqb a 0) e) at l.ranges)
      (λ e. cond-case P (eqb next 15)
      (λ g. subst (λ (m : ℕ). Pointed false (suc f) m a (Some (walk true (suc f) m))) (sym (eqb-true next 15 g)) (late-turn f a (not-false (eqb a 0) e)) k)
      (λ g w l. let h = l.ends in eqb-false next 15 g (omega arith))))

-- an item of another kind
foreign-tag : (t a : ℕ) → item_allowed number_kind (item_at (entry t a)) ≡ between 1 8 t
unfolding item_at item_allowed
foreign-tag t a =
    by_number (item_allowed number_kind) (λ (n : ℕ). between 1 8 n) (items_by_tag a) 26 (half (half_at a)) refl
    (λ n h. sym (simp (le-leb 1 n (omega arith), lt-leb n 8 (omega arith)))) t

no-figure : (t : ℕ) → between 4 6 t ≡ false → (t ≡ 1 → ⊥) → (t ≡ 2 → ⊥) → (t ≡ 3 → ⊥) → (t ≡ 7 → ⊥) → (t ≡ 8 → ⊥) → between 1 8 t ≡ false
no-figure t e n₁ n₂ n₃ n₇ n₈ =
    by_cases (between 1 8 t)
    (λ b. let f = between-facts 1 8 t (true-T b) in
    let apart : 6 < t = no-place-beyond t (omega arith) e in
    absurd (omega arith))
    (λ b. b)

module _ (i d p : ℕ) (s : NumberWalk) (a : ℕ) (es : List Entry) where
  foreign-turn : (t : ℕ) → between 1 8 t ≡ false → Turned i d p s (entry t a) es None
  unfolding every items_at
  foreign-turn t e w l = rw (foreign-tag t a ∙ e) at l.items

  -- the three places differ in nothing that is asked
  abbrev Alike : ℕ → Type 0
  Alike t = (Known i d p s (entry t a ∷ es) → Known i d p s (entry 4 a ∷ es)) × ((r : Option NumberWalk) → Turned i d p s (entry 4 a) es r → Turned i d p s (entry t a) es r)

  alike : (t : ℕ) → (Known i d p s (entry t a ∷ es) → Known i d p s (entry 4 a ∷ es))
      → (Left s (entry 4 a ∷ es) → Left s (entry t a ∷ es)) → (Left s (entry t a ∷ es) → Left s (entry 4 a ∷ es)) → Alike t
  alike t known back out = (known, by)
    where
      by : (r : Option NumberWalk) → Turned i d p s (entry 4 a) es r → Turned i d p s (entry t a) es r
      by None f = λ w l. f w (out l)
      by (Some r) t = record { goes = t.goes; back = λ l. back (t.back l); out = λ w l. t.out w (out l) }

  places-alike : (t : ℕ) → between 4 6 t ≡ true → Alike t
  unfolding computed
  places-alike t h =
      let f = between-facts 4 6 t (true-T h) in
      span-at Alike 4 3 t (
        alike 4 (λ k. k) (λ l. l) (λ l. l),
        (alike 5 (λ k. k) (λ l. l) (λ l. l), (alike 6 (λ k. k) (λ l. l) (λ l. l), tt)),
      ) f.0 (omega arith)

  number-turn : (t : ℕ) → a < 65536 → Known i d p s (entry t a ∷ es) → Turned i d p s (entry t a) es (number_after s t a)
  unfolding number_after
  number-turn t h k =
      let P : Option NumberWalk → Type 0 = Turned i d p s (entry t a) es in
      let at : (n : ℕ) (r : Option NumberWalk) → eqb t n ≡ true → (Known i d p s (entry n a ∷ es) → Turned i d p s (entry n a) es r) → P r =
      λ n r e f. subst (λ (m : ℕ). Known i d p s (entry m a ∷ es) → Turned i d p s (entry m a) es r) (sym (eqb-true t n e)) f k in
      cond-case P (between 4 6 t)
      (λ e. let alike = places-alike t e in alike.1 _ (place-turn i d p es s.percents s.fills s.point s.first s.next a (alike.0 k)))
      (λ e₄. cond-case P (eqb t 1) (λ e. at 1 (Some s) e (literal-turn i d p s a es h))
      (λ e₁. cond-case P (eqb t 2) (λ e. at 2 (Some s) e (blank_turn i d p s a es h))
      (λ e₂. cond-case P (eqb t 3) (λ e. at 3 _ e (fill-turn i d p s a es h))
      (λ e₃. cond-case P (eqb t 7) (λ e. at 7 _ e (point-turn i d p es s.percents s.fills s.point s.first s.next a))
      (λ e₇. cond-case P (eqb t 8) (λ e. at 8 _ e (percent-turn i d p s a es))
      (λ e₈. foreign-turn t (no-figure t e₄ (eqb-false t 1 e₁) (eqb-false t 2 e₂) (eqb-false t 3 e₃) (eqb-false t 7 e₇) (eqb-false t 8 e₈))))))))

-- ---- the whole section
module _ (es : List Entry) where
  abbrev is : List Item
  is = items_at es

  abbrev Limits : Type 0
  Limits = Within (integer_places is) (decimal_places is) (count is_percent is)

  abbrev begun : NumberWalk
  begun = walk_with false 0 0 0 0

  number-known : Known (integer_places is) (decimal_places is) (count is_percent is) begun es
  number-known = record { places = (refl, refl, refl, refl); percents = omega arith; few = omega arith; fill = omega arith }

  number-out : T (number_items es) → Limits × Left begun es
  unfolding number_items run_powers kind_word
  number-out t =
      let integers : integer_places is ≤ 20 = search (and_left, and_right, leb→le) depth 6 in
      let decimals : decimal_places is ≤ 15 = search (and_left, and_right, leb→le) depth 6 in
      let percents : count is_percent is ≤ 5 = search (and_left, and_right, leb→le) depth 6 in
      let h = holds number_kind es (and_left (items_of 2 es) _ t) in
      let a = apart number_kind is h.items in
      let bare = uncut is (a.exponents refl) (a.solidi refl) in
      let some = any-count is_place is (T_true (any is_place is) h.made) in (
        record { some = omega (arith, places-bare is bare); integers = integers; decimals = decimals; percents = percents },
        record { items = h.items; ranges = h.ranges; fill = omega (arith, h.fill); points = (h.figures refl).0; powers = carry (powers-one es (no-solidi is (a.solidi refl)).0 ∙ powers-bare _ 0 (first_of (integer_places is)) es bare) (h.figures refl).1; ends = tt },
      )

  number-back : Limits → Left begun es → T (number_items es)
  unfolding number_items run_powers kind_word
  number-back w l =
      let a = apart number_kind is l.items in
      let bare = uncut is (a.exponents refl) (a.solidi refl) in
      let items : T (items_of 2 es) = holds-back number_kind es (record {
        items = l.items;
        made = true-T (sym (positive-count is_place is) ∙ lt-ltb 0 (count is_place is) (omega (arith, w.some, places-bare is bare)));
        ranges = l.ranges;
        fill = omega (arith, l.fill);
        general = λ e. no e;
        figures = λ e. (l.points, carry (powers-bare 0 _ (first_of (integer_places is)) es bare ∙ sym (powers-one es (no-solidi is (a.solidi refl)).0)) l.powers);
        exponent = λ e. no e;
        fraction = λ e. no e;
        dates = λ e. no e;
      }) in
      search (and_in, le→leb) depth 6

  refused-told : (T (number_items es) → ⊥) → NumberTold es None
  refused-told f = by_cases (number_items es) (λ e. absurd (f (true-T e))) (λ e. e)

-- ---- the end, where no place is left
record Ended (first next i d : ℕ) : Type 0 where
  least : 15 ≤ first
  most : next ≤ 15
  integers : first - 15 ≡ i
  decimals : 15 - next ≡ d
  few_integers : i ≤ 20
  few_decimals : d ≤ 15
  some : 0 < i + d

abbrev open_end : Bool → ℕ → Bool
open_end point next = not point && not (eqb next 15)

ended : (first : ℕ) (point : Bool) (next i d : ℕ) → Places first point next i d 0 0 0 → (first ≡ next → ⊥) → open_end point next ≡ false → Ended first next i d × EndsLeft first point next 0
ended zero point next i d q n e = absurd (n (sym q.1))
ended (suc f) true next i d q n e =
    (record { least = omega arith; most = omega arith; integers = omega arith; decimals = omega arith; few_integers = omega arith; few_decimals = omega arith; some = omega arith }, tt)
ended (suc f) false next i d q n e =
    let last = eqb-true next 15 (not-false (eqb next 15) e) in
    (record { least = omega arith; most = omega arith; integers = omega arith; decimals = omega arith; few_integers = omega arith; few_decimals = omega arith; some = omega arith }, omega arith)

no_place_lem : (first : ℕ) (point : Bool) (next i d : ℕ) → Places first point next i d 0 0 0 → first ≡ next → 0 < i + d → ⊥
no_place_lem zero point next i d q e h = omega arith
no_place_lem (suc f) false next i d q e h = omega arith
no_place_lem (suc f) true next i d q e h = omega arith

open-end : (first : ℕ) (point : Bool) (next i d : ℕ) → Places first point next i d 0 0 0 → (first ≡ next → ⊥) → open_end point next ≡ true → EndsLeft first point next 0 → ⊥
open-end zero point next i d q n e h = n (sym q.1)
open-end (suc f) true next i d q n e h = no e
open-end (suc f) false next i d q n e h = eqb-false next 15 (not-true (eqb next 15) e) (omega arith)

-- ---- the loop, with these entries left
pub record Counting (words : List ℕ) (left : List Entry) (s : NumberWalk) : Type 0 where
  pub known : Known (integer_places (items_at (entries_in words))) (decimal_places (items_at (entries_in words))) (count is_percent (items_at (entries_in words))) s left
  pub out : T (number_items (entries_in words)) → Limits (entries_in words) × Left s left
  pub back : Limits (entries_in words) → Left s left → T (number_items (entries_in words))

pub counting-start : (words : List ℕ) → Counting words (entries_in words) (begun (entries_in words))
counting-start words =
    record { known = number-known (entries_in words); out = number-out (entries_in words); back = number-back (entries_in words) }

module _ {words : List ℕ} {left : List Entry} {s : NumberWalk} (inv : Counting words left s) where
  abbrev whole : List Entry
  whole = entries_in words

  abbrev all : List Item
  all = items_at (entries_in words)

  module _ (t a : ℕ) (rest : List Entry) (front : left ≡ entry t a ∷ rest) (small : a < 65536) where
    turned : (r : Option NumberWalk) → number_after s t a ≡ r → Turned (integer_places all) (decimal_places all) (count is_percent all) s (entry t a) rest r
    turned r e = rw (← e) (number-turn _ _ _ s a rest t small (rw front at inv.known))

    pub counting-step : {r : NumberWalk} → number_after s t a ≡ Some r → Counting words rest r
    counting-step {r} e =
        let n = turned (Some r) e in
        record {
          known = n.goes;
          out = λ b. let o = inv.out b in (o.0, n.out o.0 (rw front at o.1));
          back = λ w l. inv.back w (rw front (n.back l));
        }

    pub counting-fault : number_after s t a ≡ None → NumberTold whole None
    counting-fault e = refused-told whole (λ b. let o = inv.out b in turned None e o.0 (rw front at o.1))

  module _ (none : left ≡ []) where
    places : Places s.first s.point s.next (integer_places all) (decimal_places all) 0 0 0
    unfolding items_at before_cut integer_places decimal_places count
    places = rw none at inv.known.places

    pub counting-none : s.first ≡ s.next → NumberTold whole None
    counting-none e = refused-told whole (λ b. no_place_lem s.first s.point s.next _ _ places e (inv.out b).0.some)

    pub counting-open : (s.first ≡ s.next → ⊥) → open_end s.point s.next ≡ true → NumberTold whole None
    unfolding items_at integer_places
    counting-open f e =
        refused-told whole (λ b. open-end s.first s.point s.next _ _ places f e (rw none at (inv.out b).1.ends))

    -- all items were taken, and all places are counted
    pub counting-ends : (s.first ≡ s.next → ⊥) → open_end s.point s.next ≡ false → (15 ≤ s.first) × (s.next ≤ 15)
    counting-ends f e = let t = (ended s.first s.point s.next _ _ places f e).0 in (t.least, t.most)

    percents-are : s.percents ≡ count is_percent all
    unfolding items_at count
    percents-are = let p : count is_percent all ≡ s.percents + 0 = rw none at inv.known.percents in omega arith

    all-taken : (s.first ≡ s.next → ⊥) → open_end s.point s.next ≡ false → T (number_items whole)
    unfolding items_at every count integer_places powers_from all_of along
    all-taken f e =
        let t = ended s.first s.point s.next _ _ places f e in
        let k = inv.known in
        inv.back (record { some = t.0.some; integers = t.0.few_integers; decimals = t.0.few_decimals; percents = omega (arith, percents-are, k.few) })
        (rw none (record { items = tt; ranges = tt; fill = omega (arith, k.fill); points = omega arith; powers = tt; ends = t.1 }))

    pub counting-told : (s.first ≡ s.next → ⊥) → open_end s.point s.next ≡ false
        → NumberTold whole (Some (record { integers = s.first - 15; decimals = 15 - s.next; percents = s.percents }))
    counting-told f e =
        let t = (ended s.first s.point s.next _ _ places f e).0 in
        record { fits = T_true (number_items whole) (all-taken f e); integers = t.integers; decimals = t.decimals; percents = percents-are }
