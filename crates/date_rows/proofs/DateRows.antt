-- The walk over a date-time section's items: what is left to be asked of the entries behind each, and what was met in all.
-- Assumes nothing.
use Prim.Native.Nat.{ℕ, suc, ◌+◌, ◌-◌, ◌≤◌}
use Rattle.std.specs.Prelude.{Option, None, Some, MatchOption}
use Rattle.std.specs.Option.{is_some}
use Rattle.std.proofs.lemmas.Option.{cond_some}
use native.Mathlib.Omega.{arith}
use mathlib.Core.Path.{◌≡◌, refl, sym, ◌∙◌, ap}
use mathlib.Core.Bool.{Bool, true, false, true≢false, cond, not, ◌&&◌, ◌||◌, and-true}
use mathlib.Core.List.{List, [], ◌∷◌}
use lib.Dec.{T, leb, eqb}
use borrow.Author.Tests.{eqb-true, eqb-false, eq-eqb, ne_eqb, le-leb, lt-leb, not-true}
use Rattle.values.specs.Ranges.{between}
use Rattle.lists.specs.Lists.{every, any, count}
use Rattle.lists.proofs.Bools.{no, and_left, and_right, and_in, by_cases, true-T, T_true, or-cond, or-false, carry, every-head, every-tail, every-cons}
use Rattle.formats.specs.Tokens.{Elapsed, hours, minutes, seconds, elapsed_index}
use Rattle.formats.specs.Items.{Item, half, date_kind, item_allowed, item_makes, is_fill, is_part, is_hour, is_minute, is_second, is_elapsed, is_elapsed_of, is_half, no_plain, run_of, run_of_elapsed, elapsed}
use Rattle.formats.specs.Where.{implies}
use Rattle.formats.specs.WellFormed.{is_seconds, parts_from, parts_follow}
use Rattle.formats.proofs.Each.{by-item, by-elapsed}
use Rattle.formats.proofs.ByNumber.{by_number}
use Rattle.tables.specs.Words.{Entry, entries_in}
use Rattle.tables.specs.Encode.{entry, kind_word, has_half}
use Rattle.tables.specs.Decode.{half_at, item_at, items_at, items_by_tag}
use Rattle.tables.specs.Rules.{entry_in_range}
use Rattle.tables.proofs.BackEntries.{between-facts, span-at}
use Rattle.date_rows.specs.declared.DateWalk.{DateWalk}
use Rattle.date_rows.specs.declared.earlier_runs.Earlier.{Earlier}
use Rattle.date_rows.specs.declared.earlier_runs.Earlier.TheVariants.{Nothing}
use Rattle.tallies.specs.Tally.{makes_date, items_of}
use Rattle.date_rows.specs.Runs.{is_nothing, is_hours, minutes_wait, run_after, earlier_after, may_stand, answers}
use Rattle.date_rows.specs.DateRows.{DateTold, date_sound, date_after, date_next, plain_told}
use Rattle.date_rows.proofs.Runs.{runs_from, runs-front, runs-end, runs-start}
use Rattle.tallies.proofs.Told.{no-plain-every}
use Rattle.tallies.proofs.Held.{holds, holds-back}
use Rattle.scans.proofs.Scanned.{tag_is, any-tagged}
use Rattle.scans.specs.Scans.{has_tag}

-- what is left to be asked of the entries that are left
pub record Left (s : DateWalk) (es : List Entry) : Type 0 where
  pub items : T (every (item_allowed date_kind) (items_at es))
  pub ranges : T (every entry_in_range es)
  pub fill : count is_fill (items_at es) ≤ cond s.filled 0 1
  pub elapsed : count is_elapsed (items_at es) ≤ cond (is_some s.plain) 0 1
  pub runs : T (runs_from s.earlier (items_at es))
  pub parts : T (parts_from s.behind_seconds (items_at es))

-- ---- one item in front, of a sort that may be met once
once-front : (b met : Bool) (r : ℕ) → cond b (suc r) r ≤ cond met 0 1 → T (implies b (not met)) × (r ≤ cond (b || met) 0 1)
once-front true true r h = absurd (omega arith)
once-front true false r h = (tt, omega arith)
once-front false met r h = (tt, h)

once-back : (b met : Bool) (r : ℕ) → T (implies b (not met)) → r ≤ cond (b || met) 0 1 → cond b (suc r) r ≤ cond met 0 1
once-back true true r t h = absurd t
once-back true false r t h = omega arith
once-back false met r t h = h

-- whether an elapsed item was met, behind an item
plain-met : (b : Bool) (t : ℕ) (plain : Option ℕ) → is_some (cond b (Some t) plain) ≡ (b || is_some plain)
plain-met true t plain = refl
plain-met false t plain = refl

-- an elapsed item by its tag
elapsed-number : (t a : ℕ) → is_elapsed (item_at (entry t a)) ≡ between 18 20 t
unfolding item_at
elapsed-number t a =
    by_number is_elapsed (λ (n : ℕ). between 18 20 n) (items_by_tag a) 26 (half (half_at a)) refl
    (λ n h. sym (simp (le-leb 18 n (omega arith), lt-leb n 20 (omega arith)))) t

elapsed-tag : (d : Elapsed) (t a : ℕ) → is_elapsed_of d (item_at (entry t a)) ≡ eqb t (18 + elapsed_index d)
unfolding item_at
elapsed-tag d t a =
    by-elapsed (λ d. is_elapsed_of d (item_at (entry t a)) ≡ eqb t (18 + elapsed_index d))
    (by_number (is_elapsed_of hours) (λ (n : ℕ). eqb n 18) (items_by_tag a) 26 (half (half_at a)) refl (λ n h. sym (ne_eqb n 18 (λ e. absurd (omega arith)))) t)
    (by_number (is_elapsed_of minutes) (λ (n : ℕ). eqb n 19) (items_by_tag a) 26 (half (half_at a)) refl (λ n h. sym (ne_eqb n 19 (λ e. absurd (omega arith)))) t)
    (by_number (is_elapsed_of seconds) (λ (n : ℕ). eqb n 20) (items_by_tag a) 26 (half (half_at a)) refl (λ n h. sym (ne_eqb n 20 (λ e. absurd (omega arith)))) t)
    d

module _ (s : DateWalk) (e : Entry) (es : List Entry) where
  abbrev front : Item
  front = item_at e

  abbrev rest : List Item
  rest = items_at es

  abbrev run_test : Bool
  run_test = may_stand s.earlier front && answers s.earlier (run_of front)

  left_out : Left s (e ∷ es) → T (date_sound s e) × Left (date_after s e) es
  unfolding items_at count date_sound date_after parts_from
  left_out l =
      let filled = once-front (is_fill front) s.filled (count is_fill rest) l.fill in
      let elapsed = once-front (is_elapsed front) (is_some s.plain) (count is_elapsed rest) l.elapsed in
      let runs = carry (runs-front s.earlier front rest) l.runs in
      let allowed : T (item_allowed date_kind front) = every-head (item_allowed date_kind) front rest l.items in
      let first : T (implies (is_fill front) (not s.filled)) = filled.0 in
      let once : T (implies (is_elapsed front) (not (is_some s.plain))) = elapsed.0 in
      let part : T (implies (is_part front) s.behind_seconds) = and_left (implies (is_part front) s.behind_seconds) _ l.parts in
      let ranged : T (entry_in_range e) = every-head entry_in_range e es l.ranges in
      let run : T run_test = and_left run_test _ runs in
      let sound : T (date_sound s e) = search and_in depth 8 in (
        sound,
        record {
          items = every-tail (item_allowed date_kind) front rest l.items;
          ranges = every-tail entry_in_range e es l.ranges;
          fill = filled.1;
          elapsed = rw (plain-met (is_elapsed front) (e.tag - 4) s.plain) elapsed.1;
          runs = and_right run_test _ runs;
          parts = and_right (implies (is_part front) s.behind_seconds) _ l.parts;
        },
      )

  left_back : T (date_sound s e) → Left (date_after s e) es → Left s (e ∷ es)
  unfolding items_at count date_sound date_after parts_from
  left_back t l =
      let allowed : T (item_allowed date_kind front) = search and_left in
      let filled : T (implies (is_fill front) (not s.filled)) = search (and_left, and_right) depth 8 in
      let once : T (implies (is_elapsed front) (not (is_some s.plain))) = search (and_left, and_right) depth 8 in
      let part : T (implies (is_part front) s.behind_seconds) = search (and_left, and_right) depth 8 in
      let ranged : T (entry_in_range e) = search (and_left, and_right) depth 8 in
      let run : T run_test = search and_right depth 8 in
      record {
        items = every-cons (item_allowed date_kind) front rest allowed l.items;
        ranges = every-cons entry_in_range e es ranged l.ranges;
        fill = once-back (is_fill front) s.filled (count is_fill rest) filled l.fill;
        elapsed = once-back (is_elapsed front) (is_some s.plain) (count is_elapsed rest) once (rw (plain-met (is_elapsed front) (e.tag - 4) s.plain) at l.elapsed);
        runs = carry (sym (runs-front s.earlier front rest)) (and_in run_test _ run l.runs);
        parts = and_in (implies (is_part front) s.behind_seconds) (parts_from (is_seconds front) rest) part l.parts;
      }

-- ---- what is known of all items by what was met of them
-- the tag kept is that of the plain equivalent of an elapsed item
abbrev is_plain : Option ℕ → ℕ → Bool
is_plain None tag = false
is_plain (Some t) tag = eqb t tag

pub record Known (all : List Item) (s : DateWalk) (es : List Entry) : Type 0 where
  pub dating : any makes_date all ≡ (not (is_nothing s.earlier) || any makes_date (items_at es))
  pub halves : any is_half all ≡ (s.halves || any is_half (items_at es))
  pub elapsed : (d : Elapsed) → any (is_elapsed_of d) all ≡ (is_plain s.plain (14 + elapsed_index d) || any (is_elapsed_of d) (items_at es))
  pub tag : MatchOption s.plain (Unit {0}) (λ t. T (between 14 16 t))

-- an item that makes a date-time section leaves a run
run-left : (n : Earlier) (i : Item) → not (is_nothing (earlier_after n i)) ≡ (makes_date i || not (is_nothing n))
unfolding earlier_after run_after run_of run_of_elapsed item_makes
run-left n =
    by-item (λ i. not (is_nothing (earlier_after n i)) ≡ (makes_date i || not (is_nothing n))) (λ u. refl) (λ u. refl) (λ u. refl) (λ p. refl) refl refl refl refl (λ a. refl)
    (λ a. by_cases (leb a 2) (λ e. rw e) (λ e. rw e)) (λ a. refl) (λ a. refl) (λ a. by_cases (is_hours n) (λ e. rw e) (λ e. rw e)) (λ a. refl) (λ a. refl)
    (λ x a. by-elapsed (λ (d : Elapsed). not (is_nothing (earlier_after n (elapsed d a))) ≡ (makes_date (elapsed d a) || not (is_nothing n))) refl refl refl x) (λ h. refl) (λ m. refl)
    refl (λ n. refl)

met-front : (a b r : Bool) → (a || cond b true r) ≡ ((b || a) || r)
met-front true true r = refl
met-front true false r = refl
met-front false true r = refl
met-front false false r = refl

module _ (s : DateWalk) (e : Entry) (sound : T (date_sound s e)) where
  once : is_elapsed (item_at e) ≡ true → is_some s.plain ≡ false
  unfolding date_sound
  once h =
      let t : T (implies (is_elapsed (item_at e)) (not (is_some s.plain))) = search (and_left, and_right) depth 8 in
      not-true (is_some s.plain) (T_true (not (is_some s.plain)) (rw h at t))

  tag-known : MatchOption s.plain (Unit {0}) (λ t. T (between 14 16 t)) → MatchOption (date_after s e).plain (Unit {0}) (λ t. T (between 14 16 t))
  unfolding date_after
  tag-known t =
      by_cases (is_elapsed (item_at e))
      (λ h. let f = between-facts 18 20 e.tag (true-T (sym (elapsed-number e.tag e.argument) ∙ h)) in
      rw h (let low : 14 ≤ e.tag - 4 = omega arith in let high : e.tag - 4 ≤ 16 = omega arith in rw (le-leb 14 (e.tag - 4) low, le-leb (e.tag - 4) 16 high) tt))
      (λ h. rw h t)

  none-plain : (plain : Option ℕ) (tag : ℕ) → is_some plain ≡ false → is_plain plain tag ≡ false
  none-plain None tag n = refl
  none-plain (Some t) tag n = absurd (true≢false n)

  elapsed-met : (d : Elapsed) (r : Bool)
      → (is_plain s.plain (14 + elapsed_index d) || cond (is_elapsed_of d (item_at e)) true r) ≡ (is_plain (date_after s e).plain (14 + elapsed_index d) || r)
  unfolding date_after
  elapsed-met d r =
      by_cases (is_elapsed (item_at e))
      (λ h. let f = between-facts 18 20 e.tag (true-T (sym (elapsed-number e.tag e.argument) ∙ h)) in
      rw (none-plain s.plain (14 + elapsed_index d) (once h), elapsed-tag d e.tag e.argument, h, four-below e.tag (elapsed_index d) (omega arith)) (sym (or-cond (eqb e.tag (18 + elapsed_index d)) r)))
      (λ h. rw h)
    where
      four-below : (t n : ℕ) → 4 ≤ t → eqb (t - 4) (14 + n) ≡ eqb t (18 + n)
      four-below t n h =
          by_cases (eqb t (18 + n))
          (λ x. let e = eqb-true t (18 + n) x in rw x (eq-eqb (t - 4) (14 + n) (omega arith)))
          (λ x. let e = eqb-false t (18 + n) x in rw x (ne_eqb (t - 4) (14 + n) (λ y. e (omega arith))))

  known_step : (all : List Item) (es : List Entry) → Known all s (e ∷ es) → Known all (date_after s e) es
  unfolding items_at any
  known_step all es k =
      record {
        dating = k.dating ∙ met-front (not (is_nothing s.earlier)) (makes_date (item_at e)) (any makes_date (items_at es)) ∙ unfold date_after in rw (run-left s.earlier (item_at e));
        halves = k.halves ∙ unfold date_after in met-front s.halves (is_half (item_at e)) (any is_half (items_at es));
        elapsed = λ d. k.elapsed d ∙ elapsed-met d (any (is_elapsed_of d) (items_at es));
        tag = tag-known k.tag;
      }

-- ---- the whole section
module _ (es : List Entry) where
  abbrev is : List Item
  is = items_at es

  abbrev begun : DateWalk
  begun = record { earlier = Nothing; behind_seconds = false; filled = false; plain = None; halves = false }

  known_start : Known is begun es
  known_start = record { dating = refl; halves = refl; elapsed = λ d. refl; tag = tt }

  -- a date item, and no elapsed item beside its plain equivalent
  abbrev Rules : Type 0
  Rules = (any makes_date is ≡ true) × T (every (no_plain is) is)

  dates-out : T (items_of 4 es) → Rules × Left begun es
  unfolding parts_follow kind_word
  dates-out t =
      let h = holds date_kind es t in
      let d = h.dates refl in (
        (T_true (any makes_date is) h.made, d.plain),
        record { items = h.items; ranges = h.ranges; fill = h.fill; elapsed = d.elapsed; runs = carry (sym (runs-start is)) d.settled; parts = d.parts },
      )

  dates-back : Rules → Left begun es → T (items_of 4 es)
  unfolding parts_follow kind_word
  dates-back w l =
      holds-back date_kind es (record {
        items = l.items;
        made = true-T w.0;
        ranges = l.ranges;
        fill = l.fill;
        general = λ e. no e;
        figures = λ e. no e;
        exponent = λ e. no e;
        fraction = λ e. no e;
        dates = λ e. record { parts = l.parts; settled = carry (runs-start is) l.runs; elapsed = l.elapsed; plain = w.1 };
      })

  refused-told : (T (items_of 4 es) → ⊥) → DateTold es None
  refused-told f = by_cases (items_of 4 es) (λ e. absurd (f (true-T e))) (λ e. e)

  -- the plain equivalent of the elapsed item, whose tag is kept
  abbrev Beside : Option ℕ → Type 0
  Beside x =
      (not (is_plain x 14 && has_tag es 14) && (not (is_plain x 15 && has_tag es 15) && not (is_plain x 16 && has_tag es 16))) ≡ not (plain_told es x)

  beside-told : (x : Option ℕ) → MatchOption x (Unit {0}) (λ t. T (between 14 16 t)) → Beside x
  beside-told None t = refl
  beside-told (Some x) t =
      let f = between-facts 14 16 x t in
      span-at (λ (n : ℕ). Beside (Some n)) 14 3 x (and-true (not (has_tag es 14)), (and-true (not (has_tag es 15)), (refl, tt))) f.0 (omega arith)

  plain-told : (x : Option ℕ) → MatchOption x (Unit {0}) (λ t. T (between 14 16 t)) → ((d : Elapsed) → any (is_elapsed_of d) is ≡ is_plain x (14 + elapsed_index d))
      → every (no_plain is) is ≡ not (plain_told es x)
  plain-told x t f =
      no-plain-every is
      ∙ rw (f hours, f minutes, f seconds, any-tagged is_hour 14 (λ e. tag_is is_hour 14 e refl (omega arith) refl) es, any-tagged is_minute 15 (λ e. tag_is is_minute 15 e refl (omega arith) refl) es, any-tagged is_second 16 (λ e. tag_is is_second 16 e refl (omega arith) refl) es) (beside-told x t)

or_nothing : (b : Bool) → (b || false) ≡ b
or_nothing true = refl
or_nothing false = refl

-- ---- the loop, with these entries left
pub record Dating (words : List ℕ) (left : List Entry) (s : DateWalk) : Type 0 where
  pub known : Known (items_at (entries_in words)) s left
  pub out : T (items_of 4 (entries_in words)) → Rules (entries_in words) × Left s left
  pub back : Rules (entries_in words) → Left s left → T (items_of 4 (entries_in words))

pub dating-start : (words : List ℕ) → Dating words (entries_in words) (begun (entries_in words))
dating-start words =
    record { known = known_start (entries_in words); out = dates-out (entries_in words); back = dates-back (entries_in words) }

-- a step goes on where the entry is sound
next-some : (s r : DateWalk) (e : Entry) → date_next s e ≡ Some r → T (date_sound s e) × (date_after s e ≡ r)
unfolding date_next
next-some s r e n = let c = cond_some (date_sound s e) (date_after s e) r n in (true-T c.0, c.1)

next-none : (s : DateWalk) (e : Entry) → date_next s e ≡ None → T (date_sound s e) → ⊥
unfolding date_next
next-none s e n t = let n : Some (date_after s e) ≡ None = rw (T_true (date_sound s e) t) at n in cc

module _ {words : List ℕ} {left : List Entry} {s : DateWalk} (inv : Dating words left s) where
  abbrev whole : List Entry
  whole = entries_in words

  module _ (here : Entry) (rest : List Entry) (front : left ≡ here ∷ rest) where
    pub dating-step : {r : DateWalk} → date_next s here ≡ Some r → Dating words rest r
    dating-step {r} e =
        let t = next-some s r here e in
        rw (← t.1) (record {
          known = known_step s here t.0 (items_at whole) rest (rw front at inv.known);
          out = λ b. let o = inv.out b in (o.0, (left_out s here rest (rw front at o.1)).1);
          back = λ w l. inv.back w (rw front (left_back s here rest t.0 l));
        })

    pub dating-fault : date_next s here ≡ None → DateTold whole None
    dating-fault e = refused-told whole (λ b. next-none s here e (left_out s here rest (rw front at (inv.out b).1)).0)

  module _ (none : left ≡ []) where
    last : Known (items_at whole) s []
    last = rw none at inv.known

    -- no date item was met, or minutes wait
    pub dating-open : (is_nothing s.earlier || minutes_wait s.earlier) ≡ true → DateTold whole None
    unfolding items_at any
    dating-open e =
        refused-told whole
        (λ b. let o = inv.out b in
        by_cases (is_nothing s.earlier)
        (λ z. absurd (true≢false (sym o.0.0 ∙ last.dating ∙ rw z)))
        (λ z. let w : minutes_wait s.earlier ≡ true = rw z at e in
        let l : Left s [] = rw none at o.1 in
        let ends : T (not (minutes_wait s.earlier)) = carry (runs-end s.earlier) l.runs in
        rw w at ends))

    module _ (e : (is_nothing s.earlier || minutes_wait s.earlier) ≡ false) where
      dated : any makes_date (items_at whole) ≡ true
      unfolding items_at any
      dated = last.dating ∙ rw (or-false (is_nothing s.earlier) (minutes_wait s.earlier) e).0

      -- all items were taken
      taken : Left s left
      unfolding items_at every count parts_from
      taken =
          rw none (record {
            items = tt;
            ranges = tt;
            fill = omega arith;
            elapsed = omega arith;
            runs = carry (sym (runs-end s.earlier)) (rw (or-false (is_nothing s.earlier) (minutes_wait s.earlier) e).1 tt);
            parts = tt;
          })

      plain : every (no_plain (items_at whole)) (items_at whole) ≡ not (plain_told whole s.plain)
      unfolding items_at any
      plain = plain-told whole s.plain last.tag (λ d. last.elapsed d ∙ or_nothing (is_plain s.plain (14 + elapsed_index d)))

      pub dating-beside : plain_told whole s.plain ≡ true → DateTold whole None
      dating-beside p = refused-told whole (λ t. carry (plain ∙ ap not p) (inv.out t).0.1)

      pub dating-told : plain_told whole s.plain ≡ false → DateTold whole (Some (record { halves = s.halves }))
      unfolding items_at any has_half
      dating-told p =
          record {
            fits = T_true (items_of 4 whole) (inv.back (dated, carry (sym (plain ∙ ap not p)) tt) taken);
            halves = sym (last.halves ∙ or_nothing s.halves);
          }
