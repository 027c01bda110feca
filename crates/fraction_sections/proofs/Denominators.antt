-- A denominator in its places: they are shown with `#` for `?`, and its spare `?` are counted.
-- Assumes nothing.
use Prim.Native.Nat.{ℕ, suc, ◌+◌, ◌-◌, ◌*◌, ◌/◌, ◌≤◌, min}
use native.Mathlib.Omega.{arith}
use mathlib.Core.Path.{◌≡◌, refl, sym, ap, ◌∙◌}
use mathlib.Core.Bool.{Bool, false, ◌||◌}
use mathlib.Core.List.{List, [], ◌∷◌, ◌++◌, map}
use lib.Dec.{T, eqb, eqb→eq}
use lib.ListN.{length, take, drop, length-take}
use lib.Seq.{take-append_seam, length-take-le}
use borrow.Author.Tests.{eqb-true, eq-eqb, ne_eqb}
use Rattle.values.specs.Ranges.{between}
use Rattle.lists.specs.Lists.{every, count}
use Rattle.lists.proofs.Bools.{by_cases, carry, T_true, true-T, same_test, and_left, every-head, every-tail}
use Rattle.lists.proofs.Counts.{every_map, every-same, every-both, every-weaker, count-append, count-least, none-count}
use Rattle.figures.specs.Digits.{width}
use Rattle.formats.specs.Tokens.{Place}
use Rattle.formats.specs.Items.{Item, item_number, place, half, number_kind, item_in_range, item_allowed, is_place, is_point, is_space, is_cut, integer_places, start_places, behind_start}
use Rattle.formats.specs.Text.{Context, items_units, digit_after, along, first_of}
use Rattle.formats.specs.Reading.{spaceless, spare_places}
use Rattle.formats.proofs.Each.{by-item}
use Rattle.formats.proofs.ByNumber.{by_number}
use Rattle.tables.specs.Words.{Entry, entries_at, entries_in}
use Rattle.tables.specs.Encode.{entry}
use Rattle.tables.specs.Decode.{half_at, item_at, items_at, items_by_tag}
use Rattle.tables.specs.Rules.{entry_in_range, power_fits, powers_from, all_of}
use Rattle.tables.proofs.Words.{entries-part, entries_at-length}
use Rattle.tables.proofs.BackEntries.{between-facts, items-length}
use Rattle.table_words.specs.Runs.{items_in, CutAt}
use Rattle.fraction_sections.specs.Fraction.{Segment, Behind, shown_tag, shown_words}
use Rattle.section_text.proofs.Lengths.{items-short}
use Rattle.table_words.proofs.Cuts.{entries-joined, items-append}
use Rattle.section_text.proofs.Cuts.{powers-front}
use Rattle.table_words.proofs.PlaceRuns.{start-joins, start-run}
use Rattle.fraction_sections.proofs.Loose.{items-counted}

-- ---- places shown with `#` for `?`
abbrev shown_entry : Entry → Entry
shown_entry e = entry (shown_tag e.tag) e.argument

-- what does not tell `#` from `?` does not tell an entry from the one that is shown
shown-same : {A : Type 0} (f : Entry → A) → ((a : ℕ) → f (entry 5 a) ≡ f (entry 6 a)) → (e : Entry) → f (shown_entry e) ≡ f e
unfolding shown_tag
shown-same f h e =
    by_cases (eqb e.tag 6) (λ t. rw (eqb-true e.tag 6 t) (h e.argument)) (λ t. rw t)

space-tag : (t a : ℕ) → is_space (item_at (entry t a)) ≡ eqb t 6
unfolding item_at
space-tag t a =
    by_number is_space (λ (n : ℕ). eqb n 6) (items_by_tag a) 26 (half (half_at a)) refl (λ n h. sym (ne_eqb n 6 (λ e. omega arith))) t

space-between : (t a : ℕ) → is_space (item_at (entry t a)) ≡ between 6 6 t
space-between t a = space-tag t a ∙ six t
  where
    six : (n : ℕ) → eqb n 6 ≡ between 6 6 n
    six n = same_test (eqb n 6) (between 6 6 n) (λ t. rw (eqb→eq n 6 t) tt) (λ t. true-T (eq-eqb n 6 (omega (arith, between-facts 6 6 n t))))

shown-item : (e : Entry) → item_at (shown_entry e) ≡ spaceless (item_at e)
unfolding spaceless shown_tag item_at
shown-item e =
    by_cases (eqb e.tag 6) (λ t. rw (eqb-true e.tag 6 t))
    (λ t. let other : is_space (item_at e) ≡ false = space-tag e.tag e.argument ∙ t in rw (t, other))

shown-items : (es : List Entry) → items_at (map shown_entry es) ≡ map spaceless (items_at es)
unfolding items_at
shown-items [] = refl
shown-items (e ∷ es) = rw (shown-item e, shown-items es)

shown-powers : (a q : ℕ) (es : List Entry) → powers_from a q (map shown_entry es) ≡ powers_from a q es
unfolding powers_from along all_of digit_after item_at
shown-powers a q [] = refl
shown-powers a q (e ∷ es) =
    rw (shown-same (λ (x : Entry). digit_after a q (item_at x)) (λ n. refl) e, shown-same (power_fits q) (λ n. refl) e, shown-powers a (digit_after a q (item_at e)) es)

shown-integers : (es : List Entry) → integer_places (items_at (map shown_entry es)) ≡ integer_places (items_at es)
unfolding integer_places items_at item_at
shown-integers [] = refl
shown-integers (e ∷ es) =
    rw (shown-same (λ (x : Entry). is_point (item_at x) || is_cut (item_at x)) (λ n. refl) e, shown-same (λ (x : Entry). is_place (item_at x)) (λ n. refl) e, shown-integers es)

shown-counted : (es : List Entry) → count is_place (items_at (map shown_entry es)) ≡ count is_place (items_at es)
unfolding count items_at item_at
shown-counted [] = refl
shown-counted (e ∷ es) = rw (shown-same (λ (x : Entry). is_place (item_at x)) (λ n. refl) e, shown-counted es)

-- the words of up to three places
shown-entries : (ws : List ℕ) → length ws ≤ 6 → entries_in (take (length ws) (shown_words ws)) ≡ map shown_entry (entries_in ws)
unfolding entries_in entries_at shown_words
shown-entries [] h = refl
shown-entries (a ∷ []) h = refl
shown-entries (a ∷ b ∷ []) h = refl
shown-entries (a ∷ b ∷ c ∷ []) h = refl
shown-entries (a ∷ b ∷ c ∷ d ∷ []) h = refl
shown-entries (a ∷ b ∷ c ∷ d ∷ e ∷ []) h = refl
shown-entries (a ∷ b ∷ c ∷ d ∷ e ∷ f ∷ []) h = refl
shown-entries (a ∷ b ∷ c ∷ d ∷ e ∷ f ∷ g ∷ ws) h = absurd (omega arith)

module _ {ws : List ℕ} (g : Segment ws) (h : length ws ≤ 6) where
  abbrev shown : List ℕ
  shown = take (length ws) (shown_words ws)

  made : entries_in shown ≡ map shown_entry (entries_in ws)
  made = shown-entries ws h

  shown-every : (f : Entry → Bool) → ((a : ℕ) → f (entry 5 a) ≡ f (entry 6 a)) → every f (entries_in shown) ≡ every f (entries_in ws)
  shown-every f e = ap (every f) made ∙ every_map f shown_entry (entries_in ws) ∙ every-same _ f (shown-same f e) (entries_in ws)

  pub shown-segment : Segment shown
  unfolding items_at item_at entry_in_range item_allowed
  shown-segment =
      let held = every_map (item_allowed number_kind) item_at in
      let same : integer_places (items_in shown) ≡ integer_places (items_in ws) = ap (λ (es : List Entry). integer_places (items_at es)) made ∙ shown-integers (entries_in ws) in
      record {
        few = rw (length-take (length ws) (shown_words ws)) (omega arith);
        in_range = carry (sym (shown-every entry_in_range (λ a. refl))) g.in_range;
        allowed = carry (sym (held (entries_in shown) ∙ shown-every (λ (x : Entry). item_allowed number_kind (item_at x)) (λ a. refl) ∙ sym (held (entries_in ws)))) g.allowed;
        places = ap (λ (es : List Entry). count is_place (items_at es)) made ∙ shown-counted (entries_in ws) ∙ g.places ∙ sym same;
        most = rw same g.most;
        powers = rw (same, made, shown-powers 0 (first_of (integer_places (items_in ws))) (entries_in ws)) g.powers;
      }

  pub shown-spaceless : items_in shown ≡ map spaceless (items_in ws)
  shown-spaceless = ap items_at made ∙ shown-items (entries_in ws)

-- ---- its spare places
items-front : (m : ℕ) (ws : List ℕ) → m ≤ length ws / 2 → items_in (take (2 * m) ws) ≡ take m (items_in ws)
unfolding entries_in
items-front m ws h =
    let front : List Item = items_at (entries_at m ws) in
    let back : List Item = items_at (entries_at (length ws / 2 - m) (drop (2 * m) ws)) in
    let size : length front ≡ m = items-length (entries_at m ws) ∙ entries_at-length m ws in
    ap items_at (entries-part m ws (omega arith))
    ∙ sym (ap (take m) (ap items_at (entries-joined (length ws / 2) m ws h) ∙ items-append (entries_at m ws) _)
    ∙ ap (λ (k : ℕ). take k (front ++ back)) (sym size) ∙ take-append_seam front back)

pub spare-counted : (ws : List ℕ) (d r shown : ℕ) → shown ≡ min (width d) (length ws / 2)
    → ((f : Item → Bool) → ((t a : ℕ) → f (item_at (entry t a)) ≡ between 6 6 t) → r ≡ count f (items_in (take (2 * (length ws / 2 - shown)) ws)))
    → length ws ≤ 6 → (r ≡ count is_space (spare_places d (items_in ws))) × (r ≤ 3)
unfolding spare_places
spare-counted ws d r shown e c h =
    let spare : ℕ = length ws / 2 - shown in
    let front : items_in (take (2 * spare) ws) ≡ take spare (items_in ws) = items-front spare ws (omega arith) in
    let same : length (items_in ws) - width d ≡ spare = omega (arith, items-counted ws) in
    let is : r ≡ count is_space (take spare (items_in ws)) = c is_space space-between ∙ ap (count is_space) front in
    (rw same is, omega (arith, is, count-least is_space (take spare (items_in ws)), length-take spare (items_in ws)))

-- ---- the places behind a solidus
-- what holds of each place holds of every item of a run
pub places-every : (f : Item → Bool) → ((p : Place) → T (f (place p))) → (is : List Item) → T (every is_place is) → T (every f is)
places-every f h =
    every-weaker is_place f
    (by-item (λ (i : Item). T (is_place i) → T (f i)) (λ u. absurd) (λ u. absurd) (λ u. absurd) (λ p t. h p) absurd absurd absurd absurd
    (λ n. absurd) (λ n. absurd) (λ n. absurd) (λ n. absurd) (λ n. absurd) (λ n. absurd) (λ n. absurd) (λ e n. absurd) (λ h. absurd) (λ m. absurd)
    absurd (λ n. absurd))

pub places-held : (is : List Item) → T (every is_place is) → T (every (item_allowed number_kind) is)
unfolding item_allowed
places-held = places-every (item_allowed number_kind) (λ p. tt)

pub places-counted : (is : List Item) → T (every is_place is) → count is_place is ≡ integer_places is
unfolding count integer_places
places-counted [] t = refl
places-counted (i ∷ is) t =
    let number = eqb-true (item_number i) 3 (T_true (is_place i) (every-head is_place i is t)) in
    rw (number, places-counted is (every-tail is_place i is t))

pub places-length : (is : List Item) → T (every is_place is) → length is ≡ count is_place is
unfolding count
places-length [] t = refl
places-length (i ∷ is) t = rw (T_true (is_place i) (every-head is_place i is t)) (ap suc (places-length is (every-tail is_place i is t)))

-- how long their text can be
pub places-short : (c : Context) (q : ℕ) (is : List Item) → T (every is_place is) → length (items_units c q is) ≤ 82 * length is
unfolding item_allowed item_in_range
places-short c q is t = items-short c number_kind 82 (omega arith) absurd absurd q is (places-every item_in_range (λ p. tt) is t) (places-held is t)

pub spaceless-run : (is : List Item) → T (every is_place is) → T (every is_place (map spaceless is))
unfolding spaceless
spaceless-run is t =
    carry (sym (every_map is_place spaceless is))
    (every-weaker is_place (λ (i : Item). is_place (spaceless i)) (λ i p. by_cases (is_space i) (λ e. rw e tt) (λ e. rw e p)) is t)

-- they are all the places there are
pub all_first : {ws : List ℕ} → Behind ws → count is_place (start_places (items_in ws)) ≡ count is_place (items_in ws)
all_first {ws} b =
    let parts : count is_place (items_in ws) ≡ count is_place (start_places (items_in ws)) + count is_place (behind_start (items_in ws)) =
    sym (ap (count is_place) (start-joins (items_in ws))) ∙ count-append is_place (start_places (items_in ws)) (behind_start (items_in ws)) in
    omega (arith, parts, none-count is_place (behind_start (items_in ws)) b.run)

module _ {ws : List ℕ} {e : ℕ} (b : Behind ws) (x : CutAt ws e (start_places (items_in ws)) (behind_start (items_in ws))) where
  first-places : count is_place (items_in (take e ws)) ≡ count is_place (items_in ws)
  first-places = ap (count is_place) x.before ∙ all_first b

  first_run_lem : T (every is_place (items_in (take e ws)))
  first_run_lem = rw x.before (start-run (items_in ws))

  pub denominator-segment : Segment (take e ws)
  denominator-segment =
      let es = entries_in (take e ws) in
      let fs = entries_in (drop e ws) in
      let counted = places-counted (items_in (take e ws)) first_run_lem in
      record {
        few = rw (length-take e ws) (omega (arith, b.few));
        in_range = and_left (every entry_in_range es) (every entry_in_range fs) (carry (ap (every entry_in_range) x.joins ∙ every-both entry_in_range es fs) b.in_range);
        allowed = places-held (items_in (take e ws)) first_run_lem;
        places = counted;
        most = omega (arith, counted, first-places, b.most);
        powers = rw (← counted, first-places) (powers-front 0 _ es fs (carry (ap (powers_from 0 (first_of (count is_place (items_in ws)))) x.joins) b.powers));
      }

  pub denominator-short : length (take e ws) ≤ 6
  denominator-short =
      let run : length (items_in (take e ws)) ≡ count is_place (items_in (take e ws)) = places-length (items_in (take e ws)) first_run_lem in
      omega (arith, run, first-places, b.most, items-counted (take e ws), length-take-le e ws x.inside, x.even)
