-- One item's words settled, and the loop over a section's item words.
-- Assumes nothing.
use Prim.Native.Nat.{ℕ, ◌+◌, ◌-◌, ◌<◌, ◌≤◌}
use native.Mathlib.Omega.{arith}
use mathlib.Core.Path.{◌≡◌, refl, sym, ◌∙◌, ap}
use mathlib.Core.Bool.{Bool, true, false, cond, ◌&&◌, ◌||◌}
use mathlib.Core.List.{List, [], ◌∷◌, ◌++◌, append_assoc}
use lib.ListN.{length, take, drop, get_or, set, length-append, length-drop}
use lib.Seq.{take_all, drop-append-add, get_or-append_seam, get_or-append-add, set-append_seam}
use lib.Dec.{T, leb, eqb}
use borrow.Author.Tests.{eqb-true, lt-leb, ne_eqb}
use Rattle.lists.specs.Lists.{every}
use Rattle.lists.proofs.Bools.{and_parts, by_cases, every-head, every-tail}
use Rattle.formats.specs.Items.{Item, integer_places, places_behind, Run, no_run, is_hour_run, run_of, nearer, first_run, settled_item, settled_from, settled}
use Rattle.formats.specs.Text.{digit_after, along, first_of}
use Rattle.formats.proofs.FormedItems.{settled-kept, places-settled, exponents-settled}
use Rattle.tables.specs.Words.{entries_words}
use Rattle.tables.specs.Encode.{tag_of, entry_of, entries_from, run_entries}
use Rattle.settling.specs.Settle.{is_no_minute, seconds_in, hours_after, settled_at}
use Rattle.settling.proofs.Tags.{tag-tells, seconds-first, tag-settled}

-- ---- the item at a place
module _ (ws : List ℕ) (i : ℕ) (hours : Bool) where
  pub item-early : get_or ws i 0 < 11 → (hours ≡ hours_after (get_or ws i 0) hours) × (ws ≡ settled_at ws i hours)
  item-early h = (rw (lt-leb 11 (get_or ws i 0) h), rw (ne_eqb (get_or ws i 0) 12 (λ e. absurd (omega arith))))

  pub item-run : (minutes : Bool) (tag : ℕ) → (eqb (get_or ws i 0) 12 && leb (get_or ws (i + 1) 0) 2) ≡ true
      → minutes ≡ (hours || seconds_in (take (length ws - (i + 2)) (drop (i + 2) ws))) → tag ≡ cond minutes 15 12
      → (false ≡ hours_after (get_or ws i 0) hours) × (set ws i tag ≡ settled_at ws i hours)
  item-run minutes tag e m t =
      let n : get_or ws i 0 ≡ 12 = eqb-true (get_or ws i 0) 12 (and_parts (eqb (get_or ws i 0) 12) _ e).0 in
      let l = take_all (length ws - (i + 2)) (drop (i + 2) ws) (omega (arith, length-drop (i + 2) ws)) in
      (rw n, rw (e, t, m, l))

  pub item-other : (eqb (get_or ws i 0) 12 && leb (get_or ws (i + 1) 0) 2) ≡ false → ws ≡ settled_at ws i hours
  item-other e = rw e

-- ---- the loop
abbrev words_from : ℕ → ℕ → List Item → List ℕ
words_from anew q is = entries_words (entries_from anew q is) []

-- the digit behind an E
abbrev anew_in : List Item → ℕ
anew_in is = first_of (places_behind is)

-- the words behind those that are settled are those of the items that are left
pub record Going (is : List Item) (room : List ℕ) (hours : Bool) (i : ℕ) : Type 0 where
  pub earlier : Run
  pub done : List ℕ
  pub left : List Item
  pub digit : ℕ
  pub hourly : is_hour_run earlier ≡ hours
  pub size : length done ≡ i
  pub months : T (every is_no_minute left)
  pub rest : room ≡ done ++ words_from (anew_in is) digit left
  pub whole : entries_words (run_entries (settled is)) [] ≡ done ++ words_from (anew_in is) digit (settled_from earlier left)

pub going_start : (is : List Item) (room : List ℕ) → T (every is_no_minute is) → room ≡ entries_words (run_entries is) [] → Going is room false 0
unfolding run_entries settled
going_start is room m e = record {
  earlier = no_run;
  done = [];
  left = is;
  digit = first_of (integer_places is);
  hourly = refl;
  size = refl;
  months = m;
  rest = e;
  whole = rw (places-settled no_run is, exponents-settled no_run is);
}

-- the words of an item behind those that are settled
settled-words : (done ws : List ℕ) (t a : ℕ) (hours : Bool)
    → settled_at (done ++ t ∷ a ∷ ws) (length done) hours ≡ done ++ cond (eqb t 12 && leb a 2) (cond (hours || seconds_in ws) 15 12) t ∷ a ∷ ws
settled-words done ws t a hours =
    rw (get_or-append_seam done t (a ∷ ws) 0, get_or-append-add done (t ∷ a ∷ ws) 1 0, drop-append-add done (t ∷ a ∷ ws) 2)
    (by_cases (eqb t 12 && leb a 2) (λ e. rw e (set-append_seam done t (a ∷ ws) _)) (λ e. rw e))

entry-tag : (q : ℕ) (i : Item) → (entry_of q i).tag ≡ tag_of i
unfolding entry_of
entry-tag q i = refl

-- an item is settled, and those behind it are left
step-cons : (is : List Item) (e : Run) (done : List ℕ) (j : Item) (js : List Item) (q : ℕ) → T (every is_no_minute (j ∷ js))
    → entries_words (run_entries (settled is)) [] ≡ done ++ words_from (anew_in is) q (settled_from e (j ∷ js))
    → Going is (settled_at (done ++ words_from (anew_in is) q (j ∷ js)) (length done) (is_hour_run e))
    (hours_after (get_or (done ++ words_from (anew_in is) q (j ∷ js)) (length done) 0) (is_hour_run e)) (length done + 2)
unfolding entries_words settled_from digit_after along
step-cons is e done j js q m w =
    let l = first_run js in
    let x = entry_of q (settled_item e l j) in
    let anew = anew_in is in
    let r = digit_after anew q j in
    let d : digit_after anew q (settled_item e l j) ≡ r = settled-kept (digit_after anew q) (λ n. refl) e l j in
    let ws = words_from anew r js in
    record {
      earlier = nearer (run_of j) e;
      done = done ++ (x.tag ∷ x.argument ∷ []);
      left = js;
      digit = r;
      hourly = (tag-tells j e).1 ∙ rw (get_or-append_seam done (entry_of q j).tag ((entry_of q j).argument ∷ ws) 0, entry-tag q j);
      size = length-append done (x.tag ∷ x.argument ∷ []);
      months = every-tail is_no_minute j js m;
      rest = settled-words done ws (entry_of q j).tag (entry_of q j).argument (is_hour_run e)
          ∙ rw (seconds-first anew r js, entry-tag q j, tag-settled q e l j (every-head is_no_minute j js m)) (sym (append_assoc done _ ws));
      whole = w ∙ rw d (sym (append_assoc done (x.tag ∷ x.argument ∷ []) _));
    }

pub going_step : {is : List Item} {room : List ℕ} {hours : Bool} {i : ℕ} (out : List ℕ) (r : Bool) {j : ℕ} → j ≡ i + 2 → Going is room hours i → i + 1 < length room
    → r ≡ hours_after (get_or room i 0) hours → out ≡ settled_at room i hours → Going is out r j
unfolding entries_words along
going_step {is} {room} {hours} {i} out r {j} next g h a b = rw next (from g.left g.months g.rest g.whole)
  where
    from : (js : List Item) → T (every is_no_minute js) → room ≡ g.done ++ words_from (anew_in is) g.digit js
        → entries_words (run_entries (settled is)) [] ≡ g.done ++ words_from (anew_in is) g.digit (settled_from g.earlier js) → Going is out r (i + 2)
    from [] m e w = absurd (omega (arith, ap length e, length-append g.done [], g.size))
    from (j ∷ js) m e w = rw (b, a, e, ← g.size, ← g.hourly) (step-cons is g.earlier g.done j js g.digit m w)

-- nothing is left at the end
pub going_end : {is : List Item} {room : List ℕ} {hours : Bool} {i : ℕ} → Going is room hours i → length room ≤ i + 1 → room ≡ entries_words (run_entries (settled is)) []
unfolding entries_words settled_from along
going_end {is} {room} {i = i} g h = from g.left g.rest g.whole
  where
    from : (js : List Item) → room ≡ g.done ++ words_from (anew_in is) g.digit js
        → entries_words (run_entries (settled is)) [] ≡ g.done ++ words_from (anew_in is) g.digit (settled_from g.earlier js) → room ≡ entries_words (run_entries (settled is)) []
    from [] e w = e ∙ sym w
    from (j ∷ js) e w = absurd (omega (arith, ap length e, length-append g.done (words_from (anew_in is) g.digit (j ∷ js)), g.size))
