-- The runs of places at the start and at the end of item words.
-- Assumes nothing.
use Prim.Native.Nat.{ℕ, ◌+◌, ◌-◌, ◌*◌, ◌/◌, ◌≤◌, ◌<◌}
use native.Mathlib.Omega.{arith}
use mathlib.Core.Path.{◌≡◌, refl, ap, ◌∙◌}
use mathlib.Core.Bool.{true, false}
use mathlib.Core.List.{List, [], ◌∷◌, ◌++◌}
use lib.Dec.{T}
use lib.ListN.{length, get_or}
use Rattle.values.specs.Ranges.{between}
use Rattle.lists.specs.Lists.{every}
use Rattle.lists.proofs.Bools.{by_cases, true-T, T_true, every-cons}
use Rattle.formats.specs.Items.{Item, is_place, start_places, behind_start, end_places, before_end}
use Rattle.formats.proofs.Cutting.{end-joins}
use Rattle.tables.specs.Words.{entries_at, entries_in}
use Rattle.tables.specs.Encode.{entry}
use Rattle.tables.specs.Decode.{item_at, items_at}
use Rattle.tables.proofs.Words.{entries_left, entries-front}
use Rattle.tables.proofs.BackEntries.{place-tag}
use Rattle.table_words.specs.Runs.{items_in, CutAt}
use Rattle.table_words.proofs.Cuts.{Finds, cut_at, entries-joined, items-append}

-- ---- at the start
pub start-joins : (is : List Item) → start_places is ++ behind_start is ≡ is
unfolding start_places behind_start
start-joins [] = refl
start-joins (i ∷ is) = by_cases (is_place i) (λ e. rw e (ap (λ (js : List Item). i ∷ js) (start-joins is))) (λ e. rw e)

pub start-run : (is : List Item) → T (every is_place (start_places is))
unfolding start_places every
start-run [] = tt
start-run (i ∷ is) = by_cases (is_place i) (λ e. rw (e, e) (start-run is)) (λ e. rw e tt)

pub finds-run : Finds (between 4 6) start_places behind_start
unfolding behind_start
finds-run = record {
  joins = start-joins;
  none = refl;
  met = λ e is t. rw (place-tag e.tag e.argument, t);
  passed = λ e is t. rw (place-tag e.tag e.argument, t);
}

-- ---- at the end
end-all : (is : List Item) → T (every is_place is) → end_places is ≡ is
unfolding end_places
end-all [] t = refl
end-all (i ∷ is) t = rw (T_true (every is_place (i ∷ is)) t)

end-other : (is : List Item) (i : Item) (js : List Item) → is_place i ≡ false → every is_place (is ++ (i ∷ js)) ≡ false
unfolding every
end-other [] i js e = rw e
end-other (h ∷ is) i js e = rw (end-other is i js e) (by_cases (is_place h) (λ t. rw t) (λ t. rw t))

end-run : (is : List Item) (i : Item) (js : List Item) → is_place i ≡ false → T (every is_place js) → end_places (is ++ (i ∷ js)) ≡ js
unfolding end_places
end-run [] i js e t = rw (end-other [] i js e) (end-all js t)
end-run (h ∷ is) i js e t = rw (end-other (h ∷ is) i js e) (end-run is i js e t)

-- the words walked from the last item down
module _ (words : List ℕ) (k : ℕ) (h : 0 < k) (most : k ≤ length words / 2) where
  -- the item met next
  abbrev pub last_item : Item
  last_item = item_at (entry (get_or words (2 * (k - 1)) 0) (get_or words (2 * (k - 1) + 1) 0))

  pub last-left : items_at (entries_left words (length words / 2) (k - 1)) ≡ last_item ∷ items_at (entries_left words (length words / 2) k)
  unfolding items_at
  last-left =
      let next : k - 1 + 1 ≡ k = omega arith in
      ap items_at (entries-front words (length words / 2) (k - 1) (omega arith)) ∙ rw next

  pub last-parts : items_in words ≡ items_at (entries_at (k - 1) words) ++ (last_item ∷ items_at (entries_left words (length words / 2) k))
  unfolding entries_in
  last-parts =
      ap items_at (entries-joined (length words / 2) (k - 1) words (omega arith))
      ∙ items-append (entries_at (k - 1) words) (entries_left words (length words / 2) (k - 1))
      ∙ ap (λ (js : List Item). items_at (entries_at (k - 1) words) ++ js) last-left

-- a loop from the last item down: those behind are places
pub record Backing (words : List ℕ) (k : ℕ) : Type 0 where
  pub inside : k ≤ length words / 2
  pub run : T (every is_place (items_at (entries_left words (length words / 2) k)))

pub backing-start : (words : List ℕ) → Backing words (length words / 2)
unfolding entries_at items_at every
backing-start words = let none : length words / 2 - length words / 2 ≡ 0 = omega arith in record { inside = omega arith; run = rw none tt }

module _ {words : List ℕ} {k : ℕ} (s : Backing words k) where
  pub backing-step : 0 < k → between 4 6 (get_or words (2 * (k - 1)) 0) ≡ true → Backing words (k - 1)
  backing-step h t = record {
    inside = omega (arith, s.inside);
    run = rw (last-left words k h s.inside) (every-cons is_place _ _ (true-T (place-tag _ _ ∙ t)) s.run);
  }

  pub backing-met : 0 < k → between 4 6 (get_or words (2 * (k - 1)) 0) ≡ false → CutAt words (2 * k) (before_end (items_in words)) (end_places (items_in words))
  unfolding entries_in
  backing-met h t =
      cut_at words (length words / 2) k _ _ refl s.inside (end-joins (items_in words))
      (ap end_places (last-parts words k h s.inside)
      ∙ end-run (items_at (entries_at (k - 1) words)) (last_item words k h s.inside) _ (place-tag _ _ ∙ t) s.run)

  pub backing-end : k ≤ 0 → CutAt words 0 (before_end (items_in words)) (end_places (items_in words))
  unfolding entries_in
  backing-end h =
      let zero : k ≡ 0 = omega arith in
      let less : length words / 2 - 0 ≡ length words / 2 = omega arith in
      let all : T (every is_place (items_in words)) = rw (zero, less) at s.run in
      cut_at words (length words / 2) 0 _ _ refl (omega arith) (end-joins (items_in words)) (end-all (items_in words) all ∙ rw less)
