-- Item words cut at the first E or solidus, and the items among them with a tag in a range.
-- Assumes nothing.
use Prim.Native.Nat.{ℕ, ◌+◌, ◌-◌, ◌*◌, ◌/◌, ◌≤◌, ◌<◌}
use native.Mathlib.Nat.{zero-add, sub-zero}
use native.Mathlib.Omega.{arith}
use mathlib.Core.Path.{◌≡◌, refl, sym, ap, ◌∙◌}
use mathlib.Core.Bool.{Bool, not}
use mathlib.Core.List.{List}
use lib.ListN.{length, get_or}
use mir.Val.{bool_byte}
use borrow.Author.Tests.{le-leb, lt-leb}
use Rattle.values.specs.Ranges.{between}
use Rattle.lists.specs.Lists.{count}
use Rattle.lists.proofs.Bools.{by_cases, not_so, true-T, not-false}
use Rattle.formats.specs.Items.{Item, half, is_cut, before_cut, from_cut}
use Rattle.formats.proofs.ByNumber.{by_number}
use Rattle.formats.proofs.Cutting.{cut-joins}
use Rattle.tables.specs.Words.{Entry, entries_at, entries_in}
use Rattle.tables.specs.Encode.{entry}
use Rattle.tables.specs.Decode.{half_at, item_at, items_at, items_by_tag}
use Rattle.tables.proofs.Words.{entries_left, entries-front}
use Rattle.table_words.proofs.Cuts.{Finds}
use Rattle.table_words.specs.Runs.{items_in}

cut-tag : (t a : ℕ) → is_cut (item_at (entry t a)) ≡ between 22 24 t
unfolding item_at
cut-tag t a =
    by_number is_cut (λ (n : ℕ). between 22 24 n) (items_by_tag a) 26 (half (half_at a)) refl
    (λ n h. sym (simp (le-leb 22 n (omega arith), lt-leb n 24 (omega arith)))) t

pub finds-cut : Finds (λ (t : ℕ). not (between 22 24 t)) before_cut from_cut
unfolding from_cut
finds-cut = record {
  joins = cut-joins;
  none = refl;
  met = λ e is t. rw (cut-tag e.tag e.argument, not-false (between 22 24 e.tag) t);
  passed = λ e is t. rw (cut-tag e.tag e.argument, not_so (between 22 24 e.tag) (true-T t));
}

-- after k of n entries: so many with a tag in between, and those that are left
pub record Counting (low high : ℕ) (words : List ℕ) (n k met : ℕ) : Type 0 where
  pub items : n ≡ length words / 2
  pub inside : k ≤ n
  pub few : met ≤ k
  pub all : (f : Item → Bool) → ((t a : ℕ) → f (item_at (entry t a)) ≡ between low high t) → met + count f (items_at (entries_left words n k)) ≡ count f (items_in words)

pub counting-start : (low high : ℕ) (words : List ℕ) (n : ℕ) → n ≡ length words / 2 → Counting low high words n 0 0
unfolding entries_in
counting-start low high words n e = record { items = e; inside = omega arith; few = omega arith; all = λ f h. rw (sub-zero n, ← e) (zero-add _) }

module _ {low high : ℕ} {words : List ℕ} {n k met : ℕ} (s : Counting low high words n k met) where
  pub counting-one : bool_byte (between low high (get_or words (2 * k) 0)) ≤ 1
  counting-one = by_cases (between low high (get_or words (2 * k) 0)) (λ t. rw t (omega arith)) (λ t. rw t (omega arith))

  counting-front : k < n → (f : Item → Bool) → ((t a : ℕ) → f (item_at (entry t a)) ≡ between low high t) → count f (items_at (entries_left words n k))
      ≡ bool_byte (between low high (get_or words (2 * k) 0)) + count f (items_at (entries_left words n (k + 1)))
  unfolding count items_at
  counting-front h f g =
      ap (λ (es : List Entry). count f (items_at es)) (entries-front words n k h)
      ∙ rw (g (get_or words (2 * k) 0) (get_or words (2 * k + 1) 0))
      (by_cases (between low high (get_or words (2 * k) 0)) (λ t. rw t (omega arith)) (λ t. rw t (omega arith)))

  pub counting-step : k < n → Counting low high words n (k + 1) (met + bool_byte (between low high (get_or words (2 * k) 0)))
  counting-step h =
      record {
        items = s.items;
        inside = omega arith;
        few = omega (arith, s.few, counting-one);
        all = λ f g. omega (arith, s.all f g, counting-front h f g);
      }

  pub counting-end : n ≤ k → (f : Item → Bool) → ((t a : ℕ) → f (item_at (entry t a)) ≡ between low high t) → met ≡ count f (items_in words)
  unfolding count items_at entries_at
  counting-end h f g =
      let none : n - k ≡ 0 = omega arith in
      omega (arith, rw none at (s.all f g))
