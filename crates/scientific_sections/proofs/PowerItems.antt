-- The items of a scientific section from its E on: what they are by their tags, and how long their text can be.
-- Assumes nothing.
use Prim.Native.Nat.{ℕ, ◌*◌, ◌/◌, ◌≤◌, ◌<◌}
use native.Mathlib.Omega.{arith}
use mathlib.Core.Path.{◌≡◌, refl}
use mathlib.Core.Bool.{Bool, true, false, true≢false}
use mathlib.Core.List.{List}
use lib.Dec.{T}
use lib.ListN.{length}
use Rattle.values.specs.Ranges.{between}
use Rattle.formats.specs.Items.{Kind, scientific_kind, item_allowed}
use Rattle.formats.specs.Text.{Context, item_units, exponent_units}
use Rattle.tables.specs.Words.{entries_in}
use Rattle.tables.specs.Encode.{entry}
use Rattle.tables.specs.Decode.{item_at}
use Rattle.tables.specs.Rules.{entry_in_range}
use Rattle.tables.proofs.BackEntries.{span-at, tag-known}
use Rattle.figures.proofs.Past.{Apart}
use Rattle.section_text.specs.Walk.{EntryFits, TextOf}
use Rattle.section_text.proofs.Lengths.{words-short}
use Rattle.scientific_sections.specs.Power.{mark_of_tag, PowerIs}

-- an E by its tag: a scientific section holds no solidus and no fixed number
pub mark-units : (tag a : ℕ) (c : Context) (k : Kind) (q : ℕ) → k ≡ scientific_kind → 22 ≤ tag → T (entry_in_range (entry tag a)) → EntryFits k q (entry tag a)
    → item_units c q (item_at (entry tag a)) ≡ exponent_units (mark_of_tag tag) c.below
unfolding item_units item_at item_allowed mark_of_tag
mark-units tag a c k q e least t f =
    span-at (λ (n : ℕ). T (item_allowed scientific_kind (item_at (entry n a))) → item_units c q (item_at (entry n a)) ≡ exponent_units (mark_of_tag n) c.below) 22 4 tag
    ((λ h. refl), ((λ h. refl), (absurd, (absurd, tt)))) least (omega (arith, tag-known (entry tag a) t)) (rw e at f.allowed)

-- a scientific section holds the fill alone of the items that the arms of the `match` leave
pub power-fill : (k : Kind) (q tag a : ℕ) → k ≡ scientific_kind → T (entry_in_range (entry tag a)) → between 4 6 tag ≡ false → tag < 22
    → Apart tag 1 2 × (¬ (tag ≡ 7)) → EntryFits k q (entry tag a) → tag ≡ 3
unfolding item_at item_allowed
power-fill k q tag a e t b most o f =
    span-at
    (λ (n : ℕ). between 4 6 n ≡ false → Apart n 1 2 × (¬ (n ≡ 7)) → T (item_allowed scientific_kind (item_at (entry n a))) → n ≡ 3)
    1 21 tag (
      (λ b o h. absurd (o.0.0.1 refl)),
      (
        (λ b o h. absurd (o.0.1 refl)),
        (
          (λ b o h. refl),
          (
            place,
            (
              place,
              (
                place,
                (
                  (λ b o h. absurd (o.1 refl)),
                  (
                    other,
                    (other, (other, (other, (other, (other, (other, (other, (other, (other, (other, (other, (other, (other, tt))))))))))))),
                  ),
                ),
              ),
            ),
          ),
        ),
      ),
    )
    (tag-known (entry tag a) t).0 (omega arith) b o (rw e at f.allowed)
  where
    place : {A B : Type 0} {n : ℕ} → true ≡ false → A → B → n ≡ 3
    place b o h = absurd (true≢false b)

    other : {A B : Type 0} {n : ℕ} → A → B → ⊥ → n ≡ 3
    other b o h = absurd h

module _ (n : ℕ) (words : List ℕ) (h : 82 ≤ n) where
  -- how long their text can be: there is no General and no `@` among them
  pub power-short : {size places : ℕ} {below : Bool} {us : List ℕ} → TextOf (PowerIs size below places) (entries_in words) us
      → length us ≤ n * (length words / 2)
  unfolding item_allowed
  power-short t =
      rw t.is (words-short t.context t.kind n h (λ g. absurd (rw t.subject.0 at g)) (λ a. absurd (rw t.subject.0 at a)) t.power words t.fit)
