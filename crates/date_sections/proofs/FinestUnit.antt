-- The finest unit that a date-time section's items show, kept by the loop over their words.
-- Assumes nothing.
use Prim.Native.Nat.{ℕ, ◌%◌, ◌≤◌, ◌<◌, min}
use native.Mathlib.Omega.{arith}
use mathlib.Core.Path.{◌≡◌, refl, sym, ap, ◌∙◌}
use mathlib.Core.List.{List, [], ◌∷◌, ◌++◌}
use lib.ListN.{length, get_or}
use lib.Dec.{T, leb, eqb}
use borrow.Author.Tests.{leb-true, leb-false}
use Rattle.lists.proofs.Bools.{by_cases}
use Rattle.formats.specs.Items.{Item, Section, Kind, date_kind, kind_of, item_allowed}
use Rattle.formats.specs.Reading.{item_span, finest_span, day_span, instant_exactly}
use Rattle.tables.specs.Words.{Entry, entries_in}
use Rattle.tables.specs.Encode.{entry}
use Rattle.tables.specs.Decode.{item_at, items_at}
use Rattle.tables.specs.Rules.{entry_in_range}
use Rattle.tables.proofs.BackEntries.{span-at, tag-known}
use Rattle.values.specs.declared.Millisecond.{Millisecond}
use Rattle.table_words.specs.Sections.{ItemsOf}
use Rattle.table_words.specs.Runs.{items_in}
use Rattle.date_text.proofs.Spans.{with-day}
use Rattle.section_text.specs.Walk.{EntryFits}
use Rattle.section_text.proofs.Walking.{entries-pair, entries-none}

-- a date-time section holds no tag behind that of a half-day mark
pub dated-tag : (k : Kind) (q tag a : ℕ) → k ≡ date_kind → T (entry_in_range (entry tag a)) → EntryFits k q (entry tag a) → tag < 22
unfolding item_at item_allowed
dated-tag k q tag a e t f =
    by_cases (leb 22 tag)
    (λ h.
    absurd (span-at (λ (n : ℕ). T (item_allowed date_kind (item_at (entry n a))) → ⊥) 22 4 tag (absurd, (absurd, (absurd, (absurd, tt))))
    (leb-true 22 tag h) (omega (arith, tag-known (entry tag a) t)) (rw e at f.allowed)))
    (λ h. leb-false 22 tag h)

-- the items of the first ten tags show nothing finer than the day
pub loose-day : (tag a f : ℕ) → T (entry_in_range (entry tag a)) → tag ≤ 10 → f ≤ day_span → f ≡ min f (item_span (item_at (entry tag a)))
unfolding item_span item_at
loose-day tag a f t h m =
    with-day f m
    ∙ ap (min f)
    (sym
    (span-at (λ (n : ℕ). item_span (item_at (entry n a)) ≡ day_span) 1 10 tag
    (refl, (refl, (refl, (refl, (refl, (refl, (refl, (refl, (refl, (refl, tt)))))))))) (tag-known (entry tag a) t).0 (omega arith)))

-- where words are a date-time section's, the section is exact
pub dated-exactly : {s : Section} {words : List ℕ} (m : Millisecond) → kind_of s ≡ date_kind → ItemsOf s words
    → eqb (m.0 % finest_span (items_in words)) 0 ≡ instant_exactly s m
unfolding instant_exactly
dated-exactly m k o = rw (k, o.items)

-- f is the finest unit shown before these words: with theirs it is the finest of all
pub record Finest (words rest : List ℕ) (f : ℕ) : Type 0 where
  pub most : f ≤ day_span
  pub all : finest_span (items_in words) ≡ min f (finest_span (items_in rest))

coarsest : (is : List Item) → finest_span is ≡ min day_span (finest_span is)
unfolding finest_span
coarsest [] = refl
coarsest (i ∷ is) = omega (arith, coarsest is)

pub finest-start : (words rest : List ℕ) (f : ℕ) → rest ≡ words → f ≡ day_span → Finest words rest f
finest-start words rest f e g = rw (e, g) (record { most = omega arith; all = coarsest _ })

front : (f : ℕ) (e : Entry) (es : List Entry)
    → min f (finest_span (items_at (e ∷ es))) ≡ min (min f (item_span (item_at e))) (finest_span (items_at es))
unfolding finest_span items_at
front f e es = omega arith

module _ {words rest : List ℕ} {f : ℕ} (inv : Finest words rest f) where
  pub finest-step : {g : ℕ} (pair behind : List ℕ) → rest ≡ pair ++ behind → length pair ≡ 2
      → g ≡ min f (item_span (item_at (entry (get_or pair 0 0) (get_or pair 1 0)))) → Finest words behind g
  finest-step {g} pair behind e n h = record {
    most = omega (arith, inv.most);
    all = inv.all ∙ ap (λ (es : List Entry). min f (finest_span (items_at es))) (ap entries_in e ∙ entries-pair pair behind n) ∙ front f _ _ ∙ ap (λ (x : ℕ). min x (finest_span (items_in behind))) (sym h);
  }

  pub finest-end : length rest < 2 → f ≡ finest_span (items_in words)
  unfolding finest_span items_at
  finest-end h = with-day f inv.most ∙ sym (rw (entries-none rest h) at inv.all)
