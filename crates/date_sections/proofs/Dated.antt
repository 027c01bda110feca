-- The items of a date-time section: what it holds, how long their text can be, and that its words are ready for a moment.
-- Assumes nothing.
use Prim.Native.Nat.{ℕ, ◌*◌, ◌/◌, ◌≤◌}
use native.Mathlib.Omega.{arith}
use mathlib.Core.Path.{◌≡◌, refl, sym, ap, ◌∙◌}
use mathlib.Core.Bool.{Bool, true, false, cond}
use mathlib.Core.List.{List, ◌∷◌}
use lib.Dec.{T}
use lib.ListN.{length}
use Rattle.lists.specs.Lists.{any}
use Rattle.formats.specs.Items.{Kind, date_kind, item_allowed, Section, kind_of}
use Rattle.formats.specs.Text.{Context}
use Rattle.tables.specs.Words.{Entry, entries_in}
use Rattle.tables.specs.Encode.{entry, entries_of}
use Rattle.tables.specs.Decode.{item_at}
use Rattle.tables.proofs.BackEntries.{span-at, made-entries}
use Rattle.table_words.specs.Sections.{ItemsOf}
use Rattle.date_text.specs.declared.Moment.{Moment}
use Rattle.date_text.specs.Moment.{dated_entry}
use Rattle.section_text.specs.Walk.{EntryFits, ItemPut, TextOf}
use Rattle.section_text.proofs.Lengths.{words-short}
use Rattle.section_text.proofs.Bodies.{Uncut}
use Rattle.date_sections.specs.Dated.{MomentIs, DatedIs}

-- an item that is put where the date is known if the item shows it, is put where it is known if some item does
pub dated-put : {m : Moment} {old out : List ℕ} {at r : ℕ} {dated : Bool} (e : Entry) → (dated_entry e ≡ true → dated ≡ true)
    → ItemPut (DatedIs m (dated_entry e)) e old at r out → ItemPut (DatedIs m dated) e old at r out
dated-put e h p c k q i f = p c k q (i.0, record { clock = i.1.clock; date = λ t. i.1.date (h t) }) f

-- an item among others is dated, and what stands behind one too, where some item among these is
pub dated-first : (e : Entry) (es : List Entry) → dated_entry e ≡ true → any dated_entry (e ∷ es) ≡ true
unfolding any
dated-first e es h = rw h refl

pub dated-behind : (e : Entry) (es : List Entry) → any dated_entry es ≡ true → any dated_entry (e ∷ es) ≡ true
unfolding any
dated-behind e es h = rw h (either (dated_entry e))
  where
    either : (b : Bool) → cond b true true ≡ true
    either true = refl
    either false = refl

-- of the tags from a fill's up to that of `@` a date-time section holds the fill's
pub dated-fill : (k : Kind) (q tag a : ℕ) → k ≡ date_kind → 3 ≤ tag → tag ≤ 10 → EntryFits k q (entry tag a) → tag ≡ 3
unfolding item_at item_allowed
dated-fill k q tag a e least most f =
    span-at (λ (t : ℕ). T (item_allowed date_kind (item_at (entry t a))) → t ≡ 3) 3 8 tag
    ((λ h. refl), (absurd, (absurd, (absurd, (absurd, (absurd, (absurd, (absurd, tt)))))))) least (omega arith) (rw e at f.allowed)

module _ (n : ℕ) (words : List ℕ) (h : 82 ≤ n) where
  -- how long its text can be: it has no General and no `@`
  pub dated-short : {m : Moment} {dated : Bool} {us : List ℕ} → TextOf (DatedIs m dated) (entries_in words) us → length us ≤ n * (length words / 2)
  unfolding item_allowed
  dated-short t =
      rw t.is (words-short t.context t.kind n h (λ g. absurd (rw t.subject.0 at g)) (λ a. absurd (rw t.subject.0 at a)) t.power words t.fit)

pub date-uncut : (k : Kind) → k ≡ date_kind → Uncut k
date-uncut k e = rw e (refl, refl)

module _ {z : Section} {words : List ℕ} (o : ItemsOf z words) where
  -- their entries are those of the section
  pub items-entries : entries_in words ≡ entries_of z.items
  items-entries = sym (ap entries_of o.items ∙ made-entries (entries_in words) o.in_range o.powers)

  -- so a moment that is what a context shows of the section is what it shows of the words
  pub items-moment : {m : Moment} {c : Context} → kind_of z ≡ date_kind → MomentIs m (any dated_entry (entries_of z.items)) c
      → DatedIs m (any dated_entry (entries_in words)) (kind_of z) c
  items-moment e i = (e, rw items-entries i)
