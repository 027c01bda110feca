-- The moment that is shown of an instant in a date-time section.
-- Assumes nothing.
use Prim.Native.Nat.{ℕ}
use mathlib.Core.Path.{◌≡◌, ap, ◌∙◌}
use mathlib.Core.Bool.{Bool}
use mathlib.Core.List.{List}
use Rattle.values.specs.declared.Day.{Day}
use Rattle.values.specs.declared.Millisecond.{Millisecond}
use Rattle.lists.specs.Lists.{any}
use Rattle.formats.specs.Items.{Section}
use Rattle.formats.specs.Reading.{instant_context}
use Rattle.tables.specs.Words.{entries_in}
use Rattle.tables.specs.Encode.{has_half, entries_of}
use Rattle.date_text.specs.declared.Moment.{Moment}
use Rattle.date_text.specs.Moment.{dated_entry, moment_of}
use Rattle.date_text.proofs.Moments.{clock-instant, date-instant}
use Rattle.table_words.specs.Sections.{ItemsOf}
use Rattle.date_sections.specs.Dated.{MomentIs, DatedKnown}
use Rattle.date_sections.proofs.Dated.{items-entries}

-- the moment is that of the section's context, its date where an item shows it
module _ {s : Section} {words : List ℕ} (o : ItemsOf s words) {w : Moment} {twelve dated : Bool} (d : Day) (m : Millisecond)
    (et : twelve ≡ has_half s.items) (ed : dated ≡ any dated_entry (entries_in words)) (ew : w ≡ moment_of twelve dated d m) where
  pub instant-moment : MomentIs w (any dated_entry (entries_of s.items)) (instant_context s d m)
  unfolding has_half
  instant-moment = record {
    clock = clock-instant twelve dated s d m w ew et;
    date = λ f. date-instant twelve dated s d m w ew (ed ∙ ap (any dated_entry) (items-entries o) ∙ f);
  }

  pub instant-known : DatedKnown w (any dated_entry (entries_of s.items))
  instant-known = record { context = instant_context s d m; is = instant-moment }
