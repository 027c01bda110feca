-- What preparing answers and leaves, from what examining told.
-- Assumes nothing.
use Prim.Native.Nat.{ℕ, ◌+◌, ◌*◌, ◌≤◌, ◌<◌}
use native.Mathlib.Omega.{arith}
use mathlib.Core.Path.{◌≡◌, sym, ◌∙◌, ap}
use mathlib.Core.List.{List}
use lib.ListN.{length, take, length-append, length-map}
use lib.Seq.{sets, length-take-le}
use lib.Dec.{T}
use borrow.Author.Tests.{le-leb, lt-leb}
use Rattle.std.proofs.Common.{Ok, Err}
use Rattle.answers.specs.declared.Refusal.{Refusal}
use Rattle.answers.specs.declared.Refusal.TheVariants as answer
use Rattle.lists.specs.Lists.{every, overlay}
use Rattle.lists.proofs.First.{none-every}
use Rattle.formats.specs.Kinds.{section_of}
use Rattle.formats.specs.Limits.{within_limits}
use Rattle.formats.specs.Accept.{parts_in, sections_in, fine, refused, limit_verdict, verdict, sections, accepted_by, accept}
use Rattle.formats.proofs.First.{verdict-fine, fine-none}
use Rattle.formats.proofs.ItemCount.{section-count}
use Rattle.tables.specs.Encode.{encode}
use Rattle.tables.specs.Calls.{words_of, table_of, prepared_as, prepared, written, table_after}
use Rattle.writing.specs.Put.{Put}
use Rattle.writing.proofs.Laws.{sets-overlay}
use Rattle.marks.specs.declared.Mark.{Mark}
use Rattle.drafting.specs.declared.Draft.{Draft}
use Rattle.examining.specs.declared.Examined.{Examined}
use Rattle.preparing.specs.Table.{counted_by, heads_by, first_has_by, table_by}
use Rattle.examining.specs.Examine.{Sound}
use Rattle.preparing.proofs.Tabling.{heads-size, table_same}

-- ---- a refusal
module _ (code : List ℕ) (a : Refusal) (k : ℕ) (v : verdict code ≡ refused a k) where
  pub refused-prepared : (size : ℕ) → prepared code size ≡ Err (record { refusal = a; place = k })
  unfolding prepared accept accepted_by prepared_as
  refused-prepared size = rw v

  pub refused-table : (old : List ℕ) → table_after code old ≡ old
  unfolding table_after table_of words_of accept accepted_by written overlay
  refused-table old = rw (v, le-leb 0 (length old) (omega arith))

-- ---- the table
all-within : (code : List ℕ) → verdict code ≡ fine → T (every within_limits (parts_in code))
unfolding limit_verdict
all-within code v = none-every within_limits 0 (parts_in code) (fine-none answer.Limit _ (verdict-fine code v).limits-fine)

module _ (code : List ℕ) (v : verdict code ≡ fine) {tokens : List Mark} (r : Examined) (out : List ℕ) (drafts : List Draft) (s : Sound code tokens r out drafts) where
  pub one-least : 1 ≤ r.sections
  unfolding sections_in
  one-least = omega (arith, s.many, section-count code, length-map (parts_in code) section_of)

  abbrev few : List Draft
  few = take r.sections drafts

  abbrev table : List ℕ
  table = table_by few (take r.words out)

  table_is : table ≡ encode (sections_in code)
  unfolding sections_in
  table_is = rw (s.words, s.many) (table_same (parts_in code) drafts (omega (arith, s.many, one-least)) s.each (all-within code v))

  table-size : length table ≡ 1 + 12 * r.sections + r.words
  unfolding table_by
  table-size =
      omega (
        arith,
        length-append (heads_by (counted_by 0 few) (first_has_by few) 0 few) (take r.words out),
        heads-size (counted_by 0 few) (first_has_by few) 0 few,
        length-take-le r.sections drafts s.enough,
        length-take-le r.words out s.room,
      )

  accepted : accept code ≡ sections (sections_in code)
  unfolding accept accepted_by
  accepted = rw v

  module _ (size : ℕ) (e : size ≡ 1 + 12 * r.sections + r.words) where
    long : length (encode (sections_in code)) ≡ size
    long = sym (ap length table_is) ∙ table-size ∙ sym e

    pub room-prepared : (old : ℕ) → old < size → prepared code old ≡ Err (record { refusal = answer.TableRoom; place = 0 })
    unfolding prepared prepared_as
    room-prepared old h = rw (accepted, long, lt-leb size old h)

    pub room-table : (old : List ℕ) → length old < size → table_after code old ≡ old
    unfolding table_after table_of words_of written
    room-table old h = rw (accepted, long, lt-leb size (length old) h)

    pub done-prepared : (old : ℕ) → size ≤ old → prepared code old ≡ Ok size
    unfolding prepared prepared_as
    done-prepared old h = rw (accepted, long, le-leb size old h)

    pub done-table : (old new words : List ℕ) (k : ℕ) → size ≤ length old → words ≡ take r.words out
        → Put old 0 (table_by few words) k new → new ≡ table_after code old
    unfolding table_after table_of words_of written
    done-table old new words k h e put =
        let fits : length (encode (sections_in code)) ≤ length old = omega (arith, long) in
        let after : table_after code old ≡ overlay (encode (sections_in code)) old = rw (accepted, long, le-leb size (length old) h) in
        let set : sets old 0 table ≡ overlay (encode (sections_in code)) old = rw table_is (sets-overlay old (encode (sections_in code)) fits) in
        put.room ∙ rw e set ∙ sym after
