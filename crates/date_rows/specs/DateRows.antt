-- The items of a date-time section: what is kept of them from one to the next.
-- Assumes nothing.
use Rattle.std.specs.Prelude.{ℕ, ◌-◌, ◌≡◌, Bool, true, false, cond, not, ◌&&◌, ◌||◌, List, Option, None, Some, MatchOption}
use Rattle.std.specs.Option.{is_some}
use Rattle.values.specs.Ranges.{between}
use Rattle.formats.specs.Items.{date_kind, item_allowed, is_fill, is_part, is_elapsed, is_half, run_of}
use Rattle.formats.specs.Where.{implies}
use Rattle.formats.specs.WellFormed.{is_seconds}
use Rattle.tables.specs.Words.{Entry}
use Rattle.tables.specs.Encode.{has_half}
use Rattle.tables.specs.Decode.{item_at, items_at}
use Rattle.tables.specs.Rules.{entry_in_range}
use Rattle.tallies.specs.Tally.{items_of}
use Rattle.scans.specs.Scans.{has_tag}
use Rattle.date_rows.specs.Runs.{earlier_after, may_stand, answered, answers}
use Rattle.date_rows.specs.declared.earlier_runs.Earlier.{Earlier}
use Rattle.date_rows.specs.declared.DatedRow.{DatedRow}
use Rattle.date_rows.specs.declared.DateWalk.{DateWalk}

-- what is told of items that keep the rules
pub record DateCounts (es : List Entry) (r : DatedRow) : Type 0 where
  pub fits : items_of 4 es ≡ true
  pub halves : r.halves ≡ has_half (items_at es)

-- what is told of items: nothing where they do not
abbrev pub DateTold : List Entry → Option DatedRow → Type 0
DateTold es r = MatchOption r (items_of 4 es ≡ false) (DateCounts es)

-- ---- one item
-- its own tests, beside what the earlier ones left
unfoldable pub date_sound : DateWalk → Entry → Bool
date_sound s e =
    let i = item_at e in
    item_allowed date_kind i
    && (implies (is_fill i) (not s.filled)
    && (implies (is_elapsed i) (not (is_some s.plain))
    && (implies (is_part i) s.behind_seconds
    && (entry_in_range e && (may_stand s.earlier i && answers s.earlier (run_of i))))))

-- the plain equivalent of an elapsed item has the tag that is 4 below its own
unfoldable pub date_after : DateWalk → Entry → DateWalk
date_after s e =
    let i = item_at e in
    record {
      earlier = earlier_after s.earlier i;
      behind_seconds = is_seconds i;
      filled = is_fill i || s.filled;
      plain = cond (is_elapsed i) (Some (e.tag - 4)) s.plain;
      halves = is_half i || s.halves;
    }

unfoldable pub date_next : DateWalk → Entry → Option DateWalk
date_next s e = cond (date_sound s e) (Some (date_after s e)) None

-- ---- by what the code finds of it
abbrev pub passed : DateWalk → Earlier → Bool → DateWalk
passed s earlier is_seconds = record s { earlier = earlier; behind_seconds = is_seconds }

abbrev pub ran : DateWalk → Bool → Earlier → Bool → Option DateWalk
ran s sound run is_seconds = cond (sound && answered s.earlier run) (Some (passed s run is_seconds)) None

abbrev pub elapsed_taken : DateWalk → ℕ → ℕ → Earlier → Bool → Option DateWalk
elapsed_taken s plain a run is_seconds =
    cond (not (is_some s.plain) && (between 1 9 a && answered s.earlier run))
    (Some (record s { earlier = run; behind_seconds = is_seconds; plain = Some plain })) None

-- ---- the plain equivalent of the elapsed item that was met
abbrev pub plain_told : List Entry → Option ℕ → Bool
plain_told es None = false
plain_told es (Some tag) = has_tag es tag
