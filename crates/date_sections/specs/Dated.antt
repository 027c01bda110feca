-- What a date-time section's items are shown from: a moment, and that it is what a context shows.
-- Assumes nothing.
use Rattle.std.specs.Prelude.{◌≡◌, Bool, true}
use Rattle.formats.specs.Items.{Kind, date_kind}
use Rattle.formats.specs.Text.{Context}
use Rattle.date_text.specs.declared.Moment.{Moment}
use Rattle.date_text.specs.Moment.{ClockIs, DateIs}

-- a moment is what a context shows: its clock, and its date where that is shown
pub record MomentIs (m : Moment) (dated : Bool) (c : Context) : Type 0 where
  pub clock : ClockIs m c
  pub date : dated ≡ true → DateIs m c

-- the property of a date-time section
abbrev pub DatedIs : Moment → Bool → Kind → Context → Type 0
DatedIs m dated k c = (k ≡ date_kind) × MomentIs m dated c

-- there is a context that the moment is of
pub record DatedKnown (m : Moment) (dated : Bool) : Type 0 where
  pub context : Context
  pub is : MomentIs m dated context
