-- A step of answering: what is put into a room of units.
-- Assumes nothing.
use Rattle.std.specs.Prelude.{ℕ, ◌≤◌, ◌≡◌, List}
use Rattle.writing.specs.Put.{Put}
use Rattle.requests.specs.Request.{Request}
use Rattle.responding.specs.declared.Responded.{Responded}
use Rattle.responding.specs.Respond.{lines_of, section_of}

-- a request is answered in a room of units: its lines are put in front, as far as the room reaches
pub record Answers (q : Request) (old : List ℕ) (r : Responded) (out : List ℕ) : Type 0 where
  pub short : r.length ≤ 4236
  pub shown : r.section ≡ section_of q
  pub put : Put old 0 (lines_of q) r.length out
