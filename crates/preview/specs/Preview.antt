-- Demand 3 for callers (R114): what previewing returns and leaves is read off the code itself.
-- Assumes nothing.
use Rattle.std.specs.Prelude.{ℕ, List, Result, Ok, Err}
use Rattle.answers.specs.declared.Refusal.{Refusal}
use Rattle.answers.specs.declared.Refused.{Refused}
use Rattle.answers.specs.declared.Shown.{Shown}
use Rattle.values.specs.declared.Ask.{Ask}
use Rattle.formats.specs.Accept.{Accepted, sections, refusal, accept}
use Rattle.formats.specs.Reading.{code_reading}
use Rattle.tables.specs.Calls.{shown_as, text_as}

-- a code's refusal has a place; a reading has none
unfoldable pub place_of : Accepted → ℕ
place_of (refusal a k) = k
place_of (sections ss) = 0

-- what is shown, or the refusal with this place
abbrev pub refused_at : ℕ → Result Shown Refusal → Result Shown Refused
refused_at k (Ok s) = Ok s
refused_at k (Err a) = Err (record { refusal = a; place = k })

-- what showing returns of the reading off the code, with the place of a refused code
unfoldable pub previewed : List ℕ → Ask → List ℕ → ℕ → Result Shown Refused
previewed code ask text room = refused_at (place_of (accept code)) (shown_as (code_reading code ask text room))

-- the text that the room then begins with; of a refusal no unit
unfoldable pub preview_text : List ℕ → Ask → List ℕ → ℕ → List ℕ
preview_text code ask text room = text_as (code_reading code ask text room)
