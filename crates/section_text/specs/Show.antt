-- What a function leaves behind that shows a reading: its result, and the room with its text.
-- Assumes nothing.
use Rattle.std.specs.Prelude.{◌≡◌, Bool, cond, List, [], ◌∷◌, ◌++◌, ℕ, Result, Ok}
use Rattle.std.specs.Borrow.{MutBor}
use Rattle.std.proofs.lemmas.List.Edits.{sets}
use Rattle.answers.specs.declared.Refusal.{Refusal}
use Rattle.answers.specs.declared.Shown.{Shown}
use Rattle.fractions.specs.declared.Mixed.{Mixed}
use Rattle.formats.specs.Items.{Section, before_cut, from_cut}
use Rattle.formats.specs.Text.{Context, section_units}
use Rattle.formats.specs.Reading.{Reading, Look, shown, look_of, within, fraction_units}
use Rattle.tables.specs.Calls.{shown_as, text_as}

-- a minus in front, or none
unfoldable pub sign_text : Bool → List ℕ
sign_text minus = cond minus (45 ∷ []) []

-- 13, or section i shown in a room of this size, with a minus in front or without, exact or not
unfoldable pub section_reading : ℕ → Section → ℕ → Bool → Bool → Context → Reading
section_reading size s i minus exact c = within size (look_of (sign_text minus ++ section_units c s.items) s.colour i exact)

-- the same of a scientific section, whose items before the E show one context, and those from the E on another
unfoldable pub scientific_reading : ℕ → Section → ℕ → Bool → Bool → Context → Context → Reading
scientific_reading size s i minus exact m e =
    within size (look_of (sign_text minus ++ (section_units m (before_cut s.items) ++ section_units e (from_cut s.items))) s.colour i exact)

-- and of a fraction section, which shows this fraction
unfoldable pub fraction_reading : ℕ → Section → ℕ → Bool → Bool → Mixed → Reading
fraction_reading size s i minus exact f = within size (look_of (sign_text minus ++ fraction_units f s.items) s.colour i exact)

-- `old` is what is lent of a room, from its front: what would lie past that is left out
pub record Shows (reading : Reading) (old : List ℕ) (r : Result Shown Refusal) (out : List ℕ) : Type 0 where
  pub result : r ≡ shown_as reading
  pub room : out ≡ sets old 0 (text_as reading)

-- each call puts a look's text into the room lent to it, and tells the look
abbrev pub Writes : (MutBor (List ℕ) → Shown → MutBor (List ℕ) → Type 0) → Look → Type 0
Writes post look = (room : MutBor (List ℕ)) (s : Shown) (left : MutBor (List ℕ)) → post room s left → Shows (shown look) room.now (Ok s) left.now
