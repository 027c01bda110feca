-- What a function leaves behind that writes a piece of a text into a lent room, and what a loop over pieces keeps.
-- Assumes nothing.
use Rattle.std.specs.Prelude.{◌≡◌, List, ℕ, ◌+◌, length}
use Rattle.std.proofs.lemmas.List.Edits.{sets}

-- a piece is put at a place: r is the place behind it, whether or not the room reaches so far,
-- and the room holds the piece from that place on; what would lie past its end is left out
pub record Put (old : List ℕ) (at : ℕ) (piece : List ℕ) (r : ℕ) (out : List ℕ) : Type 0 where
  pub next : r ≡ at + length piece
  pub room : out ≡ sets old at piece

-- while a text is put piece by piece: the rest, put at `at` of the room as it is, leads to what the whole text gives,
-- put at `start` of the room as it was
pub record Rest (old : List ℕ) (start : ℕ) (text : List ℕ) (room : List ℕ) (at : ℕ) (rest : List ℕ) : Type 0 where
  pub ends : at + length rest ≡ start + length text
  pub same : sets room at rest ≡ sets old start text
  pub size : length room ≡ length old
