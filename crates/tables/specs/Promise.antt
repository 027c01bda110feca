-- Demand 3 between definitions (R106, R112): what the table made from a code is to that code.
-- Assumes nothing.
use Rattle.std.specs.Prelude.{ℕ, ◌≤◌, ◌≡◌, true, List, length, T}
use Rattle.values.specs.declared.Ask.{Ask}
use Rattle.lists.specs.Lists.{every}
use Rattle.formats.specs.Items.{Section, is_unit}
use Rattle.formats.specs.WellFormed.{well_formed}
use Rattle.formats.specs.Reading.{code_reading}
use Rattle.tables.specs.Encode.{encode}
use Rattle.tables.specs.Decode.{decode}
use Rattle.tables.specs.Rules.{passes}
use Rattle.tables.specs.Calls.{table_of, table_reading}

-- The table of a code that is accepted as these sections passes the rules and stands for those sections; so for every value, in
-- range or not, and every length of room, it gives the same answer, text, colour and section as the code itself, and is exact where the
-- code is. It has at most 557 words, each of 16 bits.
pub record TableOfCode (code : List ℕ) (ss : List Section) : Type 0 where
  pub passed : passes (table_of code) ≡ true
  pub decoded : decode (table_of code) ≡ ss
  pub same_reading : (ask : Ask) (text : List ℕ) (room : ℕ) → table_reading (table_of code) ask text room ≡ code_reading code ask text room
  pub most_words : length (table_of code) ≤ 557
  pub in_words : T (every is_unit (table_of code))

-- Words that pass are the table of the sections that they stand for, which are well formed.
pub record TableThatPasses (ws : List ℕ) : Type 0 where
  pub formed : T (well_formed (decode ws))
  pub encoded : encode (decode ws) ≡ ws
