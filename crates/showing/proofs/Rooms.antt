-- A text that is shown is one that its room takes; so it stands whole in a room that is lent.
-- Assumes nothing.
use Prim.Native.Nat.{ℕ, ◌≤◌}
use native.Mathlib.Omega.{arith}
use mathlib.Core.Path.{◌≡◌, ◌∙◌}
use mathlib.Core.Bool.{not, ◌&&◌}
use mathlib.Core.List.{List}
use lib.ListN.{length}
use lib.Dec.{leb, leb→le}
use Rattle.std.specs.Prelude.{Result}
use Rattle.answers.specs.declared.Refusal.{Refusal}
use Rattle.answers.specs.declared.Shown.{Shown}
use Rattle.values.specs.declared.Number.{Number}
use Rattle.values.specs.declared.Day.{Day}
use Rattle.values.specs.declared.Millisecond.{Millisecond}
use Rattle.values.specs.declared.Value.{Value}
use Rattle.values.specs.declared.Value.TheVariants as value
use Rattle.values.specs.declared.Ask.{Ask}
use Rattle.values.specs.Ranges.{in_range}
use Rattle.lists.proofs.Bools.{true-T, cond_both, cond-case}
use Rattle.figures.specs.General.{general_too_wide}
use Rattle.formats.specs.Items.{Section, kind_of}
use Rattle.formats.specs.Choice.{number_exact, instant_exact, Choice, nothing, chosen, choose, TextChoice, itself, text_in, choose_text}
use Rattle.formats.specs.Reading.{Reading, refused, Look, within, takes_number, takes_instant, shows_general, read_number, read_instant, read_text, read_value, reading}
use Rattle.tables.specs.Decode.{decode}
use Rattle.tables.specs.Rules.{passes}
use Rattle.tables.specs.Calls.{text_as, table_reading, showing, room_after}
use Rattle.writing.proofs.Laws.{sets-overlay}
use Rattle.section_text.specs.Show.{Shows}

module _ (size : ℕ) where
  abbrev Fits : Reading → Type 0
  Fits r = length (text_as r) ≤ size

  refused-fits : (a : Refusal) → Fits (refused a)
  unfolding text_as
  refused-fits a = omega arith

  within-fits : (look : Look) → Fits (within size look)
  unfolding within text_as
  within-fits look = cond-case Fits (leb (length look.text) size) (λ e. leb→le (length look.text) size (true-T e)) (λ e. omega arith)

  number_fits : (ss : List Section) (x : Number) (c : Choice) → Fits (read_number ss x size c)
  unfolding read_number
  number_fits ss x nothing = refused-fits _
  number_fits ss x (chosen i s why) =
      cond_both Fits (not (takes_number (kind_of s))) (refused-fits _)
      (cond_both Fits (shows_general (kind_of s) && general_too_wide (number_exact x).size) (refused-fits _) (within-fits _))

  instant-fits : (d : Day) (m : Millisecond) (c : Choice) → Fits (read_instant d m size c)
  unfolding read_instant
  instant-fits d m nothing = refused-fits _
  instant-fits d m (chosen i s why) = cond_both Fits (not (takes_instant (kind_of s))) (refused-fits _) (within-fits _)

  text-fits : (text : List ℕ) (c : TextChoice) → Fits (read_text text size c)
  unfolding read_text
  text-fits text itself = within-fits _
  text-fits text (text_in i s) = within-fits _

  value-fits : (ss : List Section) (v : Value) (text : List ℕ) → Fits (read_value ss v text size)
  unfolding read_value
  value-fits ss (value.Number x) text = number_fits ss x (choose ss (number_exact x))
  value-fits ss (value.Instant d m) text = instant-fits d m (choose ss (instant_exact d m))
  value-fits ss value.Text text = text-fits text (choose_text ss)

  pub table_fits : (ws : List ℕ) (ask : Ask) (text : List ℕ) → Fits (table_reading ws ask text size)
  unfolding table_reading reading
  table_fits ws ask text =
      cond_both Fits (passes ws) (cond_both Fits (in_range ask text) (value-fits (decode ws) ask.value text) (refused-fits _)) (refused-fits _)

-- what is shown in a room of which all is lent
pub lent-shows : {old out : List ℕ} {r : Result Shown Refusal} (ws : List ℕ) (ask : Ask) (text : List ℕ) → Shows (table_reading ws ask text (length old)) old r out
    → (r ≡ showing ws ask text (length old)) × (out ≡ room_after ws ask text old)
unfolding showing room_after
lent-shows {old} ws ask text y = (y.result, y.room ∙ sets-overlay old _ (table_fits (length old) ws ask text))

-- and what is answered, whatever is lent
pub answer-shows : {old out : List ℕ} {r : Result Shown Refusal} (ws : List ℕ) (ask : Ask) (text : List ℕ) (size : ℕ) → Shows (table_reading ws ask text size) old r out
    → r ≡ showing ws ask text size
unfolding showing
answer-shows ws ask text size y = y.result
