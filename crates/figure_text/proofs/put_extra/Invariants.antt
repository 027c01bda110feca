-- `figure_text::put_extra` meets its contract.
-- Assumes nothing.
use mathlib.Core.Path.{◌≡◌}
use Prim.Native.Nat.{◌+◌, ◌-◌, ◌*◌, ◌≤◌}
use lib.ListN.{length}
use Rattle.formats.specs.Text.{Context, extra_units}
use Rattle.writing.specs.Put.{Rest}
use Rattle.figure_text.specs.Shown.{FiguresAre}
use Rattle.figure_text.proofs.put_extra.Given as goal

abbrev pub invariant-loop-k : goal.invariant-loop-k
invariant-loop-k l =
    (l.k ≤ l.f.used)
    × (l.o + 2 * l.k ≤ l.at + 80)
    × (length l.room ≡ length l.initial.room)
    × ((c : Context) → FiguresAre l.digits l.f c → 15 ≤ l.q → l.q ≤ 40
    → Rest l.initial.room l.at (extra_units c.figures c.grouped l.q (40 - l.q)) l.room l.o (extra_units c.figures c.grouped l.q (l.k - l.q)))
