-- `responding::respond_refused` meets its contract.
-- Assumes nothing.
use mathlib.Core.Path.{refl}
use Rattle.responding.specs.Respond.{lines_of, section_of}
use Rattle.responding.proofs.respond_refused.Goals as goal

pub returns : goal.returns
unfolding lines_of section_of
returns c = record { short = c.put_lines.ensures.within; shown = refl; put = rw c.numbers_of.ensures at c.put_lines.ensures.put }
