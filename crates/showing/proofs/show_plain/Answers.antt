-- `showing::show_plain` meets its contract.
-- Assumes nothing.
use Rattle.std.proofs.Common.{true, refl}
use Rattle.formats.specs.Reading.{look_of}
use Rattle.section_text.proofs.Fitting.{shows-none, shows-within, shows-put}
use Rattle.showing.proofs.show_plain.Goals as goal

pub returns-then-size-text : goal.returns-then-size-text
returns-then-size-text c = shows-none _ (look_of c.args.text.now 0 4 true) _ c.if-size-text.true

pub returns : goal.returns
returns c = shows-within _ (look_of c.args.text.now 0 4 true) c.if-size-text.false (shows-put c.put_units-end.ensures refl refl refl)
