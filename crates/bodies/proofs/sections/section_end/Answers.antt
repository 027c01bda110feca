use Rattle.std.proofs.Common.{rules}
use Rattle.bodies.proofs.Endings.{section-found}
use Rattle.bodies.proofs.sections.section_end.Goals as goal

pub returns : goal.returns
returns c = section-found _ _ (search rules)
