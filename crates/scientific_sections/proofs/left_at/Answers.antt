-- `scientific_sections::left_at` meets its contract.
-- Assumes nothing.
use Rattle.scientific_sections.proofs.Exponents.{left-units, left-tens, left-rest}
use Rattle.scientific_sections.proofs.left_at.Goals as goal

pub returns-in-16 : goal.returns-in-16
returns-in-16 c = left-units _ _ c.requires c.in-16.is

pub returns-in-17 : goal.returns-in-17
returns-in-17 c = left-tens _ _ c.requires c.in-17.is

pub returns-in_default : goal.returns-in_default
returns-in_default c = left-rest _ _ c.requires c.in_default.in_default-own.rest
