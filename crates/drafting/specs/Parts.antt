-- The tokens that a part stands for.
-- Assumes nothing.
use Rattle.std.specs.Prelude.{List}
use Rattle.formats.specs.Tokens.{Token}
use Rattle.marks.specs.Marks.{tokens_in}
use Rattle.drafting.specs.declared.parts.Part.{Part}

abbrev pub tokens_of : Part → List Token
tokens_of p = tokens_in p.code.now p.marks.now
