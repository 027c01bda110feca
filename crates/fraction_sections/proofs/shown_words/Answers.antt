-- `fraction_sections::shown_words` meets its contract.
-- Assumes nothing.
use Rattle.fraction_sections.specs.Fraction.{shown_words}
use Rattle.fraction_sections.proofs.shown_words.Goals as goal

pub returns : goal.returns
unfolding shown_words
returns c =
    rw (c.shown_tag.ensures, c.word_at.ensures, c.word_at-2.ensures, c.shown_tag-2.ensures, c.word_at-3.ensures, c.word_at-4.ensures, c.shown_tag-3.ensures, c.word_at-5.ensures, c.word_at-6.ensures)
