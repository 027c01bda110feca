-- `figure_text::put_place` meets its contract.
-- Assumes nothing.
use Rattle.formats.specs.Text.{place_units}
use Rattle.writing.proofs.Laws.{put-put}
use Rattle.figure_text.proofs.put_place.Goals as goal

pub returns-clause-put : goal.returns-clause-put
unfolding place_units
returns-clause-put c =
    λ x are. put-put (c.put_before-a.ensures.put x are) (c.put_figure.ensures.put x are)
