-- `streams::Stream::start` meets its contract.
-- Assumes nothing.
use mathlib.Core.Path.{refl}
use Rattle.streams.specs.Streams.{started}
use Rattle.streams.proofs.Stream.start.Goals as goal

pub returns : goal.returns
unfolding started
returns c = refl
