-- `requests::written::value_of` meets its contract.
-- Assumes nothing.
use Rattle.requests.specs.Written.{value_of}
use Rattle.requests.proofs.written.value_of.Goals as goal

pub returns-in-Number : goal.returns-in-Number
unfolding value_of
returns-in-Number c = rw c.in-Number.is c.number.ensures

pub returns-in-Instant : goal.returns-in-Instant
unfolding value_of
returns-in-Instant c = rw c.in-Instant.is c.instant.ensures

pub returns-in-Text : goal.returns-in-Text
unfolding value_of
returns-in-Text c = rw c.in-Text.is
