-- `reasons_check::room_why` meets its contract.
-- Assumes nothing.
use native.Mathlib.Omega.{arith}
use mathlib.Core.Path.{sym, ◌∙◌}
use Rattle.requests.proofs.Numerals.{digits-each}
use Rattle.requests.specs.Written.{numeral_up_to}
use Rattle.reasons_check.proofs.Asking.{room-asked, room-malformed}
use Rattle.reasons_check.proofs.room_why.Goals as goal

pub returns-then-not-is_digits : goal.returns-then-not-is_digits
returns-then-not-is_digits c = room-malformed _ _ c.is_digits.ensures c.if-not-is_digits.true

pub number_behind-requires : goal.number_behind-requires
number_behind-requires c = (omega arith, omega arith, digits-each _ (sym c.is_digits.ensures ∙ c.if-not-is_digits.false))

pub returns : goal.returns
unfolding numeral_up_to
returns c = room-asked _ _ c.is_digits.ensures c.if-not-is_digits.false c.number_behind.ensures c.request_why.ensures
