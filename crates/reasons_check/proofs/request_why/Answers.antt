-- `reasons_check::request_why` meets its contract.
-- Assumes nothing.
use Rattle.reasons_check.proofs.Asking.{request-asked, request-malformed}
use Rattle.reasons_check.proofs.request_why.Goals as goal

pub returns-in-Ok : goal.returns-in-Ok
returns-in-Ok c =
    request-asked _ c.read_request.ensures _ _ c.in-Ok.is (rw (c.part_of.ensures.units, c.part_of-in-Ok.ensures.units) at c.code_why.ensures)

pub returns-in-Err : goal.returns-in-Err
returns-in-Err c = request-malformed _ c.read_request.ensures _ _ c.in-Err.is
