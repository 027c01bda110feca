-- `responding::respond` meets its contract.
-- Assumes nothing.
use Rattle.responding.proofs.Answering.{request-answered, malformed-answered}
use Rattle.responding.proofs.respond.Goals as goal

pub returns-in-Ok : goal.returns-in-Ok
returns-in-Ok c =
    request-answered _ c.read_request.ensures _ c.in-Ok.is (rw (c.part_of.ensures.units, c.part_of-in-Ok.ensures.units) at c.respond_to.ensures)

pub returns-in-Err : goal.returns-in-Err
returns-in-Err c = malformed-answered _ c.read_request.ensures _ c.in-Err.is c.respond_refused.ensures
