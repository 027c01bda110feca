-- `showing::show_value` meets its contract.
-- Assumes nothing.
use Rattle.std.proofs.Common.{◌≡◌, Err, rules}
use Rattle.section_text.proofs.Fitting.{shows-refused}
use Rattle.showing.proofs.Checked.{shows-as}
use Rattle.showing.proofs.show_value.Goals as goal

pub returns-in_err-planned : goal.returns-in_err-planned
returns-in_err-planned c =
    let e : c.from_residual.result ≡ Err _ = search rules in
    rw e (shows-as (c.in_err-planned.ensures _) (shows-refused _ _))
