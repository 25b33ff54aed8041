use Rattle.std.proofs.lemmas.Result.{err_from_is_err_and}
use Rattle.bx_dd.specs.Operands.{operands_fault}
use Rattle.bx_cli_commands.proofs.Copying.{stops_parse, none_of, makes_of, makes_at_once}
use Rattle.bx_cli_commands.proofs.changes.change_of_dd.Goals as goal

pub returns-in-Err : goal.returns-in-Err
returns-in-Err g c = stops_parse _ c.args.operands.now (g.R.Read.remaining c.args.input.now) c.in-Err.fault c.in-Err.ensures.refused c.in-Err.ensures.accepted

pub returns : goal.returns
returns g c =
    makes_of c.args.operands.now (g.R.Read.remaining c.args.input.now) (g.R.Read.remaining c.change_of_plan.new.input) c.in-Ok.plan c.change_of_plan.result
    (none_of (operands_fault c.args.operands.now) c.in-Ok.plan c.in-Ok.ensures.refused) c.in-Ok.ensures.plan c.change_of_plan.ensures.ok c.change_of_plan.ensures.err c.change_of_plan.ensures.within

pub returns-in_err-clone : goal.returns-in_err-clone
returns-in_err-clone g c =
    let p = err_from_is_err_and c.from_residual.result c.from_residual.ensures.1 in
    rw p.1 (makes_at_once g.row.A.Denot c.args.operands.now (g.R.Read.remaining c.args.input.now) p.0 p.2)
