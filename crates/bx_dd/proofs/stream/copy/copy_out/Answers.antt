use Rattle.bx_dd.proofs.CopyLemmas.{stopped_none}
use Rattle.bx_dd.proofs.stream.copy.copy_out.Goals as goal

pub returns-in-Err-clause-err : goal.returns-in-Err-clause-err
returns-in-Err-clause-err g c = stopped_none c.args.plan.now _ _
