use Rattle.bx_run_report.proofs.Wholes.{whole_input}
use Rattle.bx_run_report.proofs.dump.dumped.dump_input.Goals as goal

pub returns-in-Ok-clause-ok : goal.returns-in-Ok-clause-ok
returns-in-Ok-clause-ok g c = whole_input c.args.job.now _ _ _ _ _ c.in-Ok.ensures.ok
