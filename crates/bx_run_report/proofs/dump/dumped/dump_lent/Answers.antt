use Rattle.bx_run_report.proofs.Wholes.{whole_ok}
use Rattle.bx_run_report.proofs.dump.dumped.dump_lent.Goals as goal

pub returns-clause-ok : goal.returns-clause-ok
returns-clause-ok g c = whole_ok c.args.job.now c.args.passed _ _ _ _ c.run_dump-outcome.result c.requires c.run_dump-outcome.ensures.ok
