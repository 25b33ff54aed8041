use Rattle.bx_cli_commands.proofs.PassedLemmas.{od_ok, od_err}
use Rattle.bx_cli_commands.proofs.jobs.dump.run_od.Goals as goal

pub returns-clause-ok : goal.returns-clause-ok
returns-clause-ok g c = od_ok c.args.passed c.args.o.now c.od_rest.result _ _ _ _ c.od.result c.od_rest.ensures c.od.ensures.ok

pub returns-clause-err : goal.returns-clause-err
returns-clause-err g c = od_err c.args.passed c.args.o.now c.od_rest.result _ _ _ _ c.od.result c.od_rest.ensures c.od.ensures.err
