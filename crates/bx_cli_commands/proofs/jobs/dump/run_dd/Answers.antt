use Rattle.bx_cli_commands.proofs.PassedLemmas.{copy_ok, copy_err}
use Rattle.bx_cli_commands.proofs.jobs.dump.run_dd.Goals as goal

pub returns-clause-ok : goal.returns-clause-ok
returns-clause-ok g c = copy_ok c.args.passed c.args.plan.now c.plan_rest-rest.result _ _ _ _ c.copied.result c.plan_rest-rest.ensures c.copied.ensures.ok

pub returns-clause-err : goal.returns-clause-err
returns-clause-err g c = copy_err c.args.passed c.args.plan.now c.plan_rest-rest.result _ _ _ _ c.copied.result c.plan_rest-rest.ensures c.copied.ensures.err
