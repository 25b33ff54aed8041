use Rattle.bx_run_report.proofs.report.kinds.write_log.Goals as goal

pub returns-in-Ok-emit-clause-log : goal.returns-in-Ok-emit-clause-log
returns-in-Ok-emit-clause-log g c old = (_, c.in-Ok.ensures.log old, rw c.as_bytes.ensures.value at c.in-Ok-emit.ensures.ok)
