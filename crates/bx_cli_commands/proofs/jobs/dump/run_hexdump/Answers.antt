use Rattle.bx_cli_commands.proofs.PassedLemmas.{hexdump_ok, hexdump_err}
use Rattle.bx_cli_commands.proofs.jobs.dump.run_hexdump.Goals as goal

pub returns-clause-ok : goal.returns-clause-ok
returns-clause-ok g c = hexdump_ok c.args.passed c.args.o.now c.hexdump_rest.result _ _ _ _ c.hexdump_c.result c.hexdump_rest.ensures c.hexdump_c.ensures.ok

pub returns-clause-err : goal.returns-clause-err
returns-clause-err g c = hexdump_err c.args.passed c.args.o.now c.hexdump_rest.result _ _ _ _ c.hexdump_c.result c.hexdump_rest.ensures c.hexdump_c.ensures.err
