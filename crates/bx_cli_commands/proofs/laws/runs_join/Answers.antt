use Rattle.bx_cli_commands.proofs.Runs.{runs_join, stack_runs_join}
use Rattle.bx_cli_commands.proofs.laws.runs_join.Goals as goal

pub returns-clause-stacks : goal.returns-clause-stacks
returns-clause-stacks g c = stack_runs_join g.R.Read.remaining

pub returns-clause-standings : goal.returns-clause-standings
returns-clause-standings g c = runs_join g.R.Read.remaining
