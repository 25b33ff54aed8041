use Rattle.bx_cli_commands.proofs.SessionRuns.{obeys_command}
use Rattle.bx_run_session.proofs.session.task.run_whole.Goals as goal

pub returns : goal.returns
returns g c =
    let behind = c.run_one.new in
    record {
      obeys = obeys_command g.D.Device g.T.TextStore g.R.Read.remaining c.args.session.now behind.session c.args.command behind.command
          c.run_one.result c.run_one.ensures.runs;
    }
