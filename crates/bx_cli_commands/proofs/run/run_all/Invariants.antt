use Rattle.std.proofs.Common.{◌≡◌, ◌≤◌, length, take, drop, vec_capacity, vec_len}
use Rattle.bx_cli_commands.specs.Command.{IsNear}
use Rattle.bx_cli_commands.specs.Obeys.{Obeys}
use Rattle.bx_cli_commands.specs.SessionRun.{SessionStep}
use Rattle.bx_cli_commands.specs.Tells.{Tells}
use Rattle.bx_cli_commands.proofs.RunStated.{CountsOn}
use Rattle.bx_cli_commands.proofs.Runs.{AllAhead}
use Rattle.bx_cli_commands.proofs.SessionRuns.{LeadsTo}
use Rattle.bx_cli_commands.proofs.run.run_all.Given as goal

abbrev pub invariant-loop-command : goal.invariant-loop-command
invariant-loop-command g l = record {
  leads : LeadsTo (SessionStep (Obeys g.D.Device g.T.TextStore) Tells g.R.Read.remaining)
      l.fn.session l.fn.list (take l.command-index l.list) l.replies.items l.session (drop l.command-index l.list);
  counted : CountsOn g.D.Device g.T.TextStore l.fn.session l.session l.command-index;
  ahead : AllAhead IsNear l.command-index l.list;
  replied : vec_len l.replies ≡ l.command-index;
  room : length l.list ≤ vec_capacity l.replies;
}
