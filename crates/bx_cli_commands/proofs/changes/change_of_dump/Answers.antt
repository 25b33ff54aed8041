use Rattle.std.proofs.Common.{◌∙◌, ap}
use Rattle.bx_cli_commands.specs.Command.{dump_change}
use Rattle.bx_cli_commands.proofs.changes.change_of_dump.Goals as goal

pub returns-clause-change : goal.returns-clause-change
returns-clause-change g c =
    let read = c.in_ok-runs.ensures.exact in (
      read.0,
      read.1,
      c.change_of_runs.ensures ∙ ap (λ pieces. dump_change {A = g.row.A.Denot} c.args.offset pieces) read.2,
    )
