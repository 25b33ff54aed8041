use Rattle.std.proofs.Common.{rules}
use Rattle.bx_cli_commands.proofs.run.change.made_reply.Goals as goal

pub returns-in-Some : goal.returns-in-Some
returns-in-Some c = search rules
