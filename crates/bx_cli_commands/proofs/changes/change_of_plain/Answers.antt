use Rattle.std.proofs.Common.{rules}
use Rattle.bx_cli_commands.proofs.changes.change_of_plain.Goals as goal

pub returns-clause-change : goal.returns-clause-change
returns-clause-change g c = search rules
