use Rattle.bx_cli_commands.proofs.ShownDump.{shown_is_a_dump, shown_is_undone, shown_reverts}
use Rattle.bx_cli_commands.proofs.Unheaded.{shown_unheaded, unfinished_unheaded}
use Rattle.bx_cli_commands.proofs.laws.shown_is_a_dump.Goals as goal

pub returns-clause-read : goal.returns-clause-read
returns-clause-read g c = shown_is_a_dump

pub returns-clause-reverts : goal.returns-clause-reverts
returns-clause-reverts g c = shown_reverts g.row.A.Denot

pub returns-clause-undone : goal.returns-clause-undone
returns-clause-undone g c = shown_is_undone g.row.A.Denot

pub returns-clause-unheaded : goal.returns-clause-unheaded
returns-clause-unheaded g c = shown_unheaded

pub returns-clause-unfinished : goal.returns-clause-unfinished
returns-clause-unfinished g c = unfinished_unheaded
