use Rattle.bx_cli_commands.proofs.XxdReverts.{text_reverts}
use Rattle.bx_cli_commands.proofs.jobs.laws.normal_text_reverts.Goals as goal

pub returns : goal.returns
returns g c = text_reverts _
