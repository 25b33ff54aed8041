use Rattle.bx_cli_commands.proofs.XxdRows.{text_reads}
use Rattle.bx_cli_commands.proofs.jobs.laws.normal_text_reads_back.Goals as goal

pub returns : goal.returns
returns c = text_reads
