use Rattle.bx_cli_commands.proofs.PutTexts.{dump_is_put}
use Rattle.bx_cli_commands.proofs.laws.dump_is_put.Goals as goal

pub returns : goal.returns
returns g c = λ plain at text read before after reply asks step. dump_is_put plain at text read before after reply asks step
