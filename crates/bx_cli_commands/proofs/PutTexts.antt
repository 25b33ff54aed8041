-- The step by what was read of a dump is the one that puts its text onto the image.
use Rattle.std.proofs.Common.{◌≡◌, ◌⊎◌, inl, inr, ℕ, Bool, true, false, Result, Ok, Err, List}
use Rattle.bx_image.specs.declared.change.Change.{Change}
use Rattle.bx_read.specs.Plain.{plain_answer}
use Rattle.bx_read.specs.declared.fault.ReadFault.{ReadFault}
use Rattle.bx_cli_commands.specs.declared.command.Reply.{Reply}
use Rattle.bx_cli_commands.specs.Command.{plain_change}
use Rattle.bx_cli_commands.specs.Inputs.{AsksByDump, DumpIsPut, PutStep}
use Rattle.bx_cli_commands.specs.Run.{ReadStep}
use Rattle.bx_cli_commands.specs.Standing.{Standing}
use Rattle.bx_cli_commands.proofs.Joined.{dump_step}
use Rattle.bx_cli_commands.proofs.Stands.{read_step}

pub dump_is_put : {A : Type 0} → DumpIsPut A
dump_is_put {A = A} false at text (Ok change) before after reply asks step = dump_step text at (Ok change) before after reply asks.0 tt step
dump_is_put {A = A} false at text (Err fault) before after reply asks step = dump_step text at (Err fault) before after reply tt (inr asks) step
dump_is_put {A = A} true at text (Ok change) before after reply asks step =
    read_step (plain_change {A = A} at) (plain_answer text) (Ok change) before after reply asks.0 tt step
dump_is_put {A = A} true at text (Err fault) before after reply asks step =
    read_step (plain_change {A = A} at) (plain_answer text) (Err fault) before after reply tt (inr asks) step
