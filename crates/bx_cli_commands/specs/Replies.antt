-- What a reply tells.
use Rattle.std.specs.Prelude.{ℕ, Option, None, Some, Result, Ok, Err}
use Rattle.bx_dd.specs.declared.counts.Counts.{Counts}
use Rattle.bx_cli_commands.specs.declared.command.Reply.{Reply}
use Rattle.bx_cli_commands.specs.declared.command.Reply.TheVariants.{Changed, Copied, Undone, Redone, Refused}
use Rattle.bx_cli_commands.specs.declared.fault.Fault.{Fault}

-- how many changes stand behind the command, or the fault that it was refused for
abbrev pub stands_by : Reply → Result ℕ Fault
stands_by (Changed n) = Ok n
stands_by (Copied n counts) = Ok n
stands_by (Undone left) = Ok left
stands_by (Redone n) = Ok n
stands_by (Refused e) = Err e

-- what dd counted
abbrev pub counted_by : Reply → Option Counts
counted_by (Changed n) = None
counted_by (Copied n counts) = Some counts
counted_by (Undone left) = None
counted_by (Redone n) = None
counted_by (Refused e) = None
