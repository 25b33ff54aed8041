-- What a task makes of a session: a command, or a change that was read before.
use Rattle.std.specs.Prelude.{ℕ, Option, Result, Ok, Err, List}
use Rattle.bx_image.specs.declared.change.Change.{Change}
use Rattle.bx_read.specs.declared.fault.ReadFault.{ReadFault}
use Rattle.bx_journal.specs.Images.{Images}
use Rattle.bx_cli_commands.specs.declared.command.Reply.{Reply}
use Rattle.bx_cli_commands.specs.Command.{IsNear}
use Rattle.bx_cli_commands.specs.Growth.{IsPartWithin, KeptStep}
use Rattle.bx_cli_commands.specs.Power.{IsChanged, IsPart}
use Rattle.bx_cli_commands.specs.Run.{CommandStep, ReadStep}
use Rattle.bx_cli_commands.specs.Standing.{Standing}
use Rattle.bx_run_session.specs.declared.session.task.Task.{Task}
use Rattle.bx_run_session.specs.declared.session.task.Task.TheVariants.{Run, Put, Keep}

-- a command's offset or place is at most 2 ^ 62
abbrev pub IsNearTask : {R : Type 0} → Task R → Type 0
IsNearTask (Run command) = IsNear command
IsNearTask (Put read) = Unit {0}
IsNearTask (Keep kept) = Unit {0}

-- One task, where `remaining` is what a reader gives: the command's step, that of a text by what it was read as, or that of a change which isn't to make
-- the image longer
abbrev pub TaskStep : {R : Type 0} → (R → Option (List ℕ)) → Standing → Task R → Reply → Standing → Type 0
TaskStep remaining before (Run command) reply after = CommandStep remaining before command reply after
TaskStep remaining before (Put read) reply after = ReadStep before (λ c. c) read reply after
TaskStep remaining before (Keep kept) reply after = KeptStep before kept reply after

-- the images are as they were, or as the change that was read makes them
abbrev pub IsChangedAsRead : {A : Type 0} → Result (Change A) ReadFault → Images → Images → Type 0
IsChangedAsRead (Ok change) s found = IsChanged change s found
IsChangedAsRead (Err e) s found = ⊥

-- what is found of a task that was stopped: nothing of it, the change that it asks for, or some of the changes that it takes back or makes again
abbrev pub IsPartOfTask : {R : Type 0} → (R → Option (List ℕ)) → Task R → Images → Images → Type 0
IsPartOfTask remaining (Run command) s found = IsPart remaining command s found
IsPartOfTask remaining (Put read) s found = IsChangedAsRead read s found
IsPartOfTask remaining (Keep kept) s found = IsPartWithin kept s found
