-- What a refused command leaves.
use Rattle.std.specs.Prelude.{◌≢◌}
use Rattle.bx_image.specs.declared.device.Device.{Ghosts as DeviceViews}
use Rattle.bx_journal_store.specs.declared.store.TextStore.{Ghosts as StoreViews}
use Rattle.bx_read.specs.declared.fault.ReadFault.TheVariants as read
use Rattle.bx_dd.specs.declared.fault.DdFault.TheVariants as dd
use Rattle.bx_journal.specs.SessionFault.TheVariants.{Interrupted}
use Rattle.bx_journal.specs.Session.{IsSame}
use Rattle.bx_journal.specs.SessionView.{SessionView}
use Rattle.bx_cli_commands.specs.declared.command.Reply.{Reply}
use Rattle.bx_cli_commands.specs.declared.command.Reply.TheVariants.{Refused}
use Rattle.bx_cli_commands.specs.declared.fault.Fault.TheVariants.{Read, Dd, Session}

-- the command was refused for a fault of its own: of its text, of dd's operands or of dd's input, and not for want of memory
abbrev pub IsOwnRefusal : Reply → Type 0
IsOwnRefusal (Refused (Read e)) = e ≢ read.NoMemory
IsOwnRefusal (Refused (Dd e)) = (e ≢ dd.NoMemory) × (e ≢ dd.SeekWithoutOutput)
IsOwnRefusal p = ⊥

-- the command was refused, and no device stopped it in the middle of writing
abbrev pub IsWholeRefusal : Reply → Type 0
IsWholeRefusal (Refused e) = e ≢ Session Interrupted
IsWholeRefusal p = ⊥

-- image, journal and count are as they were, where the two devices are faithful
abbrev pub KeepsImageAndJournal : {D T : Type 0} → DeviceViews D → StoreViews T → SessionView D T → SessionView D T → Type 0
KeepsImageAndJournal d t old new = d.faithful old.image → t.faithful old.journal → IsSame d.image t.text old new
