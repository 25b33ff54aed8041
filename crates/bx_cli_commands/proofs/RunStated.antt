-- What lemmas on Run say.
use Rattle.std.specs.Prelude.{◌≡◌, ℕ, ◌≤◌}
use Rattle.bx_image.specs.declared.device.Device.{Ghosts as DeviceViews}
use Rattle.bx_journal_store.specs.declared.store.TextStore.{Ghosts as StoreViews}
use Rattle.bx_read.specs.declared.fault.ReadFault.{ReadFault}
use Rattle.bx_patch.specs.declared.read.fault.PatchFault.TheVariants as of_patch
use Rattle.bx_cli_commands.specs.declared.command.Reply.{Reply}
use Rattle.bx_cli_commands.specs.declared.command.Reply.TheVariants.{Refused}
use Rattle.bx_cli_commands.specs.declared.fault.Fault.TheVariants.{Read}
use Rattle.bx_journal.specs.SessionView.{SessionView}
use Rattle.bx_cli_commands.specs.Standing.{Standing, CountsBy}

-- nothing is done for this fault of the command's own
abbrev pub RefusesStep : Standing → ReadFault → Reply → Standing → Type 0
RefusesStep before e reply after = (reply ≡ Refused (Read e)) × (after ≡ before)

-- No count of failed calls falls, and the three together rise by at most `calls`
abbrev pub CountsOn : {D T : Type 0} → DeviceViews D → StoreViews T → SessionView D T → SessionView D T → ℕ → Type 0
CountsOn d t old new calls = (failed : ℕ) × (failed ≤ calls) × CountsBy d t old new failed
