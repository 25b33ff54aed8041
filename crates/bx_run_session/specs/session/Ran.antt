-- What a task makes of three devices, whether it is begun or not.
use Rattle.std.specs.Prelude.{◌≡◌, ℕ, Option, None, Some, IfSome, List}
use Rattle.bx_image.specs.declared.device.Device.{Ghosts as DeviceViews}
use Rattle.bx_journal_store.specs.declared.store.TextStore.{Ghosts as StoreViews}
use Rattle.bx_journal_format.specs.Shown.{shown}
use Rattle.bx_journal_format.specs.Text.{IsAccepted}
use Rattle.bx_journal.specs.Devices.{Devices}
use Rattle.bx_journal.specs.RecoveryOutcome.{RecoveryOutcome}
use Rattle.bx_journal.specs.Images.{Images}
use Rattle.bx_cli_commands.specs.Refusal.{IsWholeRefusal}
use Rattle.bx_cli_commands.specs.Replies.{stands_by}
use Rattle.bx_cli_commands.specs.Run.{Unfailed}
use Rattle.bx_cli_commands.specs.declared.command.Reply.TheVariants.{Refused}
use Rattle.bx_cli_commands.specs.declared.fault.Fault.TheVariants.{OpenFailed}
use Rattle.bx_world.specs.declared.files.unopened.OpenError.{OpenError}
use Rattle.bx_run_session.specs.declared.session.guarded.Ended.{Ended}
use Rattle.bx_run_session.specs.declared.session.looked.Looked.{Looked}
use Rattle.bx_run_session.specs.declared.session.looked.Looked.TheVariants.{Another, Goes}
use Rattle.bx_run_session.specs.declared.session.task.Task.{Task}
use Rattle.bx_run_session.specs.session.Contents.{AreFaithful, Does, DoesFound, FoundIn, Holds, Spared, SparesDisk, StepsRead, Survives, SurvivesFound, TellsUnfinished, held_by}
use Rattle.bx_run_session.specs.session.Guarded.{LookAt, another}

-- What a task on three faithful devices makes of them: what `open_and_run` promises, where it is begun, and one that isn't leaves them
pub record RunsTask {D T R : Type 0} (d : DeviceViews D) (t : StoreViews T) (remaining : R → Option (List ℕ)) (old : Devices D T) (task : Task R)
    (ended : Ended D T) : Type 0 where
  pub accepted : AreFaithful d t old → IfSome ended.how (λ _. IsAccepted (shown (t.text old.journal)))
  pub how_is : AreFaithful d t old → TellsUnfinished (held_by d t old) ended.how (stands_by ended.reply)
  pub does : AreFaithful d t old → ended.unopened ≡ None → (s : Images) → Holds (held_by d t old) s
      → Does remaining s task ended.reply (held_by d t ended.devices)
  pub found : AreFaithful d t old → ended.unopened ≡ None → (s : Images) → FoundIn (held_by d t old) s
      → DoesFound remaining s task ended.how ended.reply (held_by d t ended.devices)
  pub stands : AreFaithful d t old → Unfailed ended.reply
      → IfSome ended.how (λ how. StepsRead remaining task how ended.reply (held_by d t old) (held_by d t ended.devices))
  pub whole : AreFaithful d t old → IsWholeRefusal ended.reply → Spared ended.how (held_by d t old) (held_by d t ended.devices)
  pub survives : AreFaithful d t old → (s : Images) → Holds (held_by d t old) s → (IsWholeRefusal ended.reply → ⊥)
      → Survives remaining s task ended.reply (d.survives ended.devices.image) (t.survives ended.devices.journal) (t.survives ended.devices.redo)
  pub endures : AreFaithful d t old → (s : Images) → FoundIn (held_by d t old) s → (IsWholeRefusal ended.reply → ⊥)
      → SurvivesFound remaining s task ended.how ended.reply (d.survives ended.devices.image) (t.survives ended.devices.journal) (t.survives ended.devices.redo)
  pub spares : AreFaithful d t old → IsWholeRefusal ended.reply → SparesDisk d t ended.how old ended.devices

-- a task that wasn't begun: it is refused for that, nothing was recovered, and the three devices are as they were
pub record IsUnbegun {D T : Type 0} (d : DeviceViews D) (t : StoreViews T) (old : Devices D T) (ended : Ended D T) (u : OpenError) : Type 0 where
  pub why : u ≡ another
  pub reply_is : ended.reply ≡ Refused OpenFailed
  pub how_is : ended.how ≡ None
  pub looks : LookAt d t old ended.devices

-- a task isn't begun exactly where the image was found to be another one, and opens nothing then
abbrev pub EndsAs : Looked → Option OpenError → Option RecoveryOutcome → Type 0
EndsAs Another unopened how = (unopened ≡ Some another) × (how ≡ None)
EndsAs (Goes ready) unopened how = unopened ≡ None
