-- A loss of power inside a call: what is found of three devices that stop, each behind some calls.
use Rattle.std.specs.Prelude.{◌⊎◌, ℕ, Option, Ok, List, MatchResult, Result}
use Rattle.bx_image.specs.Fuse.{Fused}
use Rattle.bx_image.specs.declared.change.Change.{Change}
use Rattle.bx_image.specs.declared.device.Device.{Ghosts as DeviceViews}
use Rattle.bx_journal_store.specs.declared.store.TextStore.{Ghosts as StoreViews}
use Rattle.bx_journal.specs.Devices.{Devices}
use Rattle.bx_journal.specs.Images.{Images}
use Rattle.bx_journal.specs.Losses.{AllFound, AreLeft, emptied}
use Rattle.bx_journal.specs.Opened.{Opening, OpensDevices}
use Rattle.bx_journal.specs.Power.{Found}
use Rattle.bx_journal.specs.Recovered.{Recovered}
use Rattle.bx_journal.specs.Redo.{recovered_as}
use Rattle.bx_journal.specs.SessionView.{SessionView, devices_of}
use Rattle.bx_read.specs.declared.fault.ReadFault.{ReadFault}
use Rattle.bx_cli_commands.specs.declared.command.Command.{Command}
use Rattle.bx_cli_commands.specs.declared.command.Reply.{Reply}
use Rattle.bx_cli_commands.specs.declared.command.Kept.{Kept}
use Rattle.bx_cli_commands.specs.Growth.{KeptStep}
use Rattle.bx_cli_commands.specs.Obeys.{Obeys}
use Rattle.bx_cli_commands.specs.Power.{FindsPart, RunFinds, images_of}
use Rattle.bx_cli_commands.specs.Refusal.{IsWholeRefusal}
use Rattle.bx_cli_commands.specs.Run.{CommandStep, ReadStep}
use Rattle.bx_cli_commands.specs.Standing.{Standing}

-- the three devices below their fuses
abbrev pub unfused : {D T : Type 0} → Devices (Fused D) (Fused T) → Devices D T
unfused x = record { image = x.image.within; journal = x.journal.within; redo = x.redo.within }

-- Of three devices.
module _ {D T : Type 0} (d : DeviceViews D) (t : StoreViews T) where
  -- they are faithful, and opening finds the images in them, whatever a loss of power leaves of them too
  pub record AreOnDisk (x : Devices D T) (s : Images) : Type 0 where
    pub image : d.faithful x.image
    pub journal : t.faithful x.journal
    pub redo : t.faithful x.redo
    pub found : Found (t.text x.journal) (d.image x.image) (t.text x.redo) s
    pub all : AllFound d t x s

  -- whatever is found of them after a loss of power, opening finds the images after all commands that were answered, or a part of the one
  -- that was stopped
  abbrev pub AllFoundInPart : {R A : Type 0} → (R → Option (List ℕ)) → Devices D T → Images → List (Command R A) → List Reply → Type 0
  AllFoundInPart remaining x start list replies = (y text redo : List ℕ) → d.survives x.image y → t.survives x.journal text → t.survives x.redo redo
      → (found : Images) × FindsPart remaining start list replies found × Found text y redo found

  -- Three devices, each behind fuses: they pass calls that read and calls that write, as many as they will, and fail those that follow. They
  -- are opened, and a list of commands is run. What is then found of the devices below the fuses, on which nothing was done since, is what
  -- opening found, or a part of the run.
  abbrev pub LossAtAnyCall : DeviceViews (Fused D) → StoreViews (Fused T) → (R A : Type 0) → (R → Option (List ℕ)) → Type 0
  LossAtAnyCall image text R A remaining = (x : Devices (Fused D) (Fused T)) (opened : Opening (Fused D) (Fused T)) (s : Images)
      → AreOnDisk (unfused x) s → OpensDevices image text x opened
      → MatchResult opened
      (λ o. AllFound d t (unfused (devices_of o.0)) (recovered_as o.1.how s)
      × ((list : List (Command R A)) (replies : List Reply) (new : SessionView (Fused D) (Fused T)) → RunFinds image text remaining o.0 list replies new
      → AllFoundInPart remaining (unfused (devices_of new)) (recovered_as o.1.how s) list replies))
      (λ e. AllFound d t (unfused e.0) s ⊎ AllFound d t (unfused e.0) (emptied s))

  -- whatever is found of them after a loss of power, opening finds the images of an end of the step
  abbrev pub AllFoundBehind : Devices D T → Images → Reply → (Standing → Reply → Standing → Type 0) → Type 0
  AllFoundBehind x start reply Step = (y text redo : List ℕ) → d.survives x.image y → t.survives x.journal text → t.survives x.redo redo
      → (after : Standing) × Step (Standing.Up start) reply after × Found text y redo (images_of after)

  -- Three devices behind such fuses are opened, and one call is made that obeys a step. What is then found of the devices below the fuses is what
  -- opening found, where the call was refused in whole, else an end of the step.
  abbrev pub LossInOneCall : DeviceViews (Fused D) → StoreViews (Fused T) → (Standing → Reply → Standing → Type 0) → Type 0
  LossInOneCall image text Step = (x : Devices (Fused D) (Fused T)) (o : SessionView (Fused D) (Fused T) × Recovered) (s : Images)
      → AreOnDisk (unfused x) s → OpensDevices image text x (Ok o)
      → (reply : Reply) (new : SessionView (Fused D) (Fused T)) → Obeys image text o.0 new reply Step
      → (IsWholeRefusal reply → AllFound d t (unfused (devices_of new)) (recovered_as o.1.how s))
      × ((IsWholeRefusal reply → ⊥) → AllFoundBehind (unfused (devices_of new)) (recovered_as o.1.how s) reply Step)

  -- that of each call that changes an image: of a command, of a change that was read, and of one that isn't to make the image longer
  pub record LossInEachCall (image : DeviceViews (Fused D)) (text : StoreViews (Fused T)) (R A : Type 0) (remaining : R → Option (List ℕ)) : Type 0 where
    pub command : (command : Command R A) → LossInOneCall image text (λ before. CommandStep remaining before command)
    pub change : (read : Result (Change A) ReadFault) → LossInOneCall image text (λ before. ReadStep before (λ c. c) read)
    pub kept : (kept : Kept A) → LossInOneCall image text (λ before. KeptStep before kept)

  -- What a loss leaves of devices has images on the disk again: those that were found whatever is lost, or a part of the run. So the same
  -- holds of the next process, and of a loss inside it.
  abbrev pub LossGoesOn : (R A : Type 0) → (R → Option (List ℕ)) → Type 0
  LossGoesOn R A remaining = (x y : Devices D T) → AreLeft d t x y
      → ((s : Images) → AllFound d t x s → AreOnDisk y s)
      × ((start : Images) (list : List (Command R A)) (replies : List Reply) → AllFoundInPart remaining x start list replies
      → (found : Images) × FindsPart remaining start list replies found × AreOnDisk y found)
