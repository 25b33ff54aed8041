-- A loss of power inside the dropping of a history: what is found of three devices that stop, each behind some calls.
use Rattle.std.specs.Prelude.{◌≡◌, ◌↔◌, ℕ, Option, List, Result, Ok, IfErr, MatchResult, OnOk}
use Rattle.bx_image.specs.Fuse.{Fused}
use Rattle.bx_image.specs.Power.{Only}
use Rattle.bx_image.specs.declared.change.Change.{Change}
use Rattle.bx_image.specs.declared.device.Device.{Ghosts as DeviceViews}
use Rattle.bx_journal_store.specs.declared.store.TextStore.{Ghosts as StoreViews}
use Rattle.bx_journal.specs.Calls.{AfterFault}
use Rattle.bx_journal.specs.Devices.{Devices}
use Rattle.bx_journal.specs.Forgotten.{AreAlone, BehindInterruption, FadesInOrder, ForgetDevicesFault, ForgetsInPart}
use Rattle.bx_journal.specs.Forgotten.{IsWhole, KeepImage, LoseOrKeep, OfSome, only}
use Rattle.bx_journal.specs.Images.{Images}
use Rattle.bx_journal.specs.Losses.{AllFound, AreLeft}
use Rattle.bx_journal.specs.Machine.{top}
use Rattle.bx_journal.specs.Opened.{OfAll, Opening, OpensDevices}
use Rattle.bx_journal.specs.Power.{Found, FoundBefore}
use Rattle.bx_journal.specs.Recovered.{Recovered}
use Rattle.bx_journal.specs.Redo.{IsClean, recovered_as}
use Rattle.bx_journal.specs.SessionFault.{SessionFault}
use Rattle.bx_journal.specs.SessionView.{SessionView, devices_of}
use Rattle.bx_journal.specs.ThreeDevices.{AreCounted, AreUnfailed}
use Rattle.bx_read.specs.declared.fault.ReadFault.{ReadFault}
use Rattle.bx_cli_commands.specs.declared.command.Command.{Command}
use Rattle.bx_cli_commands.specs.declared.command.Kept.{Kept}
use Rattle.bx_cli_commands.specs.declared.command.Reply.{Reply}
use Rattle.bx_cli_commands.specs.Growth.{KeptStep}
use Rattle.bx_cli_commands.specs.Loss.{AllFoundBehind, AreOnDisk, unfused}
use Rattle.bx_cli_commands.specs.Obeys.{Obeys}
use Rattle.bx_cli_commands.specs.Power.{images_of}
use Rattle.bx_cli_commands.specs.Refusal.{IsWholeRefusal}
use Rattle.bx_cli_commands.specs.Run.{CommandStep, ReadStep}
use Rattle.bx_cli_commands.specs.Standing.{Standing}
use Rattle.bx_run_session.specs.session.Contents.{AreFaithful}

-- unless a call was refused before it wrote anything this holds
abbrev pub UnlessRefused : {V : Type 0} → Result V SessionFault → Type 0 → Type 0
UnlessRefused result holds = MatchResult result (λ _. holds) (λ e. AfterFault e holds (Unit {0}))

-- All that `forget_devices` promises, clause by clause
pub record ForgetsDevices {D T : Type 0} (d : DeviceViews D) (t : StoreViews T) (old new : Devices D T) (result : Result (Unit {0}) SessionFault) : Type 0 where
  pub image : d.faithful old.image → d.image new.image ≡ d.image old.image
  pub alone : OfAll d t old (OnOk result (AreAlone d t (d.image old.image) new))
  pub fault : IfErr result ForgetDevicesFault
  pub left : OfAll d t old (LoseOrKeep t old new result)
  pub finds : OfAll d t old (ForgetsInPart d t old new result)
  pub survives : OfAll d t old (BehindInterruption result (KeepImage d t old new))
  pub found_before : IfErr result (λ e. AfterFault e (Unit {0}) (FoundBefore d t old new))
  pub image_faith : d.faithful new.image ↔ d.faithful old.image
  pub journal_faith : t.faithful new.journal ↔ t.faithful old.journal
  pub redo_faith : t.faithful new.redo ↔ t.faithful old.redo
  pub no_failure : AreUnfailed d t old new result
  pub counts : AreCounted d t old new result

-- Of three devices.
module _ {D T : Type 0} (d : DeviceViews D) (t : StoreViews T) where
  -- Whatever the texts were: nothing new is found where the dropping was refused before it wrote anything; else the image is found as it was, and the journal
  -- too, unless the redo text is found empty; and where the dropping is done, the image is alone on the disk
  pub record KeepsImageAlone (old new : Devices D T) (result : Result (Unit {0}) SessionFault) : Type 0 where
    pub before : IfErr result (λ e. AfterFault e (Unit {0}) (FoundBefore d t old new))
    pub image : UnlessRefused result (Only (d.image old.image) (d.survives new.image))
    pub texts : UnlessRefused result (FadesInOrder (t.text old.journal) (t.text old.redo) (t.survives new.journal) (t.survives new.redo))
    pub done : OnOk result (AreOnDisk d t new (only (d.image old.image)))

  -- whatever is found of them, neither text cut in part, opening finds the images that it found before, these with nothing undone, or the image alone
  abbrev pub AllFoundDropped : Devices D T → Devices D T → Images → Type 0
  AllFoundDropped old new s = (y text redo : List ℕ) → d.survives new.image y → t.survives new.journal text → t.survives new.redo redo
      → IsWhole (t.text old.journal) text → IsWhole (t.text old.redo) redo → OfSome s (only (d.image old.image)) (Found text y redo)

  -- Of images on the disk: where nothing was unfinished, the image alone is the newest of them; where the dropping was refused before it wrote anything, they
  -- are all on the disk still
  pub record DropsImages (old new : Devices D T) (result : Result (Unit {0}) SessionFault) (s : Images) : Type 0 where
    pub found : AllFoundDropped old new s
    pub newest : IsClean (t.text old.journal) → d.image old.image ≡ top s.stack
    pub refused : IfErr result (λ e. AfterFault e (Unit {0}) (AreOnDisk d t new s))

  -- The history of three devices is dropped, each behind fuses: they pass calls that read and calls that write, as many as they will, and fail those that
  -- follow. This is then found below the fuses. What a loss leaves, neither text cut in part, has images on the disk again, for the next process.
  pub record LossInForgetting (image : DeviceViews (Fused D)) (text : StoreViews (Fused T)) : Type 0 where
    pub kept : (x new : Devices (Fused D) (Fused T)) (result : Result (Unit {0}) SessionFault) → AreFaithful d t (unfused x)
        → ForgetsDevices image text x new result → KeepsImageAlone (unfused x) (unfused new) result
    pub drops : (x new : Devices (Fused D) (Fused T)) (result : Result (Unit {0}) SessionFault) (s : Images) → AreOnDisk d t (unfused x) s
        → ForgetsDevices image text x new result → DropsImages (unfused x) (unfused new) result s
    pub goes_on : (x new y : Devices D T) (s : Images) → AllFoundDropped x new s → AreLeft d t new y → IsWhole (t.text x.journal) (t.text y.journal)
        → IsWhole (t.text x.redo) (t.text y.redo) → OfSome s (only (d.image x.image)) (AreOnDisk d t y)

  -- Behind a dropping that was done the devices are opened, and one call is made that obeys a step, all behind such fuses: what is then found below them is the
  -- image alone, where the opening failed or the call was refused in whole, else an end of the step from there, which a loss leaves on the disk again
  pub record LossBehindDropping (image : DeviceViews (Fused D)) (text : StoreViews (Fused T)) (Step : Standing → Reply → Standing → Type 0) : Type 0 where
    pub found : (x dropped : Devices (Fused D) (Fused T)) (opened : Opening (Fused D) (Fused T)) → AreFaithful d t (unfused x)
        → ForgetsDevices image text x dropped (Ok tt) → OpensDevices image text dropped opened
        → MatchResult opened
        (λ o. (reply : Reply) (new : SessionView (Fused D) (Fused T)) → Obeys image text o.0 new reply Step
        → (IsWholeRefusal reply → AllFound d t (unfused (devices_of new)) (only (d.image x.image.within)))
        × ((IsWholeRefusal reply → ⊥) → AllFoundBehind d t (unfused (devices_of new)) (only (d.image x.image.within)) reply Step))
        (λ e. AllFound d t (unfused e.0) (only (d.image x.image.within)))
    pub goes_on : (x y : Devices D T) (start : Images) (reply : Reply) → AllFoundBehind d t x start reply Step → AreLeft d t x y
        → (after : Standing) × Step (Standing.Up start) reply after × AreOnDisk d t y (images_of after)

  -- A change with which the history begins anew. Opening leaves the images that it found on the disk, the newest of them as the image; the history is dropped,
  -- as `LossInForgetting` says; and behind that comes a command, a change that was read, or one that isn't to make the image longer
  pub record LossInRenewal (image : DeviceViews (Fused D)) (text : StoreViews (Fused T)) (R A : Type 0) (remaining : R → Option (List ℕ)) : Type 0 where
    pub opened : (x : Devices (Fused D) (Fused T)) (o : SessionView (Fused D) (Fused T) × Recovered) (s : Images) → AreOnDisk d t (unfused x) s
        → OpensDevices image text x (Ok o) → AreOnDisk d t (unfused (devices_of o.0)) (recovered_as o.1.how s) × (d.image o.0.image.within ≡ top s.stack)
    pub command : (command : Command R A) → LossBehindDropping image text (λ before. CommandStep remaining before command)
    pub change : (read : Result (Change A) ReadFault) → LossBehindDropping image text (λ before. ReadStep before (λ c. c) read)
    pub kept : (kept : Kept A) → LossBehindDropping image text (λ before. KeptStep before kept)
