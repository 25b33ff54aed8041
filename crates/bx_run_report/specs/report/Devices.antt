-- Devices that are only read.
use Rattle.std.specs.Prelude.{◌≡◌, ◌+◌, ℕ, false, List}
use Rattle.bx_image.specs.declared.device.Device.{Ghosts as DeviceViews}
use Rattle.bx_journal_store.specs.declared.store.TextStore.{Ghosts as StoreViews}
use Rattle.bx_text.specs.declared.fault.IoFault.TheVariants.{NoMemory as LacksMemory}
use Rattle.bx_journal.specs.Devices.{Devices}
use Rattle.bx_journal.specs.Fault.{DeviceFault}
use Rattle.bx_journal.specs.SessionView.{SessionView, devices_of}
use Rattle.bx_journal.specs.ShownSteps.{HasEntries}
use Rattle.bx_journal.specs.ThreeDevices.{AreBelow}
use Rattle.bx_journal.specs.Undoing.{HasCount}
use Rattle.bx_cli_commands.specs.declared.fault.Fault.TheVariants.{Io, Session}
use Rattle.bx_world.specs.World.{ReadFiles, SystemState, bytes_if, held}
use Rattle.bx_world.specs.declared.files.names.Names.{Names}
use Rattle.bx_run_report.specs.declared.report.error.ReportError.{ReportError}
use Rattle.bx_run_report.specs.declared.report.error.ReportError.TheVariants.{Stopped}

-- how many calls of three devices failed that are only read
abbrev pub failed_reads : {D T : Type 0} → DeviceViews D → StoreViews T → Devices D T → ℕ
failed_reads d t x = d.failures x.image + t.failures x.journal + t.failures x.redo

-- The devices are faithful, and hold these bytes
pub record HoldBytes {D T : Type 0} (d : DeviceViews D) (t : StoreViews T) (image journal redo : List ℕ) (x : Devices D T) : Type 0 where
  pub image_faithful : d.faithful x.image
  pub journal_faithful : t.faithful x.journal
  pub redo_faithful : t.faithful x.redo
  pub image_is : d.image x.image ≡ image
  pub journal_is : t.text x.journal ≡ journal
  pub redo_is : t.text x.redo ≡ redo

-- the devices hold what the files of these names do
abbrev pub HoldFiles : {D T : Type 0} → DeviceViews D → StoreViews T → Names → SystemState → Devices D T → Type 0
HoldFiles d t names w x = HoldBytes d t (held w names.image) (held w names.journal) (held w names.redo) x

-- the same of the files of these numbers
abbrev pub HoldNumbered : {D T : Type 0} → DeviceViews D → StoreViews T → ReadFiles → SystemState → Devices D T → Type 0
HoldNumbered d t f w x = HoldBytes d t (w.bytes f.image) (w.bytes f.journal) (bytes_if w f.redo) x

-- the counts of failed calls of a session's devices are below a limit, and none broke the session
pub record IsUnbroken {D T : Type 0} (d : DeviceViews D) (t : StoreViews T) (limit : ℕ) (s : SessionView D T) : Type 0 where
  pub below : AreBelow d t limit (devices_of s)
  pub whole : s.is_broken ≡ false

-- A session was opened in which nothing was unfinished: its devices hold what they held, and as many changes stand as the journal has
pub record IsOpenedWhole {D T : Type 0} (d : DeviceViews D) (t : StoreViews T) (image journal redo : List ℕ) (s : SessionView D T) : Type 0 where
  pub devices : HoldBytes d t image journal redo (devices_of s)
  pub counted : HasCount journal s.count
  pub entries : HasEntries journal s.count

-- memory or a device stopped it
abbrev pub IsDeviceStop : ReportError → Type 0
IsDeviceStop (Stopped (Session fault)) = DeviceFault fault
IsDeviceStop (Stopped (Io LacksMemory)) = Unit {0}
IsDeviceStop unseen = ⊥
