-- Commands that end in the fault of a device.
use Rattle.std.specs.Prelude.{◌≡◌, ◌<◌, ◌≤◌, ℕ, Bool, true, false, Result, Ok, Err}
use Rattle.bx_patch.specs.declared.diff.fault.DiffFault.{DiffFault}
use Rattle.bx_patch.specs.declared.diff.fault.DiffFault.TheVariants.{NewFailed, OldFailed}
use Rattle.bx_journal.specs.SessionFault.TheVariants.{DeviceFailed, Interrupted}
use Rattle.bx_cli_commands.specs.declared.fault.Fault.{Fault}
use Rattle.bx_cli_commands.specs.declared.fault.Fault.TheVariants.{Session}
use Rattle.bx_patch.specs.Diff.{of_new, of_old}
use Rattle.bx_journal.specs.Direction.{Direction}
use Rattle.bx_journal.specs.Direction.TheVariants.{Undo, Redo}

-- whether the fault is a device's, which failed before a command's first write or behind it
abbrev pub is_device_fault : Fault → Bool
is_device_fault (Session DeviceFailed) = true
is_device_fault (Session Interrupted) = true
is_device_fault fault = false

-- whether a command ended in the fault of a device
abbrev pub is_failed : {V : Type 0} → Result V Fault → Bool
is_failed (Ok v) = false
is_failed (Err fault) = is_device_fault fault

-- whether a comparison was stopped by one of its two devices
abbrev pub is_read_failure : DiffFault → Bool
is_read_failure OldFailed = true
is_read_failure NewFailed = true
is_read_failure fault = false

-- No count of calls that were refused falls; and it rises where a device's fault is answered
pub record CountsFailure (failed : Bool) (old new : ℕ) : Type 0 where
  pub least : old ≤ new
  pub rise : failed ≡ true → old < new

-- whether it was the device of the image that is there which failed: of an undo's patch the newer one, of a redo's the older one
abbrev pub of_there : Direction → DiffFault → Bool
of_there Undo = of_new
of_there Redo = of_old

-- whether it was the other one, which has the image behind the steps
abbrev pub of_behind : Direction → DiffFault → Bool
of_behind Undo = of_old
of_behind Redo = of_new
