-- What faults of the devices are in a session, and which of them several calls may meet.
use Rattle.bx_image.specs.declared.device.ImageFault.{ImageFault}
use Rattle.bx_image.specs.declared.device.ImageFault.TheVariants.{NoMemory as ImageMemory, TooLarge as ImageLarge, DeviceFailed as ImageFailed}
use Rattle.bx_journal_model.specs.declared.fault.SessionFault.{SessionFault}
use Rattle.bx_journal_model.specs.declared.fault.SessionFault.TheVariants.{NoMemory, TooLarge, DeviceFailed, Interrupted, Broken, Damaged, RedoDamaged}
use Rattle.std.specs.Prelude.{◌≡◌, ◌⊎◌}
use Rattle.bx_journal_store.specs.declared.fault.TextFault.{TextFault}
use Rattle.bx_journal_store.specs.declared.fault.TextFault.TheVariants.{NoMemory as TextMemory, DeviceFailed as TextFailed}

-- what a fault of saving is in a session
abbrev pub saving_fault : ImageFault → SessionFault
saving_fault ImageMemory = NoMemory
saving_fault ImageLarge = TooLarge
saving_fault ImageFailed = DeviceFailed

-- want of memory, or a failed device: what any call may meet before its first write
abbrev pub DeviceFault : SessionFault → Type 0
DeviceFault NoMemory = Unit {0}
DeviceFault DeviceFailed = Unit {0}
DeviceFault e = ⊥

-- which fault a change, an undo and a redo may meet alike
abbrev pub WritingFault : SessionFault → Type 0
WritingFault Interrupted = Unit {0}
WritingFault Broken = Unit {0}
WritingFault e = DeviceFault e

-- a call that only looks at a device lacks memory, or the device failed
abbrev pub LacksOrFails : SessionFault → Type 0
LacksOrFails e = (e ≡ NoMemory) ⊎ (e ≡ DeviceFailed)

-- what a fault of reading the text is
abbrev pub reading_fault : TextFault → SessionFault
reading_fault TextMemory = NoMemory
reading_fault TextFailed = DeviceFailed

-- a fault of reading a journal's text, where the text is the redo text
abbrev pub redo_fault : SessionFault → SessionFault
redo_fault (Damaged line) = RedoDamaged line
redo_fault e = e

-- which fault a change may meet before its first write
abbrev pub PrepareFault : SessionFault → Type 0
PrepareFault TooLarge = Unit {0}
PrepareFault e = DeviceFault e
