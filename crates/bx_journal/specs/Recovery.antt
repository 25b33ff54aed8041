-- Recovery: what opening finds in a journal's text, and what it leaves of the redo text.
use Rattle.bx_journal_model.specs.declared.fault.SessionFault.{SessionFault}
use Rattle.bx_journal_model.specs.declared.fault.SessionFault.TheVariants.{Damaged, Interrupted, LengthDiffers, RedoDamaged}
use Rattle.bx_journal_model.specs.Fault.{DeviceFault}

-- which fault opening may answer at all
abbrev pub OpenKind : SessionFault → Type 0
OpenKind (Damaged line) = Unit {0}
OpenKind (LengthDiffers expected) = Unit {0}
OpenKind Interrupted = Unit {0}
OpenKind (RedoDamaged line) = Unit {0}
OpenKind e = DeviceFault e
