-- The numbers of faults.
use Rattle.std.specs.Prelude.{ℕ}
use Rattle.bx_text.specs.declared.fault.IoFault.TheVariants as io
use Rattle.bx_read.specs.declared.fault.ReadFault.{ReadFault}
use Rattle.bx_read.specs.declared.fault.ReadFault.TheVariants as read
use Rattle.bx_dd.specs.declared.fault.DdFault.TheVariants as dd
use Rattle.bx_patch.specs.declared.other.Other.TheVariants as other
use Rattle.bx_patch.specs.declared.read.fault.PatchFault.TheVariants as patch
use Rattle.bx_journal.specs.SessionFault.TheVariants as session
use Rattle.bx_read_stream.specs.declared.fault.StreamFault.{StreamFault}
use Rattle.bx_read_stream.specs.declared.fault.StreamFault.TheVariants as stream
use Rattle.bx_cli_commands.specs.declared.fault.Fault.{Fault}
use Rattle.bx_cli_commands.specs.declared.fault.Fault.TheVariants.{Io, Read, Behind, Dd, Patch, Disagrees, NotReversible, NothingToWrite, Session, Grows, ChangedSince, Usage, OpenFailed}

-- the number of a fault of a dump's text
abbrev pub read_number_of : ReadFault → ℕ
read_number_of (read.BadAddress _) = 10
read_number_of (read.MissingColon _) = 11
read_number_of (read.BadPair _) = 12
read_number_of (read.NoData _) = 13
read_number_of (read.TooWide _) = 14
read_number_of (read.AddressTooLarge _) = 15
read_number_of (read.OddDigits _) = 16
read_number_of read.NoMemory = 1

-- The number of a fault. Want of memory, which each of the five crates has, is 1.
abbrev pub fault_number : Fault → ℕ
fault_number (Io io.ReadFailed) = 2
fault_number (Io (io.WriteFailed _)) = 3
fault_number (Io io.InputTooLong) = 4
fault_number (Io io.SkipPastEnd) = 5
fault_number (Read fault) = read_number_of fault
fault_number (Behind line) = 36
fault_number (Dd dd.ReadFailed) = 2
fault_number (Dd dd.InputTooLong) = 4
fault_number (Dd (dd.UnknownOperand _)) = 20
fault_number (Dd (dd.BadNumber _)) = 21
fault_number (Dd (dd.NumberTooLarge _)) = 22
fault_number (Dd (dd.ZeroSize _)) = 23
fault_number (Dd dd.Conflict) = 24
fault_number (Dd dd.MissingCbs) = 25
fault_number (Dd (dd.Repeated _)) = 26
fault_number (Dd dd.SeekWithoutOutput) = 27
fault_number (Patch (patch.Line fault)) = read_number_of fault
fault_number (Patch (patch.OfNoKind _)) = 17
fault_number (Patch (patch.BadLength _)) = 18
fault_number (Patch (patch.PastLength _)) = 19
fault_number (Patch patch.NoEnd) = 28
fault_number (Patch (patch.BadCount _)) = 35
fault_number NotReversible = 29
fault_number NothingToWrite = 32
fault_number (Disagrees (other.Bytes _)) = 34
fault_number (Disagrees (other.Length _)) = 45
fault_number (Session session.TooLarge) = 30
fault_number (Session session.DeviceFailed) = 31
fault_number (Session (session.Damaged _)) = 40
fault_number (Session (session.TooFew _)) = 41
fault_number (Session session.JournalFull) = 42
fault_number (Session session.Interrupted) = 43
fault_number (Session session.Broken) = 44
fault_number (Session (session.LengthDiffers _)) = 45
fault_number (Session (session.NothingToRedo _)) = 46
fault_number (Session (session.RedoDamaged _)) = 47
fault_number ChangedSince = 48
fault_number (Grows has wanted) = 49
fault_number Usage = 50
fault_number OpenFailed = 51
fault_number (Io io.NoMemory) = 1
fault_number (Dd dd.NoMemory) = 1
fault_number (Patch patch.NoMemory) = 1
fault_number (Session session.NoMemory) = 1

-- what stops the writing of what a dump makes of nothing, as a fault of the program
abbrev pub stream_fault : StreamFault → Fault
stream_fault (stream.Read fault) = Read fault
stream_fault (stream.Behind line) = Behind line
stream_fault (stream.Io fault) = Io fault
