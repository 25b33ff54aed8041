-- Which fault stops a look: what is said of a faithful device is said of the bytes of files.
use Rattle.std.proofs.Common.{ℕ, List}
use Rattle.bx_journal.specs.SessionFault.{SessionFault}
use Rattle.bx_journal.specs.SessionFault.TheVariants.{NoMemory, TooLarge, DeviceFailed, Damaged, TooFew, JournalFull, Interrupted, Broken, LengthDiffers, NothingToRedo, RedoDamaged}
use Rattle.bx_journal.specs.ShowFault.TheVariants as look
use Rattle.bx_journal.specs.Showing.{StopsLog}
use Rattle.bx_journal.specs.ShownSteps.{StopsSteps}
use Rattle.bx_journal.specs.Steps.{Steps}
use Rattle.bx_cli_commands.specs.Listing.{StopsListing, StopsShowing}
use Rattle.bx_cli_commands.specs.declared.fault.Fault.{Fault}
use Rattle.bx_cli_commands.specs.declared.fault.Fault.TheVariants.{Io, Read, Behind, Dd, Patch, Disagrees, NotReversible, NothingToWrite, Session, Grows, ChangedSince, Usage, OpenFailed}

log_of_bytes : (faithful : Type 0) → faithful → (text : List ℕ) (e : SessionFault) → StopsLog faithful text (look.Text e) → StopsLog (Unit {0}) text (look.Text e)
log_of_bytes faithful h text NoMemory is = is
log_of_bytes faithful h text TooLarge is = is
log_of_bytes faithful h text DeviceFailed is = is
log_of_bytes faithful h text (Damaged line) is = λ _. is h
log_of_bytes faithful h text (TooFew have) is = is
log_of_bytes faithful h text JournalFull is = is
log_of_bytes faithful h text Interrupted is = is
log_of_bytes faithful h text Broken is = is
log_of_bytes faithful h text (LengthDiffers expected) is = is
log_of_bytes faithful h text (NothingToRedo have) is = is
log_of_bytes faithful h text (RedoDamaged line) is = is

-- which fault stops the list of ranges
pub listing_of_bytes : (faithful : Type 0) → faithful → (text : List ℕ) (fault : Fault) → StopsListing faithful text fault → StopsListing (Unit {0}) text fault
listing_of_bytes faithful h text (Io fault) is = is
listing_of_bytes faithful h text (Read fault) is = is
listing_of_bytes faithful h text (Behind line) is = is
listing_of_bytes faithful h text (Dd fault) is = is
listing_of_bytes faithful h text (Patch fault) is = is
listing_of_bytes faithful h text (Disagrees other) is = is
listing_of_bytes faithful h text (Session e) is = log_of_bytes faithful h text e is
listing_of_bytes faithful h text NotReversible is = is
listing_of_bytes faithful h text NothingToWrite is = is
listing_of_bytes faithful h text (Grows has wanted) is = is
listing_of_bytes faithful h text ChangedSince is = is
listing_of_bytes faithful h text Usage is = is
listing_of_bytes faithful h text OpenFailed is = is

steps_of_bytes : (faithful : Type 0) → faithful → (text : List ℕ) (s : Steps) (e : SessionFault) → StopsSteps faithful text s (look.Text e)
    → StopsSteps (Unit {0}) text s (look.Text e)
steps_of_bytes faithful h text s NoMemory is = is
steps_of_bytes faithful h text s TooLarge is = is
steps_of_bytes faithful h text s DeviceFailed is = is
steps_of_bytes faithful h text s (Damaged line) is = (is.0, λ _. is.1 h)
steps_of_bytes faithful h text s (TooFew have) is = (is.0, is.1, λ _. is.2 h)
steps_of_bytes faithful h text s JournalFull is = is
steps_of_bytes faithful h text s Interrupted is = is
steps_of_bytes faithful h text s Broken is = is
steps_of_bytes faithful h text s (LengthDiffers expected) is = is
steps_of_bytes faithful h text s (NothingToRedo have) is = (is.0, is.1, λ _. is.2 h)
steps_of_bytes faithful h text s (RedoDamaged line) is = (is.0, λ _. is.1 h)

-- which fault stops the steps over a text
pub showing_of_bytes : (faithful : Type 0) → faithful → (text : List ℕ) (s : Steps) (fault : Fault) → StopsShowing faithful text s fault
    → StopsShowing (Unit {0}) text s fault
showing_of_bytes faithful h text s (Io fault) is = is
showing_of_bytes faithful h text s (Read fault) is = is
showing_of_bytes faithful h text s (Behind line) is = is
showing_of_bytes faithful h text s (Dd fault) is = is
showing_of_bytes faithful h text s (Patch fault) is = is
showing_of_bytes faithful h text s (Disagrees other) is = is
showing_of_bytes faithful h text s (Session e) is = steps_of_bytes faithful h text s e is
showing_of_bytes faithful h text s NotReversible is = is
showing_of_bytes faithful h text s NothingToWrite is = is
showing_of_bytes faithful h text s (Grows has wanted) is = is
showing_of_bytes faithful h text s ChangedSince is = is
showing_of_bytes faithful h text s Usage is = is
showing_of_bytes faithful h text s OpenFailed is = is
