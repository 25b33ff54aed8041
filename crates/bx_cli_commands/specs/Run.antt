-- The machine of commands.
use Rattle.std.specs.Prelude.{◌≡◌, ℕ, ◌⊎◌, Bool, true, false, Option, Result, Ok, Err, List, [], ◌∷◌, None, Some}
use Rattle.bx_dd.specs.declared.fault.DdFault.{DdFault}
use Rattle.bx_image.specs.declared.change.Change.{Change}
use Rattle.bx_image.specs.declared.device.Device.{Ghosts as DeviceViews}
use Rattle.bx_journal_store.specs.declared.store.TextStore.{Ghosts as StoreViews}
use Rattle.bx_read.specs.declared.fault.ReadFault.{ReadFault}
use Rattle.bx_read.specs.declared.fault.ReadFault.TheVariants.{NoMemory}
use Rattle.bx_journal.specs.SessionFault.{SessionFault}
use Rattle.bx_journal.specs.SessionFault.TheVariants.{DeviceFailed, Interrupted, Broken}
use Rattle.bx_patch.specs.declared.other.Other.{Other}
use Rattle.bx_patch.specs.declared.read.fault.PatchFault.TheVariants as of_patch
use Rattle.bx_patch.specs.Other.{FindsOther}
use Rattle.bx_patch.specs.Patch.{Asked, patch_change}
use Rattle.bx_patch.specs.Read.{asked_of}
use Rattle.bx_read.specs.Plain.{plain_answer}
use Rattle.bx_read.specs.Text.{dump_pieces}
use Rattle.bx_cli_commands.specs.declared.command.Command.{Command}
use Rattle.bx_cli_commands.specs.declared.command.Command.TheVariants.{Revert, RevertPlain, Dd, Copy, Patch, Undo, Redo}
use Rattle.bx_cli_commands.specs.declared.command.Reply.{Reply}
use Rattle.bx_cli_commands.specs.declared.command.Reply.TheVariants.{Changed, Copied, Undone, Redone, Refused}
use Rattle.bx_cli_commands.specs.declared.fault.Fault.TheVariants.{Read, Dd, Patch, Disagrees, Session}
use Rattle.bx_journal.specs.Images.{Images, redo_of, undo_of}
use Rattle.bx_journal.specs.Machine.{RedoStep, UndoStep, top}
use Rattle.bx_journal.specs.Session.{IsUnfailed}
use Rattle.bx_journal.specs.SessionView.{SessionView}
use Rattle.bx_cli_commands.specs.declared.changes.DdChange.{DdChange}
use Rattle.bx_cli_commands.specs.Command.{dump_change, plain_change}
use Rattle.bx_cli_commands.specs.Copy.{MakesCopy, MakesBy}
use Rattle.bx_cli_commands.specs.Standing.{Standing, LeadsOn, MovesUp, PerformUp}
use Rattle.bx_dd.specs.declared.counts.Counts.{Counts}

-- the reply that tells what the session answered; `made` tells what was done
abbrev pub answered : (ℕ → Reply) → Result ℕ SessionFault → Reply
answered made (Ok n) = made n
answered made (Err e) = Refused (Session e)

-- A call of the session, and the reply to it: `Call` says what it makes of images, and a stopped session refuses it
abbrev pub CallStep : (ℕ → Reply) → (Images → Result ℕ SessionFault → Standing → Type 0) → Standing → Reply → Standing → Type 0
CallStep made Call (Standing.Up old) reply after = (r : Result ℕ SessionFault) × (reply ≡ answered made r) × Call old r after
CallStep made Call (Standing.Down old) reply after = (reply ≡ Refused (Session Broken)) × (after ≡ Standing.Down old)

-- A text that asks for a change, by what it reads as: a fault comes first
abbrev pub ReadStep : {A B : Type 0} → Standing → (B → Change A) → Result B ReadFault → Reply → Standing → Type 0
ReadStep before change (Ok read) reply after = CallStep Changed (PerformUp (change read)) before reply after
ReadStep before change (Err e) reply after = (reply ≡ Refused (Read e)) × (after ≡ before)

-- dd, by what its operands make of its input: a fault comes first, and the reply to its change tells the counts
abbrev pub DdStep : {A : Type 0} → Standing → Result (DdChange A) DdFault → Reply → Standing → Type 0
DdStep before (Ok made) reply after = CallStep (λ n. Copied n made.counts) (PerformUp made.change) before reply after
DdStep before (Err e) reply after = (reply ≡ Refused (Dd e)) × (after ≡ before)

-- The same, by all that its operands or its plan may make of its input, and leave of it
abbrev pub CopyStep : {A : Type 0} → Standing → (Option (List ℕ) → Result (DdChange A) DdFault → Type 0) → Reply → Standing → Type 0
CopyStep {A = A} before Made reply after = (left : Option (List ℕ)) × ((r : Result (DdChange A) DdFault) × (Made left r × DdStep before r reply after))

-- A text that asks for a change. Want of memory for its reading may take its place.
abbrev pub TextStep : {A B : Type 0} → Standing → (B → Change A) → Result B ReadFault → Reply → Standing → Type 0
TextStep before change read reply after = ((reply ≡ Refused (Read NoMemory)) × (after ≡ before)) ⊎ ReadStep before change read reply after

-- What the newest image has otherwise than a patch expects refuses its change; nothing is done
abbrev pub FoundStep : {A : Type 0} → Change A → Images → Option Other → Reply → Standing → Type 0
FoundStep c old None reply after = CallStep Changed (PerformUp c) (Standing.Up old) reply after
FoundStep c old (Some other) reply after = (reply ≡ Refused (Disagrees other)) × (after ≡ Standing.Up old)

-- A patch that was read, by what the newest image has otherwise than it expects. A device that fails in the comparison refuses it.
abbrev pub AgreedStep : (A : Type 0) → Standing → Asked → Reply → Standing → Type 0
AgreedStep A (Standing.Up old) p reply after = ((reply ≡ Refused (Session DeviceFailed)) × (after ≡ Standing.Up old))
    ⊎ ((found : Option Other) × FindsOther p (top old.stack) found × FoundStep (patch_change {A = A} p) old found reply after)
AgreedStep A (Standing.Down old) p reply after = (reply ≡ Refused (Session Broken)) × (after ≡ Standing.Down old)

-- The same. Want of memory for taking the patch may take its place.
abbrev pub PatchStep : (A : Type 0) → Standing → Asked → Reply → Standing → Type 0
PatchStep A before p reply after = ((reply ≡ Refused (Patch of_patch.NoMemory)) × (after ≡ before)) ⊎ AgreedStep A before p reply after

-- One command, where `remaining` is what a reader gives. Want of memory for the reading of its text may take its place.
abbrev pub CommandStep : {R A : Type 0} → (R → Option (List ℕ)) → Standing → Command R A → Reply → Standing → Type 0
CommandStep {A = A} remaining before (Revert text offset) reply after = TextStep before (dump_change {A = A} offset) (dump_pieces text) reply after
CommandStep {A = A} remaining before (RevertPlain text at) reply after = TextStep before (plain_change {A = A} at) (plain_answer text) reply after
CommandStep {A = A} remaining before (Dd operands input) reply after = CopyStep {A = A} before (MakesCopy operands (remaining input)) reply after
CommandStep {A = A} remaining before (Copy plan input) reply after = CopyStep {A = A} before (MakesBy plan (remaining input)) reply after
CommandStep {A = A} remaining before (Patch patch) reply after = PatchStep A before (asked_of patch) reply after
CommandStep remaining before (Undo k) reply after = CallStep Undone (MovesUp (λ s k r t. UndoStep s.stack k r t.stack) undo_of k) before reply after
CommandStep remaining before (Redo j) reply after = CallStep Redone (MovesUp RedoStep redo_of j) before reply after

-- a chain of states: one step for each command and its reply, in order
abbrev pub Chain : {S C : Type 0} → (S → C → Reply → S → Type 0) → S → List C → List Reply → S → Type 0
Chain Step old [] [] new = new ≡ old
Chain {S = S} Step old (c ∷ list) (p ∷ replies) new = (now : S) × Step old c p now × Chain Step now list replies new
Chain Step old list replies new = ⊥

-- A list of commands: one reply each, in order; it goes on after a refusal
abbrev pub CommandRun : {R A : Type 0} → (R → Option (List ℕ)) → Standing → List (Command R A) → List Reply → Standing → Type 0
CommandRun remaining before list replies after = Chain (CommandStep remaining) before list replies after

-- whether a device's failure refused the command
abbrev pub is_failure : Reply → Bool
is_failure (Refused (Session DeviceFailed)) = true
is_failure (Refused (Session Interrupted)) = true
is_failure p = false

-- no device's failure refused the command
abbrev pub Unfailed : Reply → Type 0
Unfailed p = is_failure p ≡ false

-- The same where no device fails: from images to images
abbrev pub StackStep : {R A : Type 0} → (R → Option (List ℕ)) → Images → Command R A → Reply → Images → Type 0
StackStep remaining before c reply after = CommandStep remaining (Standing.Up before) c reply (Standing.Up after) × Unfailed reply

-- a list of commands from images to images: one reply each, in order; it goes on after a refusal
abbrev pub StackRun : {R A : Type 0} → (R → Option (List ℕ)) → Images → List (Command R A) → List Reply → Images → Type 0
StackRun remaining before list replies after = Chain (StackStep remaining) before list replies after

-- From faithful devices, none of whose calls fails: wherever the first session stands, by `Stands`, the replies are a run to images
-- that the last one stands for
abbrev pub Runs : {D T R A : Type 0} → DeviceViews D → StoreViews T → (SessionView D T → Images → Type 0) → (R → Option (List ℕ))
    → SessionView D T → List (Command R A) → List Reply → SessionView D T → Type 0
Runs d t Stands remaining old list replies new =
    d.faithful old.image → t.faithful old.journal → t.faithful old.redo → IsUnfailed d.failures t.failures old new
    → LeadsOn Stands (λ start. StackRun remaining start list replies) old new

-- the reply to a change that was made; dd's tells its counts too
abbrev pub made_reply : Option Counts → ℕ → Reply
made_reply None = Changed
made_reply (Some counts) = λ n. Copied n counts

-- a change, and the reply to it
abbrev pub ChangeStep : {A : Type 0} → Standing → Change A → Option Counts → Reply → Standing → Type 0
ChangeStep before c counts reply after = CallStep (made_reply counts) (PerformUp c) before reply after

-- an undo of k, from images
abbrev pub UndoUp : ℕ → Images → Result ℕ SessionFault → Standing → Type 0
UndoUp k old r after = MovesUp (λ s k r t. UndoStep s.stack k r t.stack) undo_of k old r after

-- a redo of j, from images
abbrev pub RedoUp : ℕ → Images → Result ℕ SessionFault → Standing → Type 0
RedoUp j old r after = MovesUp RedoStep redo_of j old r after

-- an undo, and the reply to it
abbrev pub UndoesStep : Standing → ℕ → Reply → Standing → Type 0
UndoesStep before k reply after = CallStep Undone (UndoUp k) before reply after

-- a redo, and the reply to it
abbrev pub RedoesStep : Standing → ℕ → Reply → Standing → Type 0
RedoesStep before j reply after = CallStep Redone (RedoUp j) before reply after

-- a dump that is put onto the image
abbrev pub DumpStep : (A : Type 0) → Standing → List ℕ → ℕ → Reply → Standing → Type 0
DumpStep A before text offset reply after = TextStep before (dump_change {A = A} offset) (dump_pieces text) reply after

-- plain hexadecimal that is put onto the image from a place on
abbrev pub PlainStep : (A : Type 0) → Standing → List ℕ → ℕ → Reply → Standing → Type 0
PlainStep A before text at reply after = TextStep before (plain_change {A = A} at) (plain_answer text) reply after
