-- The inputs that changes are made of.
use Rattle.std.specs.Prelude.{◌≡◌, ℕ, Bool, true, false, Option, None, Some, List, Result, Ok, Err}
use Rattle.std.specs.Global.{Global}
use Rattle.bx_image.specs.declared.change.Change.{Change}
use Rattle.bx_patch.specs.Patch.{Asked}
use Rattle.bx_patch.specs.Read.{asked_of}
use Rattle.bx_patch.specs.declared.read.patch.Patch.{Patch}
use Rattle.bx_read.specs.declared.fault.ReadFault.{ReadFault}
use Rattle.bx_dd.specs.Plan.{change_of}
use Rattle.bx_dd.specs.Transfer.{Copies}
use Rattle.bx_dd.specs.declared.counts.Counts.{Counts}
use Rattle.bx_dd.specs.declared.operands.plan.Plan.{Plan}
use Rattle.bx_cli_commands.specs.Growth.{PatchWithin, WithinStep}
use Rattle.bx_cli_commands.specs.Inputs.{AsksByDump, AsksByPatch, PutStep}
use Rattle.bx_cli_commands.specs.Run.{ChangeStep, PatchStep}
use Rattle.bx_cli_commands.specs.Standing.{Standing}
use Rattle.bx_cli_commands.specs.declared.command.Kept.TheVariants as kept
use Rattle.bx_cli_commands.specs.declared.command.Reply.{Reply}
use Rattle.bx_cli_commands.specs.declared.command.Reply.TheVariants.{Refused}
use Rattle.bx_cli_commands.specs.declared.fault.Fault.TheVariants.{Read as UnreadText}
use Rattle.bx_run_session.specs.declared.edit.proposal.Proposal.{Proposal}
use Rattle.bx_run_session.specs.declared.edit.proposal.Proposal.TheVariants as proposal

-- An input that was read: the text of a dump, plain or with addresses, and its place; the text of a patch, and whether it is turned round; or what dd's plan
-- was given, what was left of that, and what it counted
pub data Input : Type 0 where
  OfDump : (plain : Bool) (at : ℕ) (text : List ℕ) → Input
  OfPatch : (turned : Bool) (text : List ℕ) → Input
  OfCopy : (plan : Plan Global) (given left : Option (List ℕ)) (counts : Counts) → Input

-- the change of a text that was read, or its fault; with `keeps` one that isn't to make the image longer
abbrev pub read_as : Bool → Result (Change Global) ReadFault → Proposal
read_as true (Ok change) = proposal.Keep (kept.Change change)
read_as keeps read = proposal.Read read

-- the change of a patch; with `keeps` one that isn't to make the image longer
abbrev pub patch_as : Bool → Patch Global → Proposal
patch_as true patch = proposal.Keep (kept.Patch patch)
patch_as false patch = proposal.Patch patch

-- the change that is asked; none of a patch, or of a text that has a fault
abbrev pub change_in : Proposal → Option (Change Global)
change_in (proposal.Read (Ok change)) = Some change
change_in (proposal.Keep (kept.Change change)) = Some change
change_in asked = None

-- the patch that is asked; none of a change that a text or a copy asks
abbrev pub patch_in : Proposal → Option (Patch Global)
patch_in (proposal.Patch patch) = Some patch
patch_in (proposal.Keep (kept.Patch patch)) = Some patch
patch_in asked = None

-- What is asked of an image is what this input asks, where `keeps` says whether the image isn't to get longer
abbrev pub IsMadeOf : Bool → Input → Proposal → Type 0
IsMadeOf keeps (Input.OfDump plain at text) asked = (read : Result (Change Global) ReadFault) × AsksByDump plain at text read × (asked ≡ read_as keeps read)
IsMadeOf keeps (Input.OfPatch turned text) asked = (patch : Patch Global) × AsksByPatch turned text (asked_of patch) × (asked ≡ patch_as keeps patch)
IsMadeOf keeps (Input.OfCopy plan given left counts) asked =
    (bytes : List ℕ) × Copies plan given left bytes counts × (asked ≡ read_as keeps (Ok (change_of plan bytes)))

-- What is asked of an image is what some input asks
pub record HasInput (asked : Proposal) : Type 0 where
  pub keeps : Bool
  pub input : Input
  pub made : IsMadeOf keeps input asked

-- a change that was read is made of the newest image, unless it would make that longer; the fault of its text refuses it
abbrev pub ReadWithin : Standing → Result (Change Global) ReadFault → Reply → Standing → Type 0
ReadWithin before (Ok change) reply after = WithinStep before change reply after
ReadWithin before (Err fault) reply after = (reply ≡ Refused (UnreadText fault)) × (after ≡ before)

-- The machine's step that puts an input onto the image, where `keeps` says whether the image isn't to get longer: the whole text of a dump at its place, the
-- change of a patch in its direction, or the bytes that dd's plan copied
abbrev pub InputStep : Bool → Input → Standing → Reply → Standing → Type 0
InputStep false (Input.OfDump plain at text) before reply after = PutStep Global plain at before text reply after
InputStep true (Input.OfDump plain at text) before reply after =
    (read : Result (Change Global) ReadFault) × AsksByDump plain at text read × ReadWithin before read reply after
InputStep false (Input.OfPatch turned text) before reply after =
    (asked : Asked) × AsksByPatch turned text asked × PatchStep Global before asked reply after
InputStep true (Input.OfPatch turned text) before reply after =
    (asked : Asked) × AsksByPatch turned text asked × PatchWithin Global before asked reply after
InputStep false (Input.OfCopy plan given left counts) before reply after =
    (bytes : List ℕ) × Copies plan given left bytes counts × ChangeStep {A = Global} before (change_of plan bytes) None reply after
InputStep true (Input.OfCopy plan given left counts) before reply after =
    (bytes : List ℕ) × Copies plan given left bytes counts × WithinStep {A = Global} before (change_of plan bytes) reply after
