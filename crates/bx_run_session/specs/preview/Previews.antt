-- The patch that a change of a named image would be.
use Rattle.std.specs.Prelude.{◌≡◌, ◌⊎◌, ◌<◌, ◌≤◌, ℕ, Bool, true, false, List, length, Option, Result, Ok, Err}
use Rattle.std.specs.Result.{MatchResult}
use Rattle.std.specs.Option.{option_map_or}
use Rattle.std.specs.Io.KnownBytes.{Appends}
use Rattle.bx_dd.specs.declared.counts.Counts.{Counts}
use Rattle.bx_patch.specs.Diff.{IsFaultFor, WritesPrefix}
use Rattle.bx_patch.specs.Text.{patch_text}
use Rattle.bx_patch.specs.declared.diff.fault.DiffFault.TheVariants.{OldFailed}
use Rattle.bx_patch.specs.declared.diff.row.Extent.TheVariants.{Bytes}
use Rattle.bx_journal.specs.Forgotten.{only}
use Rattle.bx_journal.specs.Images.{Images}
use Rattle.bx_journal.specs.Machine.{top}
use Rattle.bx_journal.specs.SessionFault.TheVariants.{TooLarge}
use Rattle.bx_cli_commands.specs.Replies.{counted_by, stands_by}
use Rattle.bx_cli_commands.specs.Standing.{Standing}
use Rattle.bx_cli_commands.specs.declared.command.Command.TheVariants as command
use Rattle.bx_cli_commands.specs.declared.command.Reply.{Reply}
use Rattle.bx_cli_commands.specs.declared.command.Reply.TheVariants as reply
use Rattle.bx_cli_commands.specs.declared.fault.Fault.{Fault}
use Rattle.bx_cli_commands.specs.declared.fault.Fault.TheVariants.{Dd, Disagrees, Grows, Read, Session}
use Rattle.bx_world.specs.World.{MayBeRead, SystemState, held, stat_named}
use Rattle.bx_world.specs.declared.stat.Kind.{Kind}
use Rattle.bx_world.specs.declared.stat.Kind.TheVariants.{Block, Other, Regular}
use Rattle.bx_world.specs.declared.stat.Stat.{Stat}
use Rattle.bx_world.specs.files.Reading.{IsUnfitToRead}
use Rattle.bx_world.specs.files.Reasons.{IsReason}
use Rattle.bx_world.specs.declared.files.unopened.OpenFailure.{OpenFailure}
use Rattle.bx_run_model.specs.Failures.{is_device_fault, is_read_failure}
use Rattle.bx_run_model.specs.RunState.{RunState}
use Rattle.bx_run_session.specs.session.Task.{TaskStep}
use Rattle.bx_run_session.specs.declared.session.task.Task.{Task}
use Rattle.bx_run_session.specs.declared.preview.error.PreviewError.{PreviewError}
use Rattle.bx_run_session.specs.declared.preview.error.PreviewError.TheVariants.{Refused, Stopped, Unfitting, Unopened}

-- the faults of a task itself: of its dump, its patch or its input, that the image would get longer, or that no image can be so long
abbrev pub IsOwnFault : Fault → Type 0
IsOwnFault (Read e) = Unit {0}
IsOwnFault (Dd e) = Unit {0}
IsOwnFault (Disagrees other) = Unit {0}
IsOwnFault (Grows has wanted) = Unit {0}
IsOwnFault (Session TooLarge) = Unit {0}
IsOwnFault fault = ⊥

-- an image that keeps its length has room for what is made of it
abbrev pub HasRoom : Bool → List ℕ → List ℕ → Type 0
HasRoom keeps x y = keeps ≡ true → length y ≤ length x

module _ {R : Type 0} (remaining : R → Option (List ℕ)) (task : Task R) where
  -- What the machine's step makes of an image alone: it is made as the first change, its reply tells the counts, and y is then the newest image
  pub record MakesFirst (x : List ℕ) (counts : Option Counts) (y : List ℕ) : Type 0 where
    pub reply : Reply
    pub next : Images
    pub step : TaskStep remaining (Standing.Up (only x)) task reply (Standing.Up next)
    pub stands : stands_by reply ≡ Ok 1
    pub counted : counts ≡ counted_by reply
    pub newest : y ≡ top next.stack

  -- the machine's step refuses it of an image alone
  abbrev pub Refuses : List ℕ → Fault → Type 0
  Refuses x fault = IsOwnFault fault × TaskStep remaining (Standing.Up (only x)) task (reply.Refused fault) (Standing.Up (only x))

  -- the patch from an image to what is made of it was written
  abbrev pub WritesChange : Bool → List ℕ → Option Counts → Option (List ℕ) → Option (List ℕ) → Type 0
  WritesChange keeps x counts old new = (y : List ℕ) × MakesFirst x counts y × HasRoom keeps x y × Appends old new (patch_text Bytes x y)

  -- what is made of an image is longer, and the image keeps its length
  abbrev pub Outgrows : Bool → List ℕ → ℕ → ℕ → Type 0
  Outgrows keeps x has wanted =
      (counts : Option Counts) × (y : List ℕ) × MakesFirst x counts y × (keeps ≡ true) × (has ≡ length x) × (wanted ≡ length y) × (has < wanted)

  -- why nothing is compared: it is refused, there is no room for it, or the image's device failed before it was known what is made
  abbrev pub StopsBefore : Bool → List ℕ → PreviewError → Type 0
  StopsBefore keeps x (Unopened why) = ⊥
  StopsBefore keeps x (Refused fault) = Refuses x fault
  StopsBefore keeps x (Unfitting has wanted) = Outgrows keeps x has wanted
  StopsBefore keeps x (Stopped fault) = fault ≡ OldFailed

  -- a fault stopped the comparison, and a prefix of the patch was written
  abbrev pub CutsPatch : Bool → List ℕ → Option (List ℕ) → Option (List ℕ) → PreviewError → Type 0
  CutsPatch keeps x old new (Stopped fault) = (counts : Option Counts) × (y : List ℕ) × MakesFirst x counts y × HasRoom keeps x y
      × WritesPrefix old new (patch_text Bytes x y) fault × IsFaultFor x y fault
  CutsPatch keeps x old new unpreviewed = ⊥

  -- why the patch is not whole: nothing was compared, and nothing was written; or a prefix was
  abbrev pub StopsChange : Bool → List ℕ → Option (List ℕ) → Option (List ℕ) → PreviewError → Type 0
  StopsChange keeps x old new unpreviewed = (StopsBefore keeps x unpreviewed × (new ≡ old)) ⊎ CutsPatch keeps x old new unpreviewed

-- whether a file is a block device
abbrev pub is_block : Kind → Bool
is_block Regular = false
is_block Block = true
is_block Other = false

-- whether a file keeps its length: a block device does; a file that is missing would be made
abbrev pub has_fixed_length : Option Stat → Bool
has_fixed_length found = option_map_or (λ (image : Stat). is_block image.kind) found false

-- why a file that is there is not opened: it may not be read by the rule, or the system counted a call that it refused
abbrev pub MayNotOpen : List ℕ → Type 0 → SystemState → OpenFailure → Type 0
MayNotOpen name counted w why = IsReason ⊥ (IsUnfitToRead w name) ⊥ counted why

module _ {R : Type 0} (remaining : R → Option (List ℕ)) (name : List ℕ) (task : Task R) where
  -- what the name leads to may be read, and the patch was written from what it holds, which is nothing where it is missing
  abbrev pub WritesPreview : SystemState → Option Counts → Option (List ℕ) → Option (List ℕ) → Type 0
  WritesPreview w counts old new =
      MayBeRead w name × WritesChange remaining task (has_fixed_length (stat_named w name)) (held w name) counts old new

  -- why it was not: the file was not opened, and nothing was written; or the patch is not whole
  abbrev pub StopsPreview : Type 0 → SystemState → Option (List ℕ) → Option (List ℕ) → PreviewError → Type 0
  StopsPreview counted w old new (Unopened why) = MayNotOpen name counted w why × (new ≡ old)
  StopsPreview counted w old new unpreviewed =
      MayBeRead w name × StopsChange remaining task (has_fixed_length (stat_named w name)) (held w name) old new unpreviewed

-- A preview writes the patch from what the image has, nothing where it is missing, to what the machine's step would make of it, or a front of it and
-- says why; an image that isn't opened may not be read by the rule, or the system counted a call that it refused
abbrev pub DoesPreview : {R : Type 0} → (R → Option (List ℕ)) → List ℕ → Task R → Result (Option Counts) PreviewError → RunState → RunState → Type 0
DoesPreview remaining name task outcome old new =
    MatchResult outcome (λ counts. WritesPreview remaining name task old.state counts old.written new.written)
    (StopsPreview remaining name task (old.refusals < new.refusals) old.state old.written new.written)

-- whether a preview was stopped by a device of the image, or refused by the fault of one
abbrev pub is_preview_failed : {V : Type 0} → Result V PreviewError → Bool
is_preview_failed (Err (Refused fault)) = is_device_fault fault
is_preview_failed (Err (Stopped fault)) = is_read_failure fault
is_preview_failed outcome = false
