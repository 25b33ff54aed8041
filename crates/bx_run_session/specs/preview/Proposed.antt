-- The change that is proposed of an image.
use Rattle.std.specs.Prelude.{◌≡◌, ◌⊎◌, ◌<◌, ◌≤◌, ℕ, Bool, true, false, List, length, Option, Result, Err}
use Rattle.std.specs.Result.{MatchResult}
use Rattle.std.specs.Io.KnownBytes.{Appends}
use Rattle.bx_image.specs.Change.{Fits, effect}
use Rattle.bx_image.specs.declared.change.Change.{Change}
use Rattle.bx_image.specs.declared.change.TheConstants.{MAX_LEN}
use Rattle.bx_image.specs.declared.device.ImageFault.{ImageFault}
use Rattle.bx_image.specs.declared.device.ImageFault.TheVariants as image
use Rattle.bx_dd.specs.declared.counts.Counts.{Counts}
use Rattle.bx_patch.specs.Diff.{IsFaultFor, WritesPrefix}
use Rattle.bx_patch.specs.Other.{HasOther}
use Rattle.bx_patch.specs.Patch.{Agrees, Asked, patch_change}
use Rattle.bx_patch.specs.Read.{asked_of}
use Rattle.bx_patch.specs.Text.{patch_text}
use Rattle.bx_patch.specs.declared.diff.fault.DiffFault.{DiffFault}
use Rattle.bx_patch.specs.declared.diff.fault.DiffFault.TheVariants.{NewFailed, NoMemory, OldFailed, TooLarge as DiffTooLarge}
use Rattle.bx_patch.specs.declared.diff.row.Extent.TheVariants.{Bytes}
use Rattle.bx_journal.specs.Forgotten.{only}
use Rattle.bx_journal.specs.SessionFault.{SessionFault}
use Rattle.bx_journal.specs.SessionFault.TheVariants.{TooLarge}
use Rattle.bx_cli_commands.specs.Growth.{Lengthens, LengthensNot}
use Rattle.bx_cli_commands.specs.declared.command.Kept.{Kept}
use Rattle.bx_cli_commands.specs.declared.command.Kept.TheVariants.{Change as OfChange, Patch as OfPatch}
use Rattle.bx_cli_commands.specs.Run.{answered, made_reply}
use Rattle.bx_cli_commands.specs.Standing.{PerformUp, Standing}
use Rattle.bx_cli_commands.specs.declared.fault.Fault.TheVariants.{Disagrees, Session}
use Rattle.bx_run_session.specs.session.Task.{TaskStep}
use Rattle.bx_run_session.specs.preview.Previews.{HasRoom, Refuses}
use Rattle.bx_run_session.specs.declared.session.task.Task.{Task}
use Rattle.bx_run_session.specs.declared.preview.error.PreviewError.{PreviewError}
use Rattle.bx_run_session.specs.declared.preview.error.PreviewError.TheVariants.{Refused, Stopped, Unfitting, Unopened}

-- whether the device of the image failed
abbrev pub failed_image : {V : Type 0} → Result V PreviewError → Bool
failed_image (Err (Stopped OldFailed)) = true
failed_image result = false

-- the change is what is proposed: each step of the session for it, from an image alone, is one of the task
abbrev pub IsProposedChange : {R A : Type 0} → (R → Option (List ℕ)) → Task R → List ℕ → Change A → Option Counts → Type 0
IsProposedChange remaining task x change counts = (r : Result ℕ SessionFault) (after : Standing) → PerformUp change (only x) r after
    → TaskStep remaining (Standing.Up (only x)) task (answered (made_reply counts) r) after

-- what an image has otherwise than a patch expects, or that its device failed
abbrev pub IsUnagreed : Asked → List ℕ → PreviewError → Type 0
IsUnagreed p x (Refused (Disagrees other)) = HasOther p x other
IsUnagreed p x (Stopped fault) = fault ≡ OldFailed
IsUnagreed p x unpreviewed = ⊥

-- why a change that isn't to make the image longer isn't made: it would, and the fault has both lengths, or the image's device failed
abbrev pub IsGrown : {A : Type 0} → Change A → List ℕ → PreviewError → Type 0
IsGrown c x (Refused fault) = Lengthens c x fault
IsGrown c x (Stopped fault) = fault ≡ OldFailed
IsGrown c x unpreviewed = ⊥

-- the change is one that doesn't make the image longer; a patch's is its change, and the image agrees with it
abbrev pub IsKeptChange : {A : Type 0} → Kept A → List ℕ → Change A → Type 0
IsKeptChange (OfChange c) x change = (change ≡ c) × LengthensNot c x
IsKeptChange (OfPatch patch) x change =
    (change ≡ patch_change (asked_of patch)) × Agrees (asked_of patch) x × LengthensNot change x

-- why there is none: the image disagrees with the patch, or would get longer, or its device failed
abbrev pub IsUnkept : {A : Type 0} → Kept A → List ℕ → PreviewError → Type 0
IsUnkept (OfChange c) x why = IsGrown c x why
IsUnkept {A = A} (OfPatch patch) x why =
    IsUnagreed (asked_of patch) x why ⊎ (Agrees (asked_of patch) x × IsGrown (patch_change {A = A} (asked_of patch)) x why)

-- why there is no change: the machine's step refuses what is proposed, or the device of the image failed
abbrev pub HasNoChange : {R : Type 0} → (R → Option (List ℕ)) → Task R → List ℕ → PreviewError → Type 0
HasNoChange remaining task x (Refused fault) = Refuses remaining task x fault
HasNoChange remaining task x (Stopped fault) = fault ≡ OldFailed
HasNoChange remaining task x unpreviewed = ⊥

-- the change can be made of the image, and what it makes is no longer than an image can be
abbrev pub IsMakeable : {A : Type 0} → Change A → List ℕ → Type 0
IsMakeable change x = Fits change (length x) MAX_LEN × (length (effect change x) ≤ MAX_LEN)

-- so it is, and the image has room for what it makes
abbrev pub IsFitting : {A : Type 0} → Change A → Bool → List ℕ → Type 0
IsFitting change keeps x = IsMakeable change x × HasRoom keeps x (effect change x)

-- what stops the comparison where there is no image behind the change
abbrev pub unchanged_for : ImageFault → DiffFault
unchanged_for image.NoMemory = NoMemory
unchanged_for image.TooLarge = DiffTooLarge
unchanged_for image.DeviceFailed = NewFailed

-- the comparison of an image with what the change makes of it is whole, or a prefix of the patch was written
abbrev pub IsCompared : {A : Type 0} → Change A → List ℕ → Result (Unit {0}) DiffFault → Option (List ℕ) → Option (List ℕ) → Type 0
IsCompared change x outcome old new = MatchResult outcome (λ _. Appends old new (patch_text Bytes x (effect change x)))
    (λ fault. WritesPrefix old new (patch_text Bytes x (effect change x)) fault × (IsMakeable change x → IsFaultFor x (effect change x) fault))

-- why it can't: no image can be so long, the image keeps its length and is shorter, or its device failed
abbrev pub IsTooLong : {A : Type 0} → Change A → Bool → List ℕ → PreviewError → Type 0
IsTooLong change keeps x (Refused fault) = (fault ≡ Session TooLarge) × (Fits change (length x) MAX_LEN → ⊥)
IsTooLong change keeps x (Unfitting has wanted) =
    Fits change (length x) MAX_LEN × (keeps ≡ true) × (has ≡ length x) × (wanted ≡ length (effect change x)) × (has < wanted)
IsTooLong change keeps x (Stopped fault) = fault ≡ OldFailed
IsTooLong change keeps x (Unopened why) = ⊥
