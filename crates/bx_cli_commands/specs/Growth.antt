-- A change that isn't to make its image longer.
use Rattle.std.specs.Prelude.{◌≡◌, ◌⊎◌, ◌<◌, ◌≤◌, ℕ, Option, None, Some, List, length}
use Rattle.bx_image.specs.declared.change.Change.{Change as ChangeOf}
use Rattle.bx_image.specs.declared.change.TheConstants.{MAX_LEN}
use Rattle.bx_image.specs.Change.{Fits, effect}
use Rattle.bx_journal.specs.Images.{Images}
use Rattle.bx_journal.specs.Machine.{top}
use Rattle.bx_journal.specs.SessionFault.TheVariants.{DeviceFailed, Broken}
use Rattle.bx_patch.specs.declared.other.Other.{Other}
use Rattle.bx_patch.specs.Other.{FindsOther}
use Rattle.bx_patch.specs.Patch.{Asked, patch_change}
use Rattle.bx_patch.specs.Read.{asked_of}
use Rattle.bx_cli_commands.specs.declared.command.Kept.{Kept}
use Rattle.bx_cli_commands.specs.declared.command.Kept.TheVariants.{Change, Patch}
use Rattle.bx_cli_commands.specs.declared.command.Reply.{Reply}
use Rattle.bx_cli_commands.specs.declared.command.Reply.TheVariants.{Refused}
use Rattle.bx_cli_commands.specs.declared.fault.Fault.{Fault}
use Rattle.bx_cli_commands.specs.declared.fault.Fault.TheVariants.{Disagrees, Grows, Session}
use Rattle.bx_cli_commands.specs.Power.{IsChanged}
use Rattle.bx_cli_commands.specs.Run.{ChangeStep}
use Rattle.bx_cli_commands.specs.Standing.{Standing}

-- the change makes the image longer, and the fault has both lengths
abbrev pub Lengthens : {A : Type 0} → ChangeOf A → List ℕ → Fault → Type 0
Lengthens c x (Grows has wanted) = Fits c (length x) MAX_LEN × (has ≡ length x) × (wanted ≡ length (effect c x)) × (has < wanted)
Lengthens c x fault = ⊥

-- the change doesn't make the image longer, if it can be made of it
abbrev pub LengthensNot : {A : Type 0} → ChangeOf A → List ℕ → Type 0
LengthensNot c x = Fits c (length x) MAX_LEN → length (effect c x) ≤ length x

-- A change of the newest image: where it would make that longer it is refused, and else it is made. A device that fails where the length is asked for
-- refuses it too.
abbrev pub WithinStep : {A : Type 0} → Standing → ChangeOf A → Reply → Standing → Type 0
WithinStep (Standing.Up old) c reply after = ((reply ≡ Refused (Session DeviceFailed)) × (after ≡ Standing.Up old))
    ⊎ (((fault : Fault) × (reply ≡ Refused fault) × Lengthens c (top old.stack) fault × (after ≡ Standing.Up old))
    ⊎ (LengthensNot c (top old.stack) × ChangeStep (Standing.Up old) c None reply after))
WithinStep (Standing.Down old) c reply after = (reply ≡ Refused (Session Broken)) × (after ≡ Standing.Down old)

-- what the newest image has otherwise than a patch expects refuses its change before it is asked how long it gets
abbrev pub FoundWithin : {A : Type 0} → ChangeOf A → Images → Option Other → Reply → Standing → Type 0
FoundWithin c old None reply after = WithinStep (Standing.Up old) c reply after
FoundWithin c old (Some other) reply after = (reply ≡ Refused (Disagrees other)) × (after ≡ Standing.Up old)

-- a patch of the newest image, which isn't to get longer
abbrev pub PatchWithin : (A : Type 0) → Standing → Asked → Reply → Standing → Type 0
PatchWithin A (Standing.Up old) p reply after = ((reply ≡ Refused (Session DeviceFailed)) × (after ≡ Standing.Up old))
    ⊎ ((found : Option Other) × FindsOther p (top old.stack) found × FoundWithin (patch_change {A = A} p) old found reply after)
PatchWithin A (Standing.Down old) p reply after = (reply ≡ Refused (Session Broken)) × (after ≡ Standing.Down old)

-- One change that isn't to make the newest image longer
abbrev pub KeptStep : {A : Type 0} → Standing → Kept A → Reply → Standing → Type 0
KeptStep before (Change c) reply after = WithinStep before c reply after
KeptStep {A = A} before (Patch patch) reply after = PatchWithin A before (asked_of patch) reply after

-- the newest of the one images is no longer than the newest of the others
abbrev pub IsNoLonger : Images → Images → Type 0
IsNoLonger old new = length (top new.stack) ≤ length (top old.stack)

-- what is found of such a change that was stopped: nothing of it, or all, and the image is no longer
abbrev pub IsPartWithin : {A : Type 0} → Kept A → Images → Images → Type 0
IsPartWithin (Change c) s found = IsChanged c s found × IsNoLonger s found
IsPartWithin {A = A} (Patch patch) s found = IsChanged (patch_change {A = A} (asked_of patch)) s found × IsNoLonger s found
