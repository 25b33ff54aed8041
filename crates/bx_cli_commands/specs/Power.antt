-- What opening finds after commands and a loss of power.
use Rattle.std.specs.Prelude.{◌≡◌, ◌⊎◌, ◌≤◌, ℕ, true, Option, Ok, List, [], ◌∷◌, All}
use Rattle.bx_image.specs.declared.change.Change.{Change}
use Rattle.bx_image.specs.Change.{effect}
use Rattle.bx_patch.specs.Patch.{Agrees, patch_change}
use Rattle.bx_patch.specs.Read.{asked_of}
use Rattle.bx_read.specs.Plain.{plain_answer}
use Rattle.bx_read.specs.Text.{dump_pieces}
use Rattle.bx_image.specs.declared.device.Device.{Ghosts as DeviceViews}
use Rattle.bx_journal_store.specs.declared.store.TextStore.{Ghosts as StoreViews}
use Rattle.bx_journal.specs.Images.{Images, change_to, redo_of, undo_of}
use Rattle.bx_journal.specs.Machine.{top}
use Rattle.bx_journal.specs.Power.{Found, Survive}
use Rattle.bx_journal.specs.SessionView.{SessionView}
use Rattle.bx_journal.specs.SessionFault.TheVariants.{Interrupted}
use Rattle.bx_cli_commands.specs.declared.command.Command.{Command}
use Rattle.bx_cli_commands.specs.declared.command.Command.TheVariants.{Copy, Dd, Patch, Redo, Revert, RevertPlain, Undo}
use Rattle.bx_cli_commands.specs.declared.command.Reply.{Reply}
use Rattle.bx_cli_commands.specs.declared.command.Reply.TheVariants.{Refused}
use Rattle.bx_cli_commands.specs.declared.fault.Fault.TheVariants.{Session}
use Rattle.bx_cli_commands.specs.declared.changes.DdChange.{DdChange}
use Rattle.bx_cli_commands.specs.Command.{dump_change, plain_change}
use Rattle.bx_cli_commands.specs.Copy.{MakesCopy, MakesBy}
use Rattle.bx_cli_commands.specs.Refusal.{IsWholeRefusal}
use Rattle.bx_cli_commands.specs.Run.{CommandRun, CommandStep}
use Rattle.bx_cli_commands.specs.Standing.{HoldsAt, Standing}

-- the images of a session that goes on, or those that opening finds of one that was stopped
abbrev pub images_of : Standing → Images
images_of (Standing.Up images) = images
images_of (Standing.Down images) = images

-- Of sessions whose device has an image and may be found with others, and whose stores have a text and may be found with others.
module _ {D T : Type 0} (d : DeviceViews D) (t : StoreViews T) where
  -- the session goes on and stands for these images, or it was stopped
  abbrev pub IsAt : SessionView D T → Standing → Type 0
  IsAt s (Standing.Up images) = HoldsAt d t s (Standing.Up images)
  IsAt s (Standing.Down images) = s.is_broken ≡ true

  -- Whatever is found of the session's devices, opening finds the images of an end that is allowed. Where the session goes on, it stands for them.
  abbrev pub FindsEnd : SessionView D T → (Standing → Type 0) → Type 0
  FindsEnd s Allowed = Survive d.image d.survives t.text t.survives s (λ new x redo.
      (after : Standing) × Allowed after × Found new x redo (images_of after) × IsAt s after)

  -- Whatever is found after a list of commands is an end of a run with these replies. Where all of them were refused, and none
  -- was stopped in the middle of writing, that is so if before them nothing was found but the images for which the session stood.
  abbrev pub RunFinds : {R A : Type 0} → (R → Option (List ℕ)) → SessionView D T → List (Command R A) → List Reply → SessionView D T → Type 0
  RunFinds remaining old list replies new = (before : Standing) → HoldsAt d t old before
      → (All IsWholeRefusal replies → Survive d.image d.survives t.text t.survives old (λ new x redo. Found new x redo (images_of before)))
      → FindsEnd new (CommandRun remaining before list replies)

-- the images are as they were, or as the change makes them
abbrev pub IsChanged : {A : Type 0} → Change A → Images → Images → Type 0
IsChanged c s found = (found ≡ s) ⊎ (found ≡ change_to (effect c (top s.stack)) s)

-- what is found of a command that was stopped: nothing of it, the change that it asks for, or i of the k that it takes back or makes again
abbrev pub IsPart : {R A : Type 0} → (R → Option (List ℕ)) → Command R A → Images → Images → Type 0
IsPart {A = A} remaining (Revert text offset) s found =
    (pieces : List (ℕ × List ℕ)) × (dump_pieces text ≡ Ok pieces) × IsChanged (dump_change {A = A} offset pieces) s found
IsPart {A = A} remaining (RevertPlain text at) s found = (bytes : List ℕ) × (plain_answer text ≡ Ok bytes) × IsChanged (plain_change {A = A} at bytes) s found
IsPart {A = A} remaining (Dd operands input) s found =
    (left : Option (List ℕ)) × (made : DdChange A) × MakesCopy operands (remaining input) left (Ok made) × IsChanged made.change s found
IsPart {A = A} remaining (Copy plan input) s found =
    (left : Option (List ℕ)) × (made : DdChange A) × MakesBy plan (remaining input) left (Ok made) × IsChanged made.change s found
IsPart {A = A} remaining (Patch patch) s found =
    Agrees (asked_of patch) (top s.stack) × IsChanged (patch_change {A = A} (asked_of patch)) s found
IsPart remaining (Undo k) s found = (i : ℕ) × (i ≤ k) × (found ≡ undo_of i s)
IsPart remaining (Redo j) s found = (i : ℕ) × (i ≤ j) × (found ≡ redo_of i s)

-- What is found after a list of commands, from the images before it: those after all that were answered, or a part of one that was stopped
abbrev pub FindsPart : {R A : Type 0} → (R → Option (List ℕ)) → Images → List (Command R A) → List Reply → Images → Type 0
FindsPart remaining s [] [] found = found ≡ s
FindsPart remaining s (c ∷ list) (p ∷ replies) found = ((p ≡ Refused (Session Interrupted)) × IsPart remaining c s found)
    ⊎ ((now : Images) × CommandStep remaining (Standing.Up s) c p (Standing.Up now) × FindsPart remaining now list replies found)
FindsPart remaining s list replies found = ⊥
