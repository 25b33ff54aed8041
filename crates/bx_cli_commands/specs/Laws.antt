-- Laws of runs.
use Rattle.std.specs.Prelude.{◌≡◌, ◌≤◌, ◌-◌, ℕ, List, [], ◌∷◌, ◌++◌, length, Option, All}
use Rattle.bx_image.specs.declared.device.Device.{Ghosts as DeviceViews}
use Rattle.bx_journal_store.specs.declared.store.TextStore.{Ghosts as StoreViews}
use Rattle.bx_journal.specs.Images.{Images, undo_of}
use Rattle.bx_journal.specs.Machine.{changes_of}
use Rattle.bx_journal.specs.Session.{IsUnfailed}
use Rattle.bx_journal.specs.SessionView.{SessionView}
use Rattle.bx_cli_commands.specs.declared.command.Command.{Command}
use Rattle.bx_cli_commands.specs.declared.command.Command.TheVariants.{Undo, Redo}
use Rattle.bx_cli_commands.specs.declared.command.Kept.{Kept}
use Rattle.bx_cli_commands.specs.declared.command.Reply.{Reply}
use Rattle.bx_cli_commands.specs.declared.command.Reply.TheVariants.{Changed, Copied, Undone, Redone, Refused}
use Rattle.bx_cli_commands.specs.Standing.{Shows, Standing}
use Rattle.bx_cli_commands.specs.Growth.{IsNoLonger, KeptStep}
use Rattle.bx_cli_commands.specs.Power.{FindsPart, images_of}
use Rattle.bx_cli_commands.specs.Run.{CommandRun, Runs, StackRun, StackStep, Unfailed}

-- the runs of two lists, one from where the other ends, are a run of both
abbrev pub RunsJoin : (R A : Type 0) → (R → Option (List ℕ)) → Type 0
RunsJoin R A remaining = (start middle after : Standing) (xs ys : List (Command R A)) (ps qs : List Reply)
    → CommandRun remaining start xs ps middle → CommandRun remaining middle ys qs after → CommandRun remaining start (xs ++ ys) (ps ++ qs) after

-- the same of runs in which no device fails, from images to images
abbrev pub StackRunsJoin : (R A : Type 0) → (R → Option (List ℕ)) → Type 0
StackRunsJoin R A remaining = (start middle after : Images) (xs ys : List (Command R A)) (ps qs : List Reply)
    → StackRun remaining start xs ps middle → StackRun remaining middle ys qs after → StackRun remaining start (xs ++ ys) (ps ++ qs) after

-- a run in which no device fails goes from images to images
abbrev pub UnfailedRuns : (R A : Type 0) → (R → Option (List ℕ)) → Type 0
UnfailedRuns R A remaining = (start : Images) (after : Standing) (list : List (Command R A)) (replies : List Reply)
    → CommandRun remaining (Standing.Up start) list replies after → All Unfailed replies
    → (top : Images) × (after ≡ Standing.Up top) × StackRun remaining start list replies top

-- a run ends at the images after the commands that were answered, or at a part of the one that was stopped
abbrev pub StopsInPart : (R A : Type 0) → (R → Option (List ℕ)) → Type 0
StopsInPart R A remaining = (start : Images) (after : Standing) (list : List (Command R A)) (replies : List Reply)
    → CommandRun remaining (Standing.Up start) list replies after → FindsPart remaining start list replies (images_of after)

-- the reply says that a change was made
abbrev pub IsMade : Reply → Type 0
IsMade (Changed n) = Unit {0}
IsMade (Copied n counts) = Unit {0}
IsMade (Undone left) = ⊥
IsMade (Redone n) = ⊥
IsMade (Refused e) = ⊥

-- a run on faithful devices, none of whose calls fails
abbrev pub RunsOn : {D T R A : Type 0} → DeviceViews D → StoreViews T → (R → Option (List ℕ)) → SessionView D T → List (Command R A) → List Reply
    → SessionView D T → Type 0
RunsOn d t remaining old list replies new = d.faithful old.image × t.faithful old.journal × t.faithful old.redo × IsUnfailed d.failures t.failures old new
    × Runs d t (Shows d.image t.text) remaining old list replies new

-- behind changes that were all made, an undo of as many that is made leads back to the first stack, so to its image
abbrev pub UndoGivesBack : (R A : Type 0) → (R → Option (List ℕ)) → Type 0
UndoGivesBack R A remaining = (start changed after : Images) (list : List (Command R A)) (replies : List Reply) (left : ℕ)
    → StackRun remaining start list replies changed → All IsMade replies
    → StackStep {R = R} {A = A} remaining changed (Undo (length list)) (Undone left) after
    → (after.stack ≡ start.stack) × (left ≡ changes_of start.stack)

-- an undo of k and a redo of k behind it that are both made lead back to the same images, those that stand and those undone
abbrev pub RedoGivesBack : (R A : Type 0) → (R → Option (List ℕ)) → Type 0
RedoGivesBack R A remaining = (start undone after : Images) (k left changes : ℕ)
    → StackStep {R = R} {A = A} remaining start (Undo k) (Undone left) undone
    → StackStep {R = R} {A = A} remaining undone (Redo k) (Redone changes) after
    → (after ≡ start) × (changes ≡ changes_of start.stack)

-- an undo of k that is made, and a redo after it of no more than k, lead where an undo of the others does
abbrev pub RedoGivesPart : (R A : Type 0) → (R → Option (List ℕ)) → Type 0
RedoGivesPart R A remaining = (start undone after : Images) (k j left changes : ℕ) → j ≤ k
    → StackStep {R = R} {A = A} remaining start (Undo k) (Undone left) undone
    → StackStep {R = R} {A = A} remaining undone (Redo j) (Redone changes) after
    → after ≡ undo_of (k - j) start

-- Behind k changes that were all made, an undo of k that is made leads back to the first stack, and the image of the device is the first one: on
-- faithful devices, none of whose calls fails, from any images that the first session shows
abbrev pub KChangesAndUndo : {D T : Type 0} → DeviceViews D → StoreViews T → (R A : Type 0) → (R → Option (List ℕ)) → Type 0
KChangesAndUndo {D = D} {T = T} d t R A remaining = (old changed new : SessionView D T) (list : List (Command R A)) (replies : List Reply) (left : ℕ) (start : Images)
    → Shows d.image t.text old start → RunsOn d t remaining old list replies changed → All IsMade replies
    → RunsOn {R = R} {A = A} d t remaining changed (Undo (length list) ∷ []) (Undone left ∷ []) new
    → ((after : Images) × Shows d.image t.text new after × (after.stack ≡ start.stack)) × (d.image new.image ≡ d.image old.image)

-- behind a change that isn't to make the image longer none is longer, whatever the images were: neither the newest one, nor the one that opening finds
-- where it was stopped
abbrev pub KeptNeverGrows : Type 0 → Type 0
KeptNeverGrows A = (old : Images) (kept : Kept A) (reply : Reply) (after : Standing) → KeptStep (Standing.Up old) kept reply after
    → IsNoLonger old (images_of after)
