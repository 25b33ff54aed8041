-- Runs in which no device fails.
use Rattle.std.proofs.Common.{◌≡◌, inl, inr, ℕ, suc, Option, None, Some, Result, Ok, Err, List, [], ◌∷◌, refl, subst, arith, All}
use Rattle.bx_image.specs.declared.change.Change.{Change}
use Rattle.bx_image.specs.declared.device.Device.{Ghosts as DeviceViews}
use Rattle.bx_journal_store.specs.declared.store.TextStore.{Ghosts as StoreViews}
use Rattle.bx_read.specs.declared.fault.ReadFault.{ReadFault}
use Rattle.bx_journal.specs.SessionFault.{SessionFault}
use Rattle.bx_journal.specs.SessionFault.TheVariants.{NoMemory, TooLarge, DeviceFailed, Damaged, TooFew, JournalFull, Interrupted, Broken, LengthDiffers, NothingToRedo, RedoDamaged}
use Rattle.bx_cli_commands.specs.declared.command.Command.{Command}
use Rattle.bx_cli_commands.specs.declared.command.Command.TheVariants.{Revert, RevertPlain, Dd, Copy, Patch, Undo, Redo}
use Rattle.bx_cli_commands.specs.declared.command.Reply.{Reply}
use Rattle.bx_cli_commands.specs.declared.command.Reply.TheVariants.{Undone, Redone}
use Rattle.bx_journal.specs.Images.{Images}
use Rattle.bx_journal.specs.SessionView.{SessionView}
use Rattle.bx_cli_commands.specs.Standing.{Standing, HoldsAt, PerformUp, RestsAt}
use Rattle.bx_dd.specs.declared.counts.Counts.{Counts}
use Rattle.bx_dd.specs.declared.fault.DdFault.{DdFault}
use Rattle.bx_cli_commands.specs.declared.changes.DdChange.{DdChange}
use Rattle.bx_patch.specs.Patch.{Asked, patch_change}
use Rattle.bx_patch.specs.Read.{asked_of}
use Rattle.bx_cli_commands.specs.Run.{answered, PatchStep, ReadStep, DdStep, CommandStep, CommandRun, StackRun, Unfailed, made_reply, ChangeStep, RedoUp, UndoUp}
use Rattle.bx_cli_commands.specs.Command.{dump_change, plain_change}
use Rattle.bx_read.specs.Plain.{plain_answer}
use Rattle.bx_read.specs.Text.{dump_pieces}
use Rattle.bx_cli_commands.proofs.Steps.{true_is_not_false}

abbrev IsUp : Standing → Type 0
IsUp s = (top : Images) × (s ≡ Standing.Up top)

-- a reply that tells of no failure
told : (reply other : Reply) → reply ≡ other → Unfailed reply → Unfailed other
told reply other e h = subst Unfailed e h

perform_up : {A : Type 0} (old : Images) (c : Change A) (counts : Option Counts) (r : Result ℕ SessionFault) (after : Standing) → Unfailed (answered (made_reply counts) r) → PerformUp c old r after → IsUp after
perform_up old c counts (Ok n) after unfailed p = (p.0, p.1)
perform_up old c counts (Err NoMemory) after unfailed p = (old, p.0)
perform_up old c counts (Err TooLarge) after unfailed p = (old, p.0)
perform_up old c counts (Err DeviceFailed) after unfailed p = (old, p)
perform_up old c counts (Err (Damaged line)) after unfailed p = (old, p.0)
perform_up old c counts (Err (TooFew have)) after unfailed p = (old, p.0)
perform_up old c counts (Err JournalFull) after unfailed p = (old, p.1)
perform_up old c counts (Err Interrupted) after unfailed p = absurd (true_is_not_false unfailed)
perform_up old c counts (Err Broken) after unfailed p = (old, p.0)
perform_up old c counts (Err (LengthDiffers expected)) after unfailed p = (old, p.0)
perform_up old c counts (Err (NothingToRedo have)) after unfailed p = (old, p.0)
perform_up old c counts (Err (RedoDamaged line)) after unfailed p = (old, p.0)

undo_up : (old : Images) (k : ℕ) (r : Result ℕ SessionFault) (after : Standing) → Unfailed (answered Undone r) → UndoUp k old r after → IsUp after
undo_up old k (Ok left) after unfailed p = (p.0, p.1)
undo_up old k (Err NoMemory) after unfailed p = (old, p.0)
undo_up old k (Err TooLarge) after unfailed p = (old, p.0)
undo_up old k (Err DeviceFailed) after unfailed p = (old, p)
undo_up old k (Err (Damaged line)) after unfailed p = (old, p.0)
undo_up old k (Err (TooFew have)) after unfailed p = (old, p.0)
undo_up old k (Err JournalFull) after unfailed p = (old, p.0)
undo_up old k (Err Interrupted) after unfailed p = absurd (true_is_not_false unfailed)
undo_up old k (Err Broken) after unfailed p = (old, p.0)
undo_up old k (Err (LengthDiffers expected)) after unfailed p = (old, p.0)
undo_up old k (Err (NothingToRedo have)) after unfailed p = (old, p.0)
undo_up old k (Err (RedoDamaged line)) after unfailed p = (old, p.0)

redo_up : (old : Images) (j : ℕ) (r : Result ℕ SessionFault) (after : Standing) → Unfailed (answered Redone r) → RedoUp j old r after → IsUp after
redo_up old j (Ok n) after unfailed p = (p.0, p.1)
redo_up old j (Err NoMemory) after unfailed p = (old, p.0)
redo_up old j (Err TooLarge) after unfailed p = (old, p.0)
redo_up old j (Err DeviceFailed) after unfailed p = (old, p)
redo_up old j (Err (Damaged line)) after unfailed p = (old, p.0)
redo_up old j (Err (TooFew have)) after unfailed p = (old, p.0)
redo_up old j (Err JournalFull) after unfailed p = (old, p.0)
redo_up old j (Err Interrupted) after unfailed p = absurd (true_is_not_false unfailed)
redo_up old j (Err Broken) after unfailed p = (old, p.0)
redo_up old j (Err (LengthDiffers expected)) after unfailed p = (old, p.0)
redo_up old j (Err (NothingToRedo have)) after unfailed p = (old, p.0)
redo_up old j (Err (RedoDamaged line)) after unfailed p = (old, p.0)

change_up : {A : Type 0} (old : Images) (c : Change A) (counts : Option Counts) (reply : Reply) (after : Standing) → Unfailed reply → ChangeStep (Standing.Up old) c counts reply after → IsUp after
change_up old c counts reply after unfailed step = perform_up old c counts step.0 after (told reply (answered (made_reply counts) step.0) step.1 unfailed) step.2

read_up : {A B : Type 0} (old : Images) (change : B → Change A) (r : Result B ReadFault) (reply : Reply) (after : Standing)
    → Unfailed reply → ReadStep (Standing.Up old) change r reply after → IsUp after
read_up old change (Ok read) reply after unfailed step = change_up old (change read) None reply after unfailed step
read_up old change (Err e) reply after unfailed step = (old, step.1)

dd_up : {A : Type 0} (old : Images) (r : Result (DdChange A) DdFault) (reply : Reply) (after : Standing)
    → Unfailed reply → DdStep (Standing.Up old) r reply after → IsUp after
dd_up old (Ok made) reply after unfailed step = change_up old made.change (Some made.counts) reply after unfailed step
dd_up old (Err e) reply after unfailed step = (old, step.1)

patch_up : {A : Type 0} (old : Images) (p : Asked) (reply : Reply) (after : Standing) → Unfailed reply → PatchStep A (Standing.Up old) p reply after → IsUp after
patch_up old p reply after unfailed (inl refused) = (old, refused.1)
patch_up old p reply after unfailed (inr (inl failed)) = (old, failed.1)
patch_up {A = A} old p reply after unfailed (inr (inr (None, agrees, step))) = change_up old (patch_change {A = A} p) None reply after unfailed step
patch_up old p reply after unfailed (inr (inr (Some other, has, step))) = (old, step.1)

pub step_up : {R A : Type 0} (remaining : R → Option (List ℕ)) (old : Images) (c : Command R A) (reply : Reply) (after : Standing) → Unfailed reply → CommandStep remaining (Standing.Up old) c reply after → IsUp after
step_up {A = A} remaining old (Revert text offset) reply after unfailed step = elim step as (λ _. IsUp after) [
  | inl refused ↦ (old, refused.1)
  | inr read ↦ read_up old (dump_change {A = A} offset) (dump_pieces text) reply after unfailed read
]
step_up {A = A} remaining old (RevertPlain text at) reply after unfailed step = elim step as (λ _. IsUp after) [
  | inl refused ↦ (old, refused.1)
  | inr read ↦ read_up old (plain_change {A = A} at) (plain_answer text) reply after unfailed read
]
step_up remaining old (Dd operands input) reply after unfailed step = dd_up old step.1.0 reply after unfailed step.1.1.1
step_up remaining old (Copy plan input) reply after unfailed step = dd_up old step.1.0 reply after unfailed step.1.1.1
step_up {A = A} remaining old (Patch patch) reply after unfailed step = patch_up {A = A} old (asked_of patch) reply after unfailed step
step_up remaining old (Undo k) reply after unfailed step = undo_up old k step.0 after (told reply (answered Undone step.0) step.1 unfailed) step.2
step_up remaining old (Redo j) reply after unfailed step = redo_up old j step.0 after (told reply (answered Redone step.0) step.1 unfailed) step.2

pub all_tail : {X : Type 0} (P : X → Type 0) (x : X) (xs : List X) → All P (x ∷ xs) → All P xs
all_tail P x xs all k d within = all (suc k) d (omega arith)

abbrev Ends : {R A : Type 0} → (R → Option (List ℕ)) → Images → List (Command R A) → List Reply → Standing → Type 0
Ends remaining start list replies after = (top : Images) × (after ≡ Standing.Up top) × StackRun remaining start list replies top

pub unfailed_runs : {R A : Type 0} (remaining : R → Option (List ℕ)) (start : Images) (after : Standing) (list : List (Command R A)) (replies : List Reply)
    → CommandRun remaining (Standing.Up start) list replies after → All Unfailed replies → Ends remaining start list replies after
unfailed_runs remaining start after [] [] run all = (start, run, refl)
unfailed_runs remaining start after [] (p ∷ replies) run all = absurd run
unfailed_runs remaining start after (c ∷ list) [] run all = absurd run
unfailed_runs remaining start after (c ∷ list) (p ∷ replies) (now, step, rest) all =
    let unfailed : Unfailed p = all 0 p (omega arith) in
    let up = step_up remaining start c p now unfailed step in
    let Step : Standing → Type 0 = λ s. CommandStep remaining (Standing.Up start) c p s in
    let Rest : Standing → Type 0 = λ s. CommandRun remaining s list replies after in
    let later = unfailed_runs remaining up.0 after list replies (subst Rest up.1 rest) (all_tail Unfailed p replies all) in
    (later.0, later.1, (up.0, (subst Step up.1 step, unfailed), later.2))

-- a session whose devices didn't fail stands where the images' run ends
pub stands_at_top : {D T R A : Type 0} (d : DeviceViews D) (t : StoreViews T) (remaining : R → Option (List ℕ)) (new : SessionView D T) (start : Images) (list : List (Command R A)) (replies : List Reply)
    → ((after : Standing) × HoldsAt d t new after × CommandRun remaining (Standing.Up start) list replies after)
    → All Unfailed replies
    → (top : Images) × RestsAt d.image t.text new top × StackRun remaining start list replies top
stands_at_top d t remaining new start list replies run unfailed =
    let ends = unfailed_runs remaining start run.0 list replies run.2 unfailed in
    let Holds : Standing → Type 0 = λ s. HoldsAt d t new s in
    let stands = (subst Holds ends.1 run.1).3 in
    (ends.0, stands, ends.2)
