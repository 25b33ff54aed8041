-- Steps that are refused, and steps that are stopped.
use Rattle.std.proofs.Common.{◌≡◌, ◌⊎◌, ◌≤◌, inl, inr, ℕ, Option, None, Some, Result, Ok, Err, List, [], ◌∷◌, refl, sym, ◌∙◌, ap, subst, arith, All}
use Rattle.std.proofs.lemmas.List.Elements.{All-cons, All-nil}
use Rattle.bx_image.specs.declared.change.Change.{Change}
use Rattle.bx_image.specs.Change.{effect}
use Rattle.bx_read.specs.declared.fault.ReadFault.{ReadFault}
use Rattle.bx_read.specs.Plain.{plain_answer}
use Rattle.bx_read.specs.Text.{dump_pieces}
use Rattle.bx_dd.specs.declared.counts.Counts.{Counts}
use Rattle.bx_dd.specs.declared.fault.DdFault.{DdFault}
use Rattle.bx_journal.specs.Images.{Images, change_to, redo_of, undo_of}
use Rattle.bx_journal.specs.Machine.{RedoStep, UndoStep, top}
use Rattle.bx_journal.specs.SessionFault.{SessionFault}
use Rattle.bx_journal.specs.SessionFault.TheVariants.{NoMemory, TooLarge, DeviceFailed, Damaged, TooFew, JournalFull, Interrupted, Broken, LengthDiffers, NothingToRedo, RedoDamaged}
use Rattle.bx_cli_commands.specs.declared.command.Command.{Command}
use Rattle.bx_cli_commands.specs.declared.command.Command.TheVariants.{Revert, RevertPlain, Dd, Copy, Patch, Undo, Redo}
use Rattle.bx_cli_commands.specs.declared.command.Reply.{Reply}
use Rattle.bx_cli_commands.specs.declared.command.Reply.TheVariants.{Changed, Copied, Undone, Redone, Refused}
use Rattle.bx_cli_commands.specs.declared.changes.DdChange.{DdChange}
use Rattle.bx_cli_commands.specs.declared.fault.Fault.{Fault}
use Rattle.bx_cli_commands.specs.declared.fault.Fault.TheVariants.{Io, Read, Behind, Dd, Patch, Disagrees, NotReversible, NothingToWrite, Session, Grows, ChangedSince, Usage, OpenFailed}
use Rattle.bx_cli_commands.specs.Command.{dump_change, plain_change}
use Rattle.bx_cli_commands.specs.Copy.{MakesCopy, MakesBy}
use Rattle.bx_cli_commands.specs.Power.{FindsPart, IsChanged, IsPart, images_of}
use Rattle.bx_cli_commands.specs.Refusal.{IsWholeRefusal}
use Rattle.bx_patch.specs.Patch.{Agrees, Asked, patch_change}
use Rattle.bx_patch.specs.Read.{asked_of}
use Rattle.bx_cli_commands.specs.Run.{answered, CallStep, CommandRun, CommandStep, DdStep, PatchStep, ReadStep, made_reply}
use Rattle.bx_cli_commands.specs.Standing.{MovesUp, PerformUp, Standing}
use Rattle.bx_cli_commands.proofs.Refusals.{IsNoRefusal, is_interrupted, made_no_refusal, no_whole}
use Rattle.bx_cli_commands.proofs.Unfailed.{all_tail}

-- whether a command was refused, and not stopped
pub whole_or : (p : Reply) → IsWholeRefusal p ⊎ (IsWholeRefusal p → ⊥)
whole_or (Changed n) = inr (λ h. h)
whole_or (Copied n counts) = inr (λ h. h)
whole_or (Undone left) = inr (λ h. h)
whole_or (Redone n) = inr (λ h. h)
whole_or (Refused (Io e)) = inl (λ is. cc)
whole_or (Refused (Read e)) = inl (λ is. cc)
whole_or (Refused (Behind line)) = inl (λ is. cc)
whole_or (Refused (Dd e)) = inl (λ is. cc)
whole_or (Refused (Patch e)) = inl (λ is. cc)
whole_or (Refused (Disagrees other)) = inl (λ is. cc)
whole_or (Refused (Session e)) = elim (is_interrupted e) as (λ _. IsWholeRefusal (Refused (Session e)) ⊎ (IsWholeRefusal (Refused (Session e)) → ⊥)) [
  | inl stopped ↦ inr (λ whole. whole (ap Session stopped))
  | inr other ↦ inl (λ is. other (cc))
]
whole_or (Refused NotReversible) = inl (λ is. cc)
whole_or (Refused NothingToWrite) = inl (λ is. cc)
whole_or (Refused (Grows has wanted)) = inl (λ is. cc)
whole_or (Refused ChangedSince) = inl (λ is. cc)
whole_or (Refused Usage) = inl (λ is. cc)
whole_or (Refused OpenFailed) = inl (λ is. cc)

pub all_whole_or : (replies : List Reply) → All IsWholeRefusal replies ⊎ (All IsWholeRefusal replies → ⊥)
all_whole_or [] = inl (All-nil IsWholeRefusal)
all_whole_or (p ∷ replies) = elim (whole_or p) as (λ _. All IsWholeRefusal (p ∷ replies) ⊎ (All IsWholeRefusal (p ∷ replies) → ⊥)) [
  | inl whole ↦ elim (all_whole_or replies) as (λ _. All IsWholeRefusal (p ∷ replies) ⊎ (All IsWholeRefusal (p ∷ replies) → ⊥)) [
    | inl all ↦ inl (All-cons IsWholeRefusal p replies whole all)
    | inr some ↦ inr (λ all. some (all_tail IsWholeRefusal p replies all))
  ]
  | inr stopped ↦ inr (λ all. stopped (all 0 p (omega arith)))
]

-- a refusal by a session tells of no stop
abbrev NoStop : SessionFault → Type 0
NoStop e = e ≡ Interrupted → ⊥

perform_stays_up : {A : Type 0} (old : Images) (c : Change A) (e : SessionFault) (after : Standing) → NoStop e → PerformUp c old (Err e) after → after ≡ Standing.Up old
perform_stays_up old c NoMemory after whole p = p.0
perform_stays_up old c TooLarge after whole p = p.0
perform_stays_up old c DeviceFailed after whole p = p
perform_stays_up old c (Damaged line) after whole p = p.0
perform_stays_up old c (TooFew have) after whole p = p.0
perform_stays_up old c JournalFull after whole p = p.1
perform_stays_up old c Interrupted after whole p = absurd (whole refl)
perform_stays_up old c Broken after whole p = p.0
perform_stays_up old c (LengthDiffers expected) after whole p = p.0
perform_stays_up old c (NothingToRedo have) after whole p = p.0
perform_stays_up old c (RedoDamaged line) after whole p = p.0

moves_stays_up : (Step : Images → ℕ → Result ℕ SessionFault → Images → Type 0) (moved : ℕ → Images → Images) (k : ℕ) (old : Images) (e : SessionFault) (after : Standing)
    → NoStop e → MovesUp Step moved k old (Err e) after → after ≡ Standing.Up old
moves_stays_up Step moved k old NoMemory after whole p = p.0
moves_stays_up Step moved k old TooLarge after whole p = p.0
moves_stays_up Step moved k old DeviceFailed after whole p = p
moves_stays_up Step moved k old (Damaged line) after whole p = p.0
moves_stays_up Step moved k old (TooFew have) after whole p = p.0
moves_stays_up Step moved k old JournalFull after whole p = p.0
moves_stays_up Step moved k old Interrupted after whole p = absurd (whole refl)
moves_stays_up Step moved k old Broken after whole p = p.0
moves_stays_up Step moved k old (LengthDiffers expected) after whole p = p.0
moves_stays_up Step moved k old (NothingToRedo have) after whole p = p.0
moves_stays_up Step moved k old (RedoDamaged line) after whole p = p.0

-- a call that is refused leaves the session where it stood
call_stays : (made : ℕ → Reply) (Call : Images → Result ℕ SessionFault → Standing → Type 0) → ((n : ℕ) → IsNoRefusal (made n))
    → ((old : Images) (e : SessionFault) (after : Standing) → NoStop e → Call old (Err e) after → after ≡ Standing.Up old)
    → (before after : Standing) (p : Reply) → IsWholeRefusal p → CallStep made Call before p after → after ≡ before
call_stays made Call done stays (Standing.Up old) after p whole (Ok n, is, call) = absurd (no_whole (made n) (done n) (subst IsWholeRefusal is whole))
call_stays made Call done stays (Standing.Up old) after p whole (Err e, is, call) =
    stays old e after (λ stopped. subst IsWholeRefusal is whole (ap Session stopped)) call
call_stays made Call done stays (Standing.Down old) after p whole step = step.1

read_stays : {A B : Type 0} (change : B → Change A) (before after : Standing) (read : Result B ReadFault) (p : Reply)
    → IsWholeRefusal p → ReadStep before change read p after → after ≡ before
read_stays change before after (Ok read) p whole step =
    call_stays Changed (PerformUp (change read)) (λ n. tt) (λ old e after none call. perform_stays_up old (change read) e after none call) before after p whole step
read_stays change before after (Err e) p whole step = step.1

dd_stays : {A : Type 0} (before after : Standing) (made : Result (DdChange A) DdFault) (p : Reply) → IsWholeRefusal p → DdStep before made p after → after ≡ before
dd_stays before after (Ok made) p whole step =
    call_stays (λ n. Copied n made.counts) (PerformUp made.change) (λ n. tt) (λ old e after none call. perform_stays_up old made.change e after none call) before after p whole step
dd_stays before after (Err e) p whole step = step.1

patch_stays : (A : Type 0) (before after : Standing) (asked : Asked) (p : Reply) → IsWholeRefusal p → PatchStep A before asked p after → after ≡ before
patch_stays A before after asked p whole (inl refused) = refused.1
patch_stays A (Standing.Up old) after asked p whole (inr (inl failed)) = failed.1
patch_stays A (Standing.Up old) after asked p whole (inr (inr (None, agrees, step))) =
    let c : Change A = patch_change asked in
    call_stays Changed (PerformUp c) (λ n. tt) (λ old e after none call. perform_stays_up old c e after none call) (Standing.Up old) after p whole step
patch_stays A (Standing.Up old) after asked p whole (inr (inr (Some other, has, step))) = step.1
patch_stays A (Standing.Down old) after asked p whole (inr step) = step.1

pub step_stays : {R A : Type 0} (remaining : R → Option (List ℕ)) (before after : Standing) (c : Command R A) (p : Reply)
    → IsWholeRefusal p → CommandStep remaining before c p after → after ≡ before
step_stays {A = A} remaining before after (Revert text offset) p whole step = elim step as (λ _. after ≡ before) [
  | inl refused ↦ refused.1
  | inr read ↦ read_stays (dump_change {A = A} offset) before after (dump_pieces text) p whole read
]
step_stays {A = A} remaining before after (RevertPlain text at) p whole step = elim step as (λ _. after ≡ before) [
  | inl refused ↦ refused.1
  | inr read ↦ read_stays (plain_change {A = A} at) before after (plain_answer text) p whole read
]
step_stays remaining before after (Dd operands input) p whole step = dd_stays before after step.1.0 p whole step.1.1.1
step_stays remaining before after (Copy plan input) p whole step = dd_stays before after step.1.0 p whole step.1.1.1
step_stays {A = A} remaining before after (Patch patch) p whole step = patch_stays A before after (asked_of patch) p whole step
step_stays remaining before after (Undo k) p whole step =
    call_stays Undone (MovesUp (λ s k r t. UndoStep s.stack k r t.stack) undo_of k) (λ n. tt) (moves_stays_up (λ s k r t. UndoStep s.stack k r t.stack) undo_of k) before after p whole step
step_stays remaining before after (Redo j) p whole step =
    call_stays Redone (MovesUp RedoStep redo_of j) (λ n. tt) (moves_stays_up RedoStep redo_of j) before after p whole step

pub run_stays : {R A : Type 0} (remaining : R → Option (List ℕ)) (before after : Standing) (list : List (Command R A)) (replies : List Reply)
    → All IsWholeRefusal replies → CommandRun remaining before list replies after → after ≡ before
run_stays remaining before after [] [] all run = run
run_stays remaining before after [] (p ∷ replies) all run = absurd run
run_stays remaining before after (c ∷ list) [] all run = absurd run
run_stays remaining before after (c ∷ list) (p ∷ replies) all (now, step, rest) =
    run_stays remaining now after list replies (all_tail IsWholeRefusal p replies all) rest ∙ step_stays remaining before now c p (all 0 p (omega arith)) step

-- what a stopped session answers, it answers whatever opening finds
abbrev StaysDown : {C : Type 0} → (Standing → C → Standing → Type 0) → Images → C → Standing → Type 0
StaysDown Step old p after = (after ≡ Standing.Down old) × ((other : Images) → Step (Standing.Down other) p (Standing.Down other))

read_down : {A B : Type 0} (change : B → Change A) (old : Images) (after : Standing) (read : Result B ReadFault) (p : Reply)
    → ReadStep (Standing.Down old) change read p after → StaysDown (λ s p t. ReadStep s change read p t) old p after
read_down change old after (Ok read) p step = (step.1, λ other. (step.0, refl))
read_down change old after (Err e) p step = (step.1, λ other. (step.0, refl))

dd_down : {A : Type 0} (old : Images) (after : Standing) (made : Result (DdChange A) DdFault) (p : Reply)
    → DdStep (Standing.Down old) made p after → StaysDown (λ s p t. DdStep s made p t) old p after
dd_down old after (Ok made) p step = (step.1, λ other. (step.0, refl))
dd_down old after (Err e) p step = (step.1, λ other. (step.0, refl))

patch_down : (A : Type 0) (old : Images) (after : Standing) (asked : Asked) (p : Reply)
    → PatchStep A (Standing.Down old) asked p after → StaysDown (λ s p t. PatchStep A s asked p t) old p after
patch_down A old after asked p (inl refused) = (refused.1, λ other. inl (refused.0, refl))
patch_down A old after asked p (inr step) = (step.1, λ other. inr (step.0, refl))

step_down : {R A : Type 0} (remaining : R → Option (List ℕ)) (old : Images) (after : Standing) (c : Command R A) (p : Reply)
    → CommandStep remaining (Standing.Down old) c p after → StaysDown (λ s p t. CommandStep remaining s c p t) old p after
step_down {A = A} remaining old after (Revert text offset) p step = elim step as (λ _. StaysDown (λ s p t. CommandStep {A = A} remaining s (Revert text offset) p t) old p after) [
  | inl refused ↦ (refused.1, λ other. inl (refused.0, refl))
  | inr read ↦ let down = read_down (dump_change {A = A} offset) old after (dump_pieces text) p read in (down.0, λ other. inr (down.1 other))
]
step_down {A = A} remaining old after (RevertPlain text at) p step = elim step as (λ _. StaysDown (λ s p t. CommandStep {A = A} remaining s (RevertPlain text at) p t) old p after) [
  | inl refused ↦ (refused.1, λ other. inl (refused.0, refl))
  | inr read ↦ let down = read_down (plain_change {A = A} at) old after (plain_answer text) p read in (down.0, λ other. inr (down.1 other))
]
step_down remaining old after (Dd operands input) p (left, (made, (makes, step))) =
    let down = dd_down old after made p step in (down.0, λ other. (left, (made, (makes, down.1 other))))
step_down remaining old after (Copy plan input) p (left, (made, (makes, step))) =
    let down = dd_down old after made p step in (down.0, λ other. (left, (made, (makes, down.1 other))))
step_down {A = A} remaining old after (Patch patch) p step = patch_down A old after (asked_of patch) p step
step_down remaining old after (Undo k) p step = (step.1, λ other. (step.0, refl))
step_down remaining old after (Redo j) p step = (step.1, λ other. (step.0, refl))

pub run_down : {R A : Type 0} (remaining : R → Option (List ℕ)) (old : Images) (after : Standing) (list : List (Command R A)) (replies : List Reply)
    → CommandRun remaining (Standing.Down old) list replies after → StaysDown (λ s replies t. CommandRun remaining s list replies t) old replies after
run_down remaining old after [] [] run = (run, λ other. refl)
run_down remaining old after [] (p ∷ replies) run = absurd run
run_down remaining old after (c ∷ list) [] run = absurd run
run_down remaining old after (c ∷ list) (p ∷ replies) (now, step, rest) =
    let first = step_down remaining old now c p step in
    let Rest : Standing → Type 0 = λ s. CommandRun remaining s list replies after in
    let later = run_down remaining old after list replies (subst Rest first.0 rest) in
    (later.0, λ other. (Standing.Down other, first.1 other, later.1 other))

-- what a stopped call leads to
no_goes_on : {A : Type 0} (found images : Images) → Standing.Down found ≡ Standing.Up images → A
no_goes_on found images is = absurd (cc)

abbrev ChangePart : {A : Type 0} → Change A → Images → Result ℕ SessionFault → Images → Type 0
ChangePart c old r found = (r ≡ Err Interrupted) × IsChanged c old found

perform_part : {A : Type 0} (old found : Images) (c : Change A) (r : Result ℕ SessionFault) → PerformUp c old r (Standing.Down found) → ChangePart c old r found
perform_part old found c (Ok n) p = no_goes_on found p.0 p.1
perform_part old found c (Err NoMemory) p = no_goes_on found old p.0
perform_part old found c (Err TooLarge) p = no_goes_on found old p.0
perform_part old found c (Err DeviceFailed) p = no_goes_on found old p
perform_part old found c (Err (Damaged line)) p = no_goes_on found old p.0
perform_part old found c (Err (TooFew have)) p = no_goes_on found old p.0
perform_part old found c (Err JournalFull) p = no_goes_on found old p.1
perform_part old found c (Err Interrupted) (inl before, fit) = (refl, inl (ap images_of before))
perform_part old found c (Err Interrupted) (inr made, fit) = (refl, inr (ap images_of made))
perform_part old found c (Err Broken) p = no_goes_on found old p.0
perform_part old found c (Err (LengthDiffers expected)) p = no_goes_on found old p.0
perform_part old found c (Err (NothingToRedo have)) p = no_goes_on found old p.0
perform_part old found c (Err (RedoDamaged line)) p = no_goes_on found old p.0

abbrev MovedPart : (ℕ → Images → Images) → ℕ → Images → Result ℕ SessionFault → Images → Type 0
MovedPart moved k old r found = (r ≡ Err Interrupted) × ((i : ℕ) × (i ≤ k) × (found ≡ moved i old))

moves_part : (Step : Images → ℕ → Result ℕ SessionFault → Images → Type 0) (moved : ℕ → Images → Images) (k : ℕ) (old found : Images) (r : Result ℕ SessionFault)
    → MovesUp Step moved k old r (Standing.Down found) → MovedPart moved k old r found
moves_part Step moved k old found (Ok n) p = no_goes_on found p.0 p.1
moves_part Step moved k old found (Err NoMemory) p = no_goes_on found old p.0
moves_part Step moved k old found (Err TooLarge) p = no_goes_on found old p.0
moves_part Step moved k old found (Err DeviceFailed) p = no_goes_on found old p
moves_part Step moved k old found (Err (Damaged line)) p = no_goes_on found old p.0
moves_part Step moved k old found (Err (TooFew have)) p = no_goes_on found old p.0
moves_part Step moved k old found (Err JournalFull) p = no_goes_on found old p.0
moves_part Step moved k old found (Err Interrupted) p = (refl, (p.0, p.1, ap images_of p.2))
moves_part Step moved k old found (Err Broken) p = no_goes_on found old p.0
moves_part Step moved k old found (Err (LengthDiffers expected)) p = no_goes_on found old p.0
moves_part Step moved k old found (Err (NothingToRedo have)) p = no_goes_on found old p.0
moves_part Step moved k old found (Err (RedoDamaged line)) p = no_goes_on found old p.0

-- a command that leads to a stopped session was stopped, and a part of it is found
abbrev StopPart : {R A : Type 0} → (R → Option (List ℕ)) → Command R A → Images → Reply → Images → Type 0
StopPart remaining c old p found = (p ≡ Refused (Session Interrupted)) × IsPart remaining c old found

change_part : {A : Type 0} (made : ℕ → Reply) (c : Change A) (old found : Images) (p : Reply) → CallStep made (PerformUp c) (Standing.Up old) p (Standing.Down found)
    → (p ≡ Refused (Session Interrupted)) × IsChanged c old found
change_part made c old found p (r, is, call) = let part = perform_part old found c r call in (is ∙ ap (answered made) part.0, part.1)

read_part : {A B : Type 0} (change : B → Change A) (old found : Images) (read : Result B ReadFault) (p : Reply)
    → ReadStep (Standing.Up old) change read p (Standing.Down found) → (p ≡ Refused (Session Interrupted)) × ((b : B) × (read ≡ Ok b) × IsChanged (change b) old found)
read_part change old found (Ok read) p step = let part = change_part Changed (change read) old found p step in (part.0, (read, refl, part.1))
read_part change old found (Err e) p step = no_goes_on found old step.1

dd_part : {A : Type 0} (old found : Images) (made : Result (DdChange A) DdFault) (p : Reply) → DdStep (Standing.Up old) made p (Standing.Down found)
    → (p ≡ Refused (Session Interrupted)) × ((m : DdChange A) × (made ≡ Ok m) × IsChanged m.change old found)
dd_part old found (Ok made) p step = let part = change_part (λ n. Copied n made.counts) made.change old found p step in (part.0, (made, refl, part.1))
dd_part old found (Err e) p step = no_goes_on found old step.1

-- a patch that was stopped agrees, and its change is found or not
abbrev PatchPart : (A : Type 0) → Asked → Images → Images → Type 0
PatchPart A asked old found = Agrees asked (top old.stack) × IsChanged (patch_change {A = A} asked) old found

patch_part : {A : Type 0} (old found : Images) (asked : Asked) (p : Reply) → PatchStep A (Standing.Up old) asked p (Standing.Down found)
    → (p ≡ Refused (Session Interrupted)) × PatchPart A asked old found
patch_part old found asked p (inl refused) = no_goes_on found old refused.1
patch_part old found asked p (inr (inl failed)) = no_goes_on found old failed.1
patch_part {A = A} old found asked p (inr (inr (None, agrees, step))) =
    let part = change_part Changed (patch_change {A = A} asked) old found p step in (part.0, (agrees, part.1))
patch_part old found asked p (inr (inr (Some other, has, step))) = no_goes_on found old step.1

step_part : {R A : Type 0} (remaining : R → Option (List ℕ)) (old found : Images) (c : Command R A) (p : Reply)
    → CommandStep remaining (Standing.Up old) c p (Standing.Down found) → StopPart remaining c old p found
step_part {R = R} {A = A} remaining old found (Revert text offset) p step = elim step as (λ _. StopPart {R = R} {A = A} remaining (Revert text offset) old p found) [
  | inl refused ↦ no_goes_on found old refused.1
  | inr read ↦ read_part (dump_change {A = A} offset) old found (dump_pieces text) p read
]
step_part {R = R} {A = A} remaining old found (RevertPlain text at) p step = elim step as (λ _. StopPart {R = R} {A = A} remaining (RevertPlain text at) old p found) [
  | inl refused ↦ no_goes_on found old refused.1
  | inr read ↦ read_part (plain_change {A = A} at) old found (plain_answer text) p read
]
step_part remaining old found (Dd operands input) p step =
    let part = dd_part old found step.1.0 p step.1.1.1 in (
      part.0,
      (step.0, part.1.0, subst (λ made. MakesCopy operands (remaining input) step.0 made) part.1.1 step.1.1.0, part.1.2),
    )
step_part remaining old found (Copy plan input) p step =
    let part = dd_part old found step.1.0 p step.1.1.1 in (
      part.0,
      (step.0, part.1.0, subst (λ made. MakesBy plan (remaining input) step.0 made) part.1.1 step.1.1.0, part.1.2),
    )
step_part {A = A} remaining old found (Patch patch) p step = patch_part {A = A} old found (asked_of patch) p step
step_part remaining old found (Undo k) p (r, is, call) =
    let part = moves_part (λ s k r t. UndoStep s.stack k r t.stack) undo_of k old found r call in (is ∙ ap (answered Undone) part.0, part.1)
step_part remaining old found (Redo j) p (r, is, call) =
    let part = moves_part RedoStep redo_of j old found r call in (is ∙ ap (answered Redone) part.0, part.1)

pub ends_in_part : {R A : Type 0} (remaining : R → Option (List ℕ)) (start : Images) (after : Standing) (list : List (Command R A)) (replies : List Reply)
    → CommandRun remaining (Standing.Up start) list replies after → FindsPart remaining start list replies (images_of after)
ends_in_part remaining start after [] [] run = ap images_of run
ends_in_part remaining start after [] (p ∷ replies) run = absurd run
ends_in_part remaining start after (c ∷ list) [] run = absurd run
ends_in_part remaining start after (c ∷ list) (p ∷ replies) (Standing.Up now, step, rest) =
    inr (now, step, ends_in_part remaining now after list replies rest)
ends_in_part remaining start after (c ∷ list) (p ∷ replies) (Standing.Down found, step, rest) =
    let part = step_part remaining start found c p step in
    let down = run_down remaining found after list replies rest in
    let Part : Images → Type 0 = λ images. IsPart remaining c start images in
    inl (part.0, subst Part (sym (ap images_of down.0)) part.1)
