-- What a task answers, and what it leads to from images.
use Rattle.std.proofs.Common.{◌≡◌, ◌∙◌, ◌≤◌, ◌+◌, ℕ, zero, suc, Option, Some, None, List, [], ◌∷◌, length, refl, sym, ap, subst, inl, inr, arith, Result, Ok, Err}
use Rattle.std.specs.Prelude.{IfOk}
use Rattle.std.proofs.lemmas.List.{length-drop}
use Rattle.bx_image.specs.declared.change.Change.{Change}
use Rattle.bx_image.specs.Change.{effect}
use Rattle.bx_read.specs.declared.fault.ReadFault.{ReadFault}
use Rattle.bx_read.specs.Plain.{plain_answer}
use Rattle.bx_read.specs.Text.{dump_pieces}
use Rattle.bx_dd.specs.declared.fault.DdFault.{DdFault}
use Rattle.bx_patch.specs.Patch.{Agrees, Asked, patch_change}
use Rattle.bx_patch.specs.Read.{asked_of}
use Rattle.bx_journal.specs.Images.{Images, change_to, redo_of, redone_by, undo_of}
use Rattle.bx_journal.specs.Machine.{RedoStep, UndoStep, changes_of, top}
use Rattle.bx_journal.specs.Stack.{stack_of}
use Rattle.bx_journal.specs.Text.{Entry}
use Rattle.bx_journal.specs.SessionFault.{SessionFault}
use Rattle.bx_journal.specs.SessionFault.TheVariants.{Interrupted}
use Rattle.bx_cli_commands.specs.Command.{dump_change, plain_change}
use Rattle.bx_cli_commands.specs.Copy.{MakesCopy, MakesBy}
use Rattle.bx_cli_commands.specs.Power.{IsChanged, IsPart}
use Rattle.bx_cli_commands.specs.Refusal.{IsWholeRefusal}
use Rattle.bx_cli_commands.specs.Replies.{stands_by}
use Rattle.bx_cli_commands.specs.Run.{CallStep, CommandStep, DdStep, PatchStep, ReadStep}
use Rattle.bx_cli_commands.specs.Standing.{MovesUp, PerformUp, Standing}
use Rattle.bx_cli_commands.specs.declared.changes.DdChange.{DdChange}
use Rattle.bx_cli_commands.specs.declared.command.Command.{Command}
use Rattle.bx_cli_commands.specs.declared.command.Command.TheVariants.{Copy, Dd, Patch, Redo, Revert, RevertPlain, Undo}
use Rattle.bx_cli_commands.specs.declared.command.Reply.{Reply}
use Rattle.bx_cli_commands.specs.declared.command.Kept.{Kept}
use Rattle.bx_cli_commands.specs.declared.command.Kept.TheVariants as of_kept
use Rattle.bx_cli_commands.specs.Growth.{IsNoLonger, IsPartWithin, KeptStep, Lengthens, LengthensNot, WithinStep}
use Rattle.bx_cli_commands.specs.declared.command.Reply.TheVariants.{Changed, Copied, Redone, Refused, Undone}
use Rattle.bx_cli_commands.specs.declared.fault.Fault.{Fault}
use Rattle.bx_cli_commands.specs.declared.fault.Fault.TheVariants.{Session}
use Rattle.bx_run_session.specs.session.Changes.{Changes, InterruptsChange}
use Rattle.bx_run_session.specs.session.Contents.{Contents, EndsAt, Holds, StepsTo}
use Rattle.bx_run_session.specs.session.Task.{IsChangedAsRead, IsPartOfTask, TaskStep}
use Rattle.bx_run_session.specs.declared.session.task.Task.{Task}
use Rattle.bx_run_session.specs.declared.session.task.Task.TheVariants.{Keep, Put, Run}

abbrev told_or : ℕ → Result ℕ Fault → ℕ
told_or m (Ok n) = n
told_or m (Err e) = m

ok_is_one : (m n : ℕ) → ◌≡◌ {A = Result ℕ Fault} (Ok m) (Ok n) → m ≡ n
ok_is_one m n is = ap (told_or m) is

-- a number was answered, and that many changes stand behind the step
abbrev LeadsTo : (n : ℕ) → Standing → Type 0
LeadsTo n after = (next : Images) × (after ≡ Standing.Up next) × (n ≡ changes_of next.stack)

-- there is an image at least
abbrev HasImage : Images → Type 0
HasImage s = 1 ≤ length s.stack

some_stack : (entries : List Entry) (x : List ℕ) → 1 ≤ length (stack_of entries x)
unfolding stack_of
some_stack [] x = omega arith
some_stack (e ∷ entries) x = omega arith

has_image : (c : Contents) (s : Images) → Holds c s → HasImage s
has_image c s holds = let is = holds.0.stands.stack_is in rw is (some_stack holds.0.stands.entries c.image)

length_redone : (j : ℕ) (u stack : List (List ℕ)) → j ≤ length u → length (redone_by j u stack) ≡ j + length stack
length_redone zero u stack le = omega arith
length_redone (suc j) [] stack le = absurd (omega arith)
length_redone (suc j) (x ∷ u) stack le = length_redone j u (x ∷ stack) (omega arith) ∙ omega arith

-- what a call that tells a number leads to
call_told : (made : ℕ → Reply) (Call : Images → Result ℕ SessionFault → Standing → Type 0) (s : Images) (reply : Reply) (n : ℕ) (after : Standing)
    → ((m : ℕ) → stands_by (made m) ≡ Ok m) → ((m : ℕ) → Call s (Ok m) after → LeadsTo m after) → stands_by reply ≡ Ok n
    → CallStep made Call (Standing.Up s) reply after → LeadsTo n after
call_told made Call s reply n after made_is leads tells (Ok m, is, call) =
    let same : n ≡ m = ok_is_one n m (sym tells ∙ ap stands_by is ∙ made_is m) in
    subst (λ k. LeadsTo k after) (sym same) (leads m call)
call_told made Call s reply n after made_is leads tells (Err e, is, call) =
    absurd (let wrong : Ok n ≡ Err (Session e) = sym tells ∙ ap stands_by is in cc)

perform_leads : {A : Type 0} (c : Change A) (s : Images) (m : ℕ) (after : Standing) → HasImage s → PerformUp c s (Ok m) after → LeadsTo m after
perform_leads c s m after some (next, is, step, undone) =
    (next, is, let told = step.2 in let stack = ap length step.3 in omega (arith, some, told, stack))

undo_leads : (s : Images) (k m : ℕ) (after : Standing) → MovesUp (λ s k r t. UndoStep s.stack k r t.stack) undo_of k s (Ok m) after → LeadsTo m after
undo_leads s k m after (next, is, step, moved) =
    (next, is, let told = step.1 in let stack = ap length step.2 ∙ length-drop k s.stack in omega (arith, told, stack))

redo_leads : (s : Images) (j m : ℕ) (after : Standing) → HasImage s → MovesUp RedoStep redo_of j s (Ok m) after → LeadsTo m after
redo_leads s j m after some (next, is, step, moved) =
    let told = step.1 in
    let stack = ap (λ (t : Images). length t.stack) moved ∙ length_redone j s.undone s.stack step.0 in
    (next, is, omega (arith, some, told, stack))

read_told : {A B : Type 0} (change : B → Change A) (s : Images) (read : Result B ReadFault) (reply : Reply) (n : ℕ) (after : Standing) → HasImage s
    → stands_by reply ≡ Ok n → ReadStep (Standing.Up s) change read reply after → LeadsTo n after
read_told change s (Ok read) reply n after some tells step =
    call_told Changed (PerformUp (change read)) s reply n after (λ m. refl) (λ m call. perform_leads (change read) s m after some call) tells step
read_told change s (Err e) reply n after some tells step = absurd (let wrong = sym tells ∙ ap stands_by step.0 in cc)

dd_told : {A : Type 0} (s : Images) (made : Result (DdChange A) DdFault) (reply : Reply) (n : ℕ) (after : Standing) → HasImage s
    → stands_by reply ≡ Ok n → DdStep (Standing.Up s) made reply after → LeadsTo n after
dd_told s (Ok made) reply n after some tells step =
    call_told (λ m. Copied m made.counts) (PerformUp made.change) s reply n after (λ m. refl)
    (λ m call. perform_leads made.change s m after some call) tells step
dd_told s (Err e) reply n after some tells step = absurd (let wrong = sym tells ∙ ap stands_by step.0 in cc)

patch_told : (A : Type 0) (s : Images) (asked : Asked) (reply : Reply) (n : ℕ) (after : Standing) → HasImage s
    → stands_by reply ≡ Ok n → PatchStep A (Standing.Up s) asked reply after → LeadsTo n after
patch_told A s asked reply n after some tells (inl refused) = absurd (let wrong = sym tells ∙ ap stands_by refused.0 in cc)
patch_told A s asked reply n after some tells (inr (inl failed)) = absurd (let wrong = sym tells ∙ ap stands_by failed.0 in cc)
patch_told A s asked reply n after some tells (inr (inr (None, agrees, step))) =
    let c : Change A = patch_change asked in
    call_told Changed (PerformUp c) s reply n after (λ m. refl) (λ m call. perform_leads c s m after some call) tells step
patch_told A s asked reply n after some tells (inr (inr (Some other, has, step))) = absurd (let wrong = sym tells ∙ ap stands_by step.0 in cc)

within_told : {A : Type 0} (c : Change A) (s : Images) (reply : Reply) (n : ℕ) (after : Standing) → HasImage s
    → stands_by reply ≡ Ok n → WithinStep (Standing.Up s) c reply after → LeadsTo n after
within_told c s reply n after some tells (inl failed) = absurd (let wrong = sym tells ∙ ap stands_by failed.0 in cc)
within_told c s reply n after some tells (inr (inl (fault, is, lengthens, up))) = absurd (let wrong = sym tells ∙ ap stands_by is in cc)
within_told c s reply n after some tells (inr (inr (not, step))) =
    call_told Changed (PerformUp c) s reply n after (λ m. refl) (λ m call. perform_leads c s m after some call) tells step

kept_told : {A : Type 0} (s : Images) (kept : Kept A) (reply : Reply) (n : ℕ) (after : Standing) → HasImage s
    → stands_by reply ≡ Ok n → KeptStep (Standing.Up s) kept reply after → LeadsTo n after
kept_told s (of_kept.Change c) reply n after some tells step = within_told c s reply n after some tells step
kept_told s (of_kept.Patch patch) reply n after some tells (inl failed) = absurd (let wrong = sym tells ∙ ap stands_by failed.0 in cc)
kept_told {A = A} s (of_kept.Patch patch) reply n after some tells (inr (None, agrees, step)) =
    within_told (patch_change {A = A} (asked_of patch)) s reply n after some tells step
kept_told s (of_kept.Patch patch) reply n after some tells (inr (Some other, has, step)) =
    absurd (let wrong = sym tells ∙ ap stands_by step.0 in cc)

module _ {R A : Type 0} (remaining : R → Option (List ℕ)) where
  command_told : (s : Images) (c : Command R A) (reply : Reply) (n : ℕ) (after : Standing) → HasImage s → stands_by reply ≡ Ok n
      → CommandStep remaining (Standing.Up s) c reply after → LeadsTo n after
  command_told s (Revert text offset) reply n after some tells (inl refused) = absurd (let wrong = sym tells ∙ ap stands_by refused.0 in cc)
  command_told s (Revert text offset) reply n after some tells (inr step) =
      read_told (dump_change {A = A} offset) s (dump_pieces text) reply n after some tells step
  command_told s (RevertPlain text at) reply n after some tells (inl refused) = absurd (let wrong = sym tells ∙ ap stands_by refused.0 in cc)
  command_told s (RevertPlain text at) reply n after some tells (inr step) =
      read_told (plain_change {A = A} at) s (plain_answer text) reply n after some tells step
  command_told s (Dd operands input) reply n after some tells (left, (made, (makes, step))) = dd_told s made reply n after some tells step
  command_told s (Copy plan input) reply n after some tells (left, (made, (makes, step))) = dd_told s made reply n after some tells step
  command_told s (Patch patch) reply n after some tells step = patch_told A s (asked_of patch) reply n after some tells step
  command_told s (Undo k) reply n after some tells step =
      call_told Undone (MovesUp (λ s k r t. UndoStep s.stack k r t.stack) undo_of k) s reply n after (λ m. refl)
      (λ m call. undo_leads s k m after call) tells step
  command_told s (Redo j) reply n after some tells step =
      call_told Redone (MovesUp RedoStep redo_of j) s reply n after (λ m. refl) (λ m call. redo_leads s j m after some call) tells step

abbrev Stopped : Reply
Stopped = Refused (Session Interrupted)

-- a step that tells of an interruption, and what is found then
abbrev StopsAt : (Images → Type 0) → Standing → Type 0
StopsAt Part after = (found : Images) × (after ≡ Standing.Down found) × Part found

-- what a call that tells of an interruption leads to
call_stopped : (made : ℕ → Reply) (Call : Images → Result ℕ SessionFault → Standing → Type 0) (Part : Images → Type 0) (s : Images) (after : Standing)
    → ((m : ℕ) → stands_by (made m) ≡ Ok m) → (Call s (Err Interrupted) after → StopsAt Part after)
    → CallStep made Call (Standing.Up s) Stopped after → StopsAt Part after
call_stopped made Call Part s after made_is stops (Ok m, is, call) =
    absurd (let wrong : Err (Session Interrupted) ≡ Ok m = ap stands_by is ∙ made_is m in cc)
call_stopped made Call Part s after made_is stops (Err Interrupted, is, call) = stops call
call_stopped made Call Part s after made_is stops (Err e, is, call) =
    absurd (let wrong : Refused (Session Interrupted) ≡ Refused (Session e) = is in cc)

perform_stops : {A : Type 0} (c : Change A) (s : Images) (after : Standing) → PerformUp c s (Err Interrupted) after → StopsAt (IsChanged c s) after
perform_stops c s after (inl is, fits) = (s, is, inl refl)
perform_stops c s after (inr is, fits) = (change_to (effect c (top s.stack)) s, is, inr refl)

moves_stop : (Step : Images → ℕ → Result ℕ SessionFault → Images → Type 0) (moved : ℕ → Images → Images) (k : ℕ) (s : Images) (after : Standing)
    → MovesUp Step moved k s (Err Interrupted) after → StopsAt (λ found. (i : ℕ) × (i ≤ k) × (found ≡ moved i s)) after
moves_stop Step moved k s after (i, within, is) = (moved i s, is, (i, within, refl))

change_stopped : {A : Type 0} (made : ℕ → Reply) (c : Change A) (s : Images) (after : Standing) → ((m : ℕ) → stands_by (made m) ≡ Ok m)
    → CallStep made (PerformUp c) (Standing.Up s) Stopped after → StopsAt (IsChanged c s) after
change_stopped made c s after made_is step = call_stopped made (PerformUp c) (IsChanged c s) s after made_is (λ call. perform_stops c s after call) step

read_stopped : {A B : Type 0} (change : B → Change A) (s : Images) (read : Result B ReadFault) (after : Standing)
    → ReadStep (Standing.Up s) change read Stopped after → StopsAt (λ found. (b : B) × (read ≡ Ok b) × IsChanged (change b) s found) after
read_stopped change s (Ok read) after step =
    let stopped = change_stopped Changed (change read) s after (λ m. refl) step in (stopped.0, stopped.1, (read, refl, stopped.2))
read_stopped change s (Err e) after step = absurd (let wrong = step.0 in cc)

put_stopped : {A : Type 0} (s : Images) (read : Result (Change A) ReadFault) (after : Standing)
    → ReadStep (Standing.Up s) (λ c. c) read Stopped after → StopsAt (IsChangedAsRead read s) after
put_stopped s (Ok change) after step = change_stopped Changed change s after (λ m. refl) step
put_stopped s (Err e) after step = absurd (let wrong = step.0 in cc)

dd_stopped : {A : Type 0} (s : Images) (made : Result (DdChange A) DdFault) (after : Standing) → DdStep (Standing.Up s) made Stopped after
    → StopsAt (λ found. (m : DdChange A) × (made ≡ Ok m) × IsChanged m.change s found) after
dd_stopped s (Ok made) after step =
    let stopped = change_stopped (λ m. Copied m made.counts) made.change s after (λ m. refl) step in (stopped.0, stopped.1, (made, refl, stopped.2))
dd_stopped s (Err e) after step = absurd (let wrong = step.0 in cc)

patch_stopped : (A : Type 0) (s : Images) (asked : Asked) (after : Standing) → PatchStep A (Standing.Up s) asked Stopped after
    → StopsAt (λ found. Agrees asked (top s.stack) × IsChanged (patch_change {A = A} asked) s found) after
patch_stopped A s asked after (inl refused) = absurd (let wrong = refused.0 in cc)
patch_stopped A s asked after (inr (inl failed)) = absurd (let wrong = failed.0 in cc)
patch_stopped A s asked after (inr (inr (None, agrees, step))) =
    let stopped = change_stopped Changed (patch_change {A = A} asked) s after (λ m. refl) step in (stopped.0, stopped.1, (agrees, stopped.2))
patch_stopped A s asked after (inr (inr (Some other, has, step))) = absurd (let wrong = step.0 in cc)

-- what is found of a change that isn't to make the image longer
abbrev PartWithin : {A : Type 0} → Change A → Images → Images → Type 0
PartWithin c s found = IsChanged c s found × IsNoLonger s found

perform_stops_within : {A : Type 0} (c : Change A) (s : Images) (after : Standing) → LengthensNot c (top s.stack) → PerformUp c s (Err Interrupted) after
    → StopsAt (PartWithin c s) after
perform_stops_within c s after not (inl is, fits) = (s, is, (inl refl, omega arith))
perform_stops_within c s after not (inr is, fits) = (change_to (effect c (top s.stack)) s, is, (inr refl, not fits))

-- no fault that tells of a growth is an interruption
not_longer : {A : Type 0} (c : Change A) (x : List ℕ) (fault : Fault) → Refused (Session Interrupted) ≡ Refused fault → Lengthens c x fault → ⊥
not_longer c x fault is lengthens =
    let Told : Fault → Type 0 = λ f. Lengthens c x f in
    let same : fault ≡ Session Interrupted = cc in
    subst Told same lengthens

within_stopped : {A : Type 0} (c : Change A) (s : Images) (after : Standing) → WithinStep (Standing.Up s) c Stopped after → StopsAt (PartWithin c s) after
within_stopped c s after (inl failed) = absurd (let wrong = failed.0 in cc)
within_stopped c s after (inr (inl (fault, is, lengthens, up))) = absurd (not_longer c (top s.stack) fault is lengthens)
within_stopped c s after (inr (inr (not, step))) =
    call_stopped Changed (PerformUp c) (PartWithin c s) s after (λ m. refl) (λ call. perform_stops_within c s after not call) step

kept_stopped : {A : Type 0} (s : Images) (kept : Kept A) (after : Standing) → KeptStep (Standing.Up s) kept Stopped after → StopsAt (IsPartWithin kept s) after
kept_stopped s (of_kept.Change c) after step = within_stopped c s after step
kept_stopped s (of_kept.Patch patch) after (inl failed) = absurd (let wrong = failed.0 in cc)
kept_stopped {A = A} s (of_kept.Patch patch) after (inr (None, agrees, step)) =
    within_stopped (patch_change {A = A} (asked_of patch)) s after step
kept_stopped s (of_kept.Patch patch) after (inr (Some other, has, step)) = absurd (let wrong = step.0 in cc)

module _ {R A : Type 0} (remaining : R → Option (List ℕ)) where
  abbrev Part : Command R A → Images → Images → Type 0
  Part c s found = IsPart remaining c s found

  command_stopped : (s : Images) (c : Command R A) (after : Standing) → CommandStep remaining (Standing.Up s) c Stopped after → StopsAt (Part c s) after
  command_stopped s (Revert text offset) after (inl refused) = absurd (let wrong = refused.0 in cc)
  command_stopped s (Revert text offset) after (inr step) = read_stopped (dump_change {A = A} offset) s (dump_pieces text) after step
  command_stopped s (RevertPlain text at) after (inl refused) = absurd (let wrong = refused.0 in cc)
  command_stopped s (RevertPlain text at) after (inr step) = read_stopped (plain_change {A = A} at) s (plain_answer text) after step
  command_stopped s (Dd operands input) after (left, (made, (makes, step))) =
      let stopped = dd_stopped s made after step in
      let part = stopped.2 in
      (stopped.0, stopped.1, (left, part.0, subst (λ r. MakesCopy operands (remaining input) left r) part.1 makes, part.2))
  command_stopped s (Copy plan input) after (left, (made, (makes, step))) =
      let stopped = dd_stopped s made after step in
      let part = stopped.2 in
      (stopped.0, stopped.1, (left, part.0, subst (λ r. MakesBy plan (remaining input) left r) part.1 makes, part.2))
  command_stopped s (Patch patch) after step = patch_stopped A s (asked_of patch) after step
  command_stopped s (Undo k) after step =
      call_stopped Undone (MovesUp (λ s k r t. UndoStep s.stack k r t.stack) undo_of k) (Part (Undo k) s) s after (λ m. refl)
      (λ call. moves_stop (λ s k r t. UndoStep s.stack k r t.stack) undo_of k s after call) step
  command_stopped s (Redo j) after step =
      call_stopped Redone (MovesUp RedoStep redo_of j) (Part (Redo j) s) s after (λ m. refl)
      (λ call. moves_stop RedoStep redo_of j s after call) step

module _ {R : Type 0} (remaining : R → Option (List ℕ)) where
  task_told : (s : Images) (task : Task R) (reply : Reply) (n : ℕ) (after : Standing) → HasImage s → stands_by reply ≡ Ok n
      → TaskStep remaining (Standing.Up s) task reply after → LeadsTo n after
  task_told s (Run command) reply n after some tells step = command_told remaining s command reply n after some tells step
  task_told s (Put read) reply n after some tells step = read_told (λ c. c) s read reply n after some tells step
  task_told s (Keep kept) reply n after some tells step = kept_told s kept reply n after some tells step

  task_stopped : (s : Images) (task : Task R) (after : Standing) → TaskStep remaining (Standing.Up s) task Stopped after
      → StopsAt (IsPartOfTask remaining task s) after
  task_stopped s (Run command) after step = command_stopped remaining s command after step
  task_stopped s (Put read) after step = put_stopped s read after step
  task_stopped s (Keep kept) after step = kept_stopped s kept after step

  done_of : (old new : Contents) (s : Images) (task : Task R) (reply : Reply) (n : ℕ) → Holds old s → stands_by reply ≡ Ok n
      → StepsTo remaining s task reply new → Changes remaining s task reply new n
  done_of old new s task reply n holds tells (after, step, ends) =
      let leads = task_told s task reply n after (has_image old s holds) tells step in
      record {
        next = leads.0;
        step = subst (λ a. TaskStep remaining (Standing.Up s) task reply a) leads.1 step;
        files = subst (λ a. EndsAt new a) leads.1 ends;
        standing = leads.2;
      }

  -- a task that is done
  pub changed_by : (old new : Contents) (s : Images) (task : Task R) (reply : Reply) → Holds old s
      → ((IsWholeRefusal reply → ⊥) → StepsTo remaining s task reply new) → IfOk (stands_by reply) (Changes remaining s task reply new)
  changed_by old new s task (Changed n) holds steps = done_of old new s task (Changed n) n holds refl (steps (λ whole. whole))
  changed_by old new s task (Copied n counts) holds steps = done_of old new s task (Copied n counts) n holds refl (steps (λ whole. whole))
  changed_by old new s task (Undone n) holds steps = done_of old new s task (Undone n) n holds refl (steps (λ whole. whole))
  changed_by old new s task (Redone n) holds steps = done_of old new s task (Redone n) n holds refl (steps (λ whole. whole))
  changed_by old new s task (Refused e) holds steps = tt

  stopped_by : (new : Contents) (s : Images) (task : Task R) → StepsTo remaining s task Stopped new → InterruptsChange remaining s task new
  stopped_by new s task (after, step, ends) =
      let stops = task_stopped s task after step in
      record { found = stops.0; part = stops.2; finds = subst (λ a. EndsAt new a) stops.1 ends }

  -- one that is interrupted
  pub interrupted_by : (new : Contents) (s : Images) (task : Task R) (reply : Reply) → reply ≡ Refused (Session Interrupted)
      → ((IsWholeRefusal reply → ⊥) → StepsTo remaining s task reply new) → InterruptsChange remaining s task new
  interrupted_by new s task reply is steps =
      stopped_by new s task (subst (λ p. StepsTo remaining s task p new) is (steps (λ whole. (subst IsWholeRefusal is whole) refl)))
