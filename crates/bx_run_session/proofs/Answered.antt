-- What an undo and a redo answer, from what their commands make of the files.
use Rattle.std.proofs.Common.{◌≡◌, ◌⊎◌, ◌∙◌, ◌≤◌, ℕ, List, Option, Some, None, refl, sym, ap, subst, inl, inr, arith}
use Rattle.std.specs.Prelude.{Result, Ok, Err, IfOk, IfErr, IfSome}
use Rattle.std.specs.Result.{MatchResult}
use Rattle.bx_journal.specs.Fault.{DeviceFault}
use Rattle.bx_journal.specs.Images.{Images, redo_of, undo_of}
use Rattle.bx_journal.specs.Machine.{RedoStep, UndoStep}
use Rattle.bx_journal.specs.Power.{Found}
use Rattle.bx_journal.specs.RecoveryOutcome.{RecoveryOutcome}
use Rattle.bx_journal.specs.Direction.{Direction}
use Rattle.bx_journal.specs.Direction.TheVariants.{Redo as Onward, Undo as Backward}
use Rattle.bx_journal.specs.SessionFault.{SessionFault}
use Rattle.bx_journal.specs.SessionFault.TheVariants.{NoMemory, TooLarge, DeviceFailed, Damaged, TooFew, JournalFull, Interrupted, Broken, LengthDiffers, NothingToRedo, RedoDamaged}
use Rattle.bx_journal.specs.Redo.{recovered_as}
use Rattle.bx_world.specs.World.{SystemState}
use Rattle.bx_world.specs.files.Files.{LeavesFiles}
use Rattle.bx_world.specs.declared.files.names.Names.{Names}
use Rattle.bx_world.specs.declared.files.unopened.OpenError.{OpenError}
use Rattle.bx_cli_commands.specs.Power.{images_of}
use Rattle.bx_cli_commands.specs.Refusal.{IsWholeRefusal}
use Rattle.bx_cli_commands.specs.Replies.{stands_by}
use Rattle.bx_cli_commands.specs.Run.{CallStep, RedoesStep, Unfailed, UndoesStep, answered}
use Rattle.bx_cli_commands.specs.Standing.{MovesUp, Standing}
use Rattle.bx_cli_commands.specs.declared.command.Reply.{Reply}
use Rattle.bx_cli_commands.specs.declared.command.Reply.TheVariants.{Changed, Copied, Redone, Refused, Undone}
use Rattle.bx_cli_commands.specs.declared.fault.Fault.{Fault}
use Rattle.bx_cli_commands.specs.declared.fault.Fault.TheVariants.{Io, OpenFailed, Session}
use Rattle.bx_run_session.specs.session.Contents.{Contents, DoesFound, EndsAt, FindsIn, Holds, IsUnopened, StandsIn, StepsRead, StepsTo, Survives, SurvivesFound}
use Rattle.bx_run_session.specs.session.Moves.{Course, HasMoved, IsMidway, IsMoved, MayNotMove, MovedFound, MovedRead, RefusesRecovered, RefusesMove, SparesMove, SurvivesMove, SurvivesMoved, again, back, command_by, stepped}
use Rattle.bx_run_session.specs.session.Named.{LeavesRefused, MayRefuse, NothingDone, contents_of}
use Rattle.bx_run_session.specs.session.Task.{TaskStep}
use Rattle.bx_run_session.specs.declared.session.task.Task.TheVariants.{Run}

abbrev number_or : ℕ → Result ℕ Fault → ℕ
number_or m (Ok n) = n
number_or m (Err e) = m

ok_injective : (m n : ℕ) → ◌≡◌ {A = Result ℕ Fault} (Ok m) (Ok n) → m ≡ n
ok_injective m n is = ap (number_or m) is

-- why a command was refused, whether its files were opened or not
pub reason : (OpenFailure : Type 0) (u : Option OpenError) (reply : Reply) (how : Option RecoveryOutcome) (old new : SystemState)
    → IfSome u (λ _. NothingDone reply how old new) → (u ≡ None → IsWholeRefusal reply → OpenFailure) → IsWholeRefusal reply
    → ((reply ≡ Refused OpenFailed) × (u ≡ None → ⊥)) ⊎ OpenFailure
reason OpenFailure None reply how old new un why whole = inr (why refl whole)
reason OpenFailure (Some x) reply how old new un why whole = inl (un.0, λ e. (let wrong : Some x ≡ None = e in cc))

-- where changes were moved the files were opened
pub opened_moved : (u : Option OpenError) (reply : Reply) (how : Option RecoveryOutcome) (old new : SystemState) → IfSome u (λ _. NothingDone reply how old new)
    → HasMoved (stands_by reply) → u ≡ None
opened_moved None reply how old new un has = refl
opened_moved (Some x) reply how old new un has = absurd (subst (λ p. HasMoved (stands_by p)) un.0 has)

-- files that weren't opened
pub nothing_moved : (u : Option OpenError) (reply : Reply) (how : Option RecoveryOutcome) (old new : SystemState) → IfSome u (λ _. NothingDone reply how old new)
    → IfSome u (λ _. (stands_by reply ≡ Err OpenFailed) × (how ≡ None) × LeavesFiles old new)
nothing_moved None reply how old new un = tt
nothing_moved (Some x) reply how old new un = (ap stands_by un.0, un.1, un.2)

-- a device, or want of memory
device_may : (k : ℕ) (course : Course) (e : SessionFault) → DeviceFault e → MayNotMove k course (Session e)
device_may k course NoMemory is = tt
device_may k course DeviceFailed is = tt
device_may k course Interrupted is = tt
device_may k course e is = absurd is

module _ (s : Images) (k : ℕ) (course : Course) (moved : ℕ → Images → Images) (made : ℕ → Reply)
    (Step : Images → ℕ → Result ℕ SessionFault → Images → Type 0) (course_is : (i : ℕ) → moved i s ≡ course.moved i)
    (made_is : (n : ℕ) → stands_by (made n) ≡ Ok n)
    (enough : (n : ℕ) (new : Images) → Step s k (Ok n) new → (k ≤ course.most) × (n ≡ course.left k))
    (refuses : (e : SessionFault) → Step s k (Err e) s → MayNotMove k course (Session e)) where
  abbrev Call : Reply → Standing → Type 0
  Call reply after = CallStep made (MovesUp Step moved k) (Standing.Up s) reply after

  -- a reply that tells a number
  answered_ok : (reply : Reply) (n : ℕ) (c : Contents) (r : Result ℕ SessionFault) (after : Standing) → reply ≡ answered made r → stands_by reply ≡ Ok n
      → MovesUp Step moved k s r after → EndsAt c after → IsMoved k course n c
  answered_ok reply n c (Ok m) after is tells moves ends =
      let step = enough m moves.0 moves.2 in
      let same : n ≡ m = ok_injective n m (sym tells ∙ ap stands_by is ∙ made_is m) in
      record {
        enough = step.0;
        left_is = same ∙ step.1;
        files = subst (λ a. EndsAt c a) (moves.1 ∙ ap Standing.Up (moves.3 ∙ course_is k)) ends;
      }
  answered_ok reply n c (Err e) after is tells moves ends = absurd (let wrong : Ok n ≡ Err (Session e) = sym tells ∙ ap stands_by is in cc)

  -- one that tells of an interruption
  answered_down : (c : Contents) (r : Result ℕ SessionFault) (after : Standing) → Refused (Session Interrupted) ≡ answered made r
      → MovesUp Step moved k s r after → EndsAt c after → (i : ℕ) × (i ≤ k) × FindsIn c (course.moved i)
  answered_down c (Ok m) after is moves ends =
      absurd (let wrong : Err (Session Interrupted) ≡ Ok m = ap stands_by is ∙ made_is m in cc)
  answered_down c (Err Interrupted) after is moves ends =
      (moves.0, moves.1, subst (λ a. EndsAt c a) (moves.2 ∙ ap Standing.Down (course_is moves.0)) ends)
  answered_down c (Err e) after is moves ends = absurd (let wrong : Refused (Session Interrupted) ≡ Refused (Session e) = is in cc)

  -- where a loss of power finds one
  pub end_of : (reply : Reply) (r : Result ℕ SessionFault) (after : Standing) → (IsWholeRefusal reply → ⊥) → reply ≡ answered made r
      → MovesUp Step moved k s r after → (i : ℕ) × (i ≤ k) × (images_of after ≡ course.moved i)
  end_of reply (Ok m) after begun is moves = (k, omega arith, ap images_of moves.1 ∙ moves.3 ∙ course_is k)
  end_of reply (Err Interrupted) after begun is moves = (moves.0, moves.1, ap images_of moves.2 ∙ course_is moves.0)
  end_of reply (Err e) after begun is moves = absurd (begun (subst IsWholeRefusal (sym is) (λ wrong. cc)))

  told : (reply : Reply) (n : ℕ) (c : Contents) → stands_by reply ≡ Ok n → ((after : Standing) × Call reply after × EndsAt c after) → IsMoved k course n c
  told reply n c tells step = answered_ok reply n c step.1.0 step.0 step.1.1 tells step.1.2 step.2

  pub answers_ok : (reply : Reply) (c : Contents) → ((IsWholeRefusal reply → ⊥) → (after : Standing) × Call reply after × EndsAt c after)
      → IfOk (stands_by reply) (λ left. IsMoved k course left c)
  answers_ok (Changed n) c steps = told (Changed n) n c refl (steps (λ whole. whole))
  answers_ok (Copied n counts) c steps = told (Copied n counts) n c refl (steps (λ whole. whole))
  answers_ok (Undone n) c steps = told (Undone n) n c refl (steps (λ whole. whole))
  answers_ok (Redone n) c steps = told (Redone n) n c refl (steps (λ whole. whole))
  answers_ok (Refused e) c steps = tt

  down : (c : Contents) → ((after : Standing) × Call (Refused (Session Interrupted)) after × EndsAt c after) → (i : ℕ) × (i ≤ k) × FindsIn c (course.moved i)
  down c step = answered_down c step.1.0 step.0 step.1.1 step.1.2 step.2

  stop_may : (after : Standing) (e : SessionFault) → MovesUp Step moved k s (Err e) after → MayNotMove k course (Session e)
  stop_may after DeviceFailed moves = tt
  stop_may after Interrupted moves = tt
  stop_may after e moves = refuses e moves.1

  call_may : (e : Fault) (r : Result ℕ SessionFault) (after : Standing) → Refused e ≡ answered made r → MovesUp Step moved k s r after
      → MayNotMove k course e
  call_may e (Ok m) after is moves = absurd (let wrong : Err e ≡ Ok m = ap stands_by is ∙ made_is m in cc)
  call_may e (Err f) after is moves = let same : e ≡ Session f = cc in subst (MayNotMove k course) (sym same) (stop_may after f moves)

  may : (e : Fault) → IsUnopened (Refused e) ⊎ ((after : Standing) × Call (Refused e) after) → MayNotMove k course e
  may e why = elim why [
    | inl un ↦ let is = un.1 in let same : e ≡ Session un.0 = cc in subst (MayNotMove k course) (sym same) (device_may k course un.0 un.2)
    | inr step ↦ call_may e step.1.0 step.0 step.1.1 step.1.2
  ]

  abbrev Reason : Option OpenError → Reply → Type 0
  Reason u reply = ((reply ≡ Refused OpenFailed) × (u ≡ None → ⊥)) ⊎ (IsUnopened reply ⊎ ((after : Standing) × Call reply after))

  unopened_told : (u : Option OpenError) → Reason u (Refused OpenFailed) → u ≡ None → ⊥
  unopened_told u why = elim why [
    | inl un ↦ un.1
    | inr rest ↦ absurd (may OpenFailed rest)
  ]

  opened_may : (u : Option OpenError) (e : Fault) → (Refused e ≡ Refused OpenFailed → ⊥) → Reason u (Refused e) → MayNotMove k course e
  opened_may u e other why = elim why [
    | inl un ↦ absurd (other un.0)
    | inr rest ↦ may e rest
  ]

  pub answers_err : (names : Names) (u : Option OpenError) (old new : SystemState) (reply : Reply)
      → ((IsWholeRefusal reply → ⊥) → (after : Standing) × Call reply after × EndsAt (contents_of names new) after)
      → (IsWholeRefusal reply → LeavesFiles old new) → (IsWholeRefusal reply → Reason u reply)
      → IfErr (stands_by reply) (RefusesMove names k course u old new)
  answers_err names u old new (Changed n) steps leaves why = tt
  answers_err names u old new (Copied n counts) steps leaves why = tt
  answers_err names u old new (Undone n) steps leaves why = tt
  answers_err names u old new (Redone n) steps leaves why = tt
  answers_err names u old new (Refused (Session Interrupted)) steps leaves why = down (contents_of names new) (steps (λ whole. whole refl))
  answers_err names u old new (Refused OpenFailed) steps leaves why = (unopened_told u (why (λ wrong. cc)), leaves (λ wrong. cc))
  answers_err names u old new (Refused e) steps leaves why = (opened_may u e (λ wrong. cc) (why (λ wrong. cc)), leaves (λ wrong. cc))

  -- a call that was refused, and not interrupted, leaves the images
  stays_up : (f : SessionFault) (after : Standing) → (Session f ≡ Session Interrupted → ⊥) → MovesUp Step moved k s (Err f) after → after ≡ Standing.Up s
  stays_up DeviceFailed after whole moves = moves
  stays_up Interrupted after whole moves = absurd (whole refl)
  stays_up f after whole moves = moves.0

  holds_still : moved 0 s ≡ s → (e : Fault) (c : Contents) (r : Result ℕ SessionFault) (after : Standing) → (e ≡ Session Interrupted → ⊥)
      → Refused e ≡ answered made r → MovesUp Step moved k s r after → EndsAt c after → Holds c (course.moved 0)
  holds_still none e c (Ok m) after whole is moves ends = absurd (let wrong : Err e ≡ Ok m = ap stands_by is ∙ made_is m in cc)
  holds_still none e c (Err f) after whole is moves ends =
      let same : e ≡ Session f = cc in
      let up = stays_up f after (λ wrong. whole (same ∙ wrong)) moves in
      subst (λ t. Holds c t) (sym none ∙ course_is 0) (subst (λ a. EndsAt c a) up ends)

  found_refused : moved 0 s ≡ s → (e : Fault) (c : Contents) → (e ≡ Session Interrupted → ⊥) → ((after : Standing) × Call (Refused e) after × EndsAt c after)
      → MayNotMove k course e × Holds c (course.moved 0)
  found_refused none e c whole step =
      (call_may e step.1.0 step.0 step.1.1 step.1.2, holds_still none e c step.1.0 step.0 whole step.1.1 step.1.2 step.2)

  pub answers_found : moved 0 s ≡ s → (reply : Reply) (c : Contents) → ((after : Standing) × Call reply after × EndsAt c after)
      → MatchResult (stands_by reply) (λ left. IsMoved k course left c) (RefusesRecovered k course c)
  answers_found none (Changed n) c step = told (Changed n) n c refl step
  answers_found none (Copied n counts) c step = told (Copied n counts) n c refl step
  answers_found none (Undone n) c step = told (Undone n) n c refl step
  answers_found none (Redone n) c step = told (Redone n) n c refl step
  answers_found none (Refused (Session Interrupted)) c step = down c step
  answers_found none (Refused e) c step = found_refused none e c (λ wrong. cc) step

  -- a reply that tells a number, from images for which the three stand
  read_ok : (reply : Reply) (n : ℕ) (c : Contents) (r : Result ℕ SessionFault) (next : Images) → reply ≡ answered made r → stands_by reply ≡ Ok n
      → MovesUp Step moved k s r (Standing.Up next) → StandsIn c next → (k ≤ course.most) × (n ≡ course.left k) × StandsIn c (course.moved k)
  read_ok reply n c (Ok m) next is tells moves ends =
      let step = enough m moves.0 moves.2 in
      let same : n ≡ m = ok_injective n m (sym tells ∙ ap stands_by is ∙ made_is m) in
      (step.0, same ∙ step.1, subst (StandsIn c) (ap images_of moves.1 ∙ moves.3 ∙ course_is k) ends)
  read_ok reply n c (Err e) next is tells moves ends = absurd (let wrong : Ok n ≡ Err (Session e) = sym tells ∙ ap stands_by is in cc)

  read_told : (reply : Reply) (n : ℕ) (c : Contents) → stands_by reply ≡ Ok n → ((next : Images) × Call reply (Standing.Up next) × StandsIn c next)
      → (k ≤ course.most) × (n ≡ course.left k) × StandsIn c (course.moved k)
  read_told reply n c tells step = read_ok reply n c step.1.0 step.0 step.1.1 tells step.1.2 step.2

  pub answers_read : (reply : Reply) (c : Contents) → ((next : Images) × Call reply (Standing.Up next) × StandsIn c next)
      → IfOk (stands_by reply) (λ left. (k ≤ course.most) × (left ≡ course.left k) × StandsIn c (course.moved k))
  answers_read (Changed n) c step = read_told (Changed n) n c refl step
  answers_read (Copied n counts) c step = read_told (Copied n counts) n c refl step
  answers_read (Undone n) c step = read_told (Undone n) n c refl step
  answers_read (Redone n) c step = read_told (Redone n) n c refl step
  answers_read (Refused e) c step = tt

  pub survives_call : (image journal redo : List ℕ → Type 0) (reply : Reply) → (IsWholeRefusal reply → ⊥)
      → ((x text redo_text : List ℕ) → image x → journal text → redo redo_text
      → (after : Standing) × Call reply after × Found text x redo_text (images_of after))
      → SurvivesMove k course image journal redo
  survives_call image journal redo reply begun finds x text redo_text there text_there redo_there =
      let found = finds x text redo_text there text_there redo_there in
      let end = end_of reply found.1.0 found.0 begun found.1.1 found.1.2 in
      (end.0, end.1, subst (Found text x redo_text) end.2 found.2)

-- an undo that is refused
undo_refuses : (s : Images) (k : ℕ) (e : SessionFault) → UndoStep s.stack k (Err e) s.stack → MayNotMove k (back s) (Session e)
undo_refuses s k NoMemory step = tt
undo_refuses s k TooLarge step = absurd step
undo_refuses s k DeviceFailed step = tt
undo_refuses s k (Damaged line) step = absurd step
undo_refuses s k (TooFew have) step = (step.0, ap TooFew step.1)
undo_refuses s k JournalFull step = absurd step
undo_refuses s k Interrupted step = tt
undo_refuses s k Broken step = absurd step
undo_refuses s k (LengthDiffers expected) step = absurd step
undo_refuses s k (NothingToRedo have) step = absurd step
undo_refuses s k (RedoDamaged line) step = absurd step

-- a redo
redo_refuses : (s : Images) (k : ℕ) (e : SessionFault) → RedoStep s k (Err e) s → MayNotMove k (again s) (Session e)
redo_refuses s k NoMemory step = tt
redo_refuses s k TooLarge step = absurd step
redo_refuses s k DeviceFailed step = tt
redo_refuses s k (Damaged line) step = absurd step
redo_refuses s k (TooFew have) step = absurd step
redo_refuses s k JournalFull step = absurd step
redo_refuses s k Interrupted step = tt
redo_refuses s k Broken step = absurd step
redo_refuses s k (LengthDiffers expected) step = absurd step
redo_refuses s k (NothingToRedo have) step = (step.0, ap NothingToRedo step.1)
redo_refuses s k (RedoDamaged line) step = absurd step

module _ (s : Images) (k : ℕ) where
  abbrev Undoing : Reply → Standing → Type 0
  Undoing reply after = UndoesStep (Standing.Up s) k reply after

  pub undone_ok : (reply : Reply) (c : Contents) → ((IsWholeRefusal reply → ⊥) → (after : Standing) × Undoing reply after × EndsAt c after)
      → IfOk (stands_by reply) (λ left. IsMoved k (back s) left c)
  undone_ok reply c steps =
      answers_ok s k (back s) undo_of Undone (λ s k r t. UndoStep s.stack k r t.stack) (λ i. refl) (λ n. refl) (λ n new step. (step.0, step.1))
      (undo_refuses s k) reply c steps

  pub undone_found : (reply : Reply) (c : Contents) → ((after : Standing) × Undoing reply after × EndsAt c after)
      → MatchResult (stands_by reply) (λ left. IsMoved k (back s) left c) (RefusesRecovered k (back s) c)
  undone_found reply c step =
      answers_found s k (back s) undo_of Undone (λ s k r t. UndoStep s.stack k r t.stack) (λ i. refl) (λ n. refl) (λ n new step. (step.0, step.1))
      (undo_refuses s k) refl reply c step

  pub undone_read : (reply : Reply) (c : Contents) → ((next : Images) × Undoing reply (Standing.Up next) × StandsIn c next)
      → IfOk (stands_by reply) (λ left. (k ≤ (back s).most) × (left ≡ (back s).left k) × StandsIn c ((back s).moved k))
  undone_read reply c step =
      answers_read s k (back s) undo_of Undone (λ s k r t. UndoStep s.stack k r t.stack) (λ i. refl) (λ n. refl) (λ n new step. (step.0, step.1))
      (undo_refuses s k) reply c step

  pub undone_err : (names : Names) (u : Option OpenError) (old new : SystemState) (reply : Reply)
      → ((IsWholeRefusal reply → ⊥) → (after : Standing) × Undoing reply after × EndsAt (contents_of names new) after)
      → (IsWholeRefusal reply → LeavesFiles old new)
      → (IsWholeRefusal reply → ((reply ≡ Refused OpenFailed) × (u ≡ None → ⊥)) ⊎ (IsUnopened reply ⊎ ((after : Standing) × Undoing reply after)))
      → IfErr (stands_by reply) (RefusesMove names k (back s) u old new)
  undone_err names u old new reply steps leaves why =
      answers_err s k (back s) undo_of Undone (λ s k r t. UndoStep s.stack k r t.stack) (λ i. refl) (λ n. refl) (λ n new step. (step.0, step.1))
      (undo_refuses s k) names u old new reply steps leaves why

  pub undone_survives : (image journal redo : List ℕ → Type 0) (reply : Reply) → (IsWholeRefusal reply → ⊥)
      → ((x text redo_text : List ℕ) → image x → journal text → redo redo_text
      → (after : Standing) × Undoing reply after × Found text x redo_text (images_of after))
      → SurvivesMove k (back s) image journal redo
  undone_survives image journal redo reply begun finds =
      survives_call s k (back s) undo_of Undone (λ s k r t. UndoStep s.stack k r t.stack) (λ i. refl) (λ n. refl) (λ n new step. (step.0, step.1))
      (undo_refuses s k) image journal redo reply begun finds

module _ (s : Images) (k : ℕ) where
  abbrev Redoing : Reply → Standing → Type 0
  Redoing reply after = RedoesStep (Standing.Up s) k reply after

  pub redone_ok : (reply : Reply) (c : Contents) → ((IsWholeRefusal reply → ⊥) → (after : Standing) × Redoing reply after × EndsAt c after)
      → IfOk (stands_by reply) (λ left. IsMoved k (again s) left c)
  redone_ok reply c steps =
      answers_ok s k (again s) redo_of Redone RedoStep (λ i. refl) (λ n. refl) (λ n new step. (step.0, step.1)) (redo_refuses s k) reply c steps

  pub redone_found : (reply : Reply) (c : Contents) → ((after : Standing) × Redoing reply after × EndsAt c after)
      → MatchResult (stands_by reply) (λ left. IsMoved k (again s) left c) (RefusesRecovered k (again s) c)
  redone_found reply c step =
      answers_found s k (again s) redo_of Redone RedoStep (λ i. refl) (λ n. refl) (λ n new step. (step.0, step.1)) (redo_refuses s k) refl reply c step

  pub redone_read : (reply : Reply) (c : Contents) → ((next : Images) × Redoing reply (Standing.Up next) × StandsIn c next)
      → IfOk (stands_by reply) (λ left. (k ≤ (again s).most) × (left ≡ (again s).left k) × StandsIn c ((again s).moved k))
  redone_read reply c step =
      answers_read s k (again s) redo_of Redone RedoStep (λ i. refl) (λ n. refl) (λ n new step. (step.0, step.1)) (redo_refuses s k) reply c step

  pub redone_err : (names : Names) (u : Option OpenError) (old new : SystemState) (reply : Reply)
      → ((IsWholeRefusal reply → ⊥) → (after : Standing) × Redoing reply after × EndsAt (contents_of names new) after)
      → (IsWholeRefusal reply → LeavesFiles old new)
      → (IsWholeRefusal reply → ((reply ≡ Refused OpenFailed) × (u ≡ None → ⊥)) ⊎ (IsUnopened reply ⊎ ((after : Standing) × Redoing reply after)))
      → IfErr (stands_by reply) (RefusesMove names k (again s) u old new)
  redone_err names u old new reply steps leaves why =
      answers_err s k (again s) redo_of Redone RedoStep (λ i. refl) (λ n. refl) (λ n new step. (step.0, step.1))
      (redo_refuses s k) names u old new reply steps leaves why

  pub redone_survives : (image journal redo : List ℕ → Type 0) (reply : Reply) → (IsWholeRefusal reply → ⊥)
      → ((x text redo_text : List ℕ) → image x → journal text → redo redo_text
      → (after : Standing) × Redoing reply after × Found text x redo_text (images_of after))
      → SurvivesMove k (again s) image journal redo
  redone_survives image journal redo reply begun finds =
      survives_call s k (again s) redo_of Redone RedoStep (λ i. refl) (λ n. refl) (λ n new step. (step.0, step.1)) (redo_refuses s k)
      image journal redo reply begun finds

-- changes were moved: the command wasn't refused whole
begun_by : (names : Names) (k : ℕ) (course : Course) (u : Option OpenError) (old new : SystemState) (reply : Reply) → HasMoved (stands_by reply)
    → IfErr (stands_by reply) (RefusesMove names k course u old new) → IsWholeRefusal reply → ⊥
begun_by names k course u old new (Changed n) has refuses whole = whole
begun_by names k course u old new (Copied n counts) has refuses whole = whole
begun_by names k course u old new (Undone n) has refuses whole = whole
begun_by names k course u old new (Redone n) has refuses whole = whole
begun_by names k course u old new (Refused (Session Interrupted)) has refuses whole = whole refl
begun_by names k course u old new (Refused (Io fault)) has refuses whole = refuses.0
begun_by names k course u old new (Refused e) has refuses whole = has

map_ok : (o : Result ℕ Fault) (P Q : ℕ → Type 0) → ((n : ℕ) → P n → Q n) → IfOk o P → IfOk o Q
map_ok (Ok n) P Q f p = f n p
map_ok (Err e) P Q f p = tt

-- where none was moved, the command was refused whole
pub whole_of : (reply : Reply) → (HasMoved (stands_by reply) → ⊥) → IsWholeRefusal reply
whole_of (Changed n) unmoved = absurd (unmoved tt)
whole_of (Copied n counts) unmoved = absurd (unmoved tt)
whole_of (Undone n) unmoved = absurd (unmoved tt)
whole_of (Redone n) unmoved = absurd (unmoved tt)
whole_of (Refused e) unmoved = λ is. unmoved (subst IsMidway (sym is) tt)

-- the same where opening found images
begun_found : (k : ℕ) (course : Course) (c : Contents) (reply : Reply) → HasMoved (stands_by reply)
    → MatchResult (stands_by reply) (λ left. IsMoved k course left c) (RefusesRecovered k course c) → IsWholeRefusal reply → ⊥
begun_found k course c (Changed n) has found whole = whole
begun_found k course c (Copied n counts) has found whole = whole
begun_found k course c (Undone n) has found whole = whole
begun_found k course c (Redone n) has found whole = whole
begun_found k course c (Refused (Session Interrupted)) has found whole = whole refl
begun_found k course c (Refused (Io fault)) has found whole = found.0
begun_found k course c (Refused e) has found whole = has

-- nor was an opening that was stopped in the middle
begun_unfound : (e : SessionFault) (reply : Reply) → reply ≡ Refused (Session e) → HasMoved (stands_by reply) → IsWholeRefusal reply → ⊥
begun_unfound Interrupted reply is has whole = (subst IsWholeRefusal is whole) refl
begun_unfound e reply is has whole = subst (λ p. HasMoved (stands_by p)) is has

-- a command that was refused, and not stopped in the middle, leaves all files
pub spares_by : (names : Names) (u : Option OpenError) (how : Option RecoveryOutcome) (old new : SystemState) (reply : Reply)
    → (IsWholeRefusal reply → LeavesRefused names u how old new) → IfErr (stands_by reply) (SparesMove names u how old new)
spares_by names u how old new (Changed n) leaves = tt
spares_by names u how old new (Copied n counts) leaves = tt
spares_by names u how old new (Undone n) leaves = tt
spares_by names u how old new (Redone n) leaves = tt
spares_by names u how old new (Refused e) leaves = λ whole. leaves (λ is. whole (subst IsMidway (sym is) tt))

module _ {R : Type 0} (remaining : R → Option (List ℕ)) where
  abbrev Steps : Direction → Images → ℕ → Reply → Contents → Type 0
  Steps way s k reply c = StepsTo remaining s (Run (command_by {R = R} way k)) reply c

  abbrev Refuses : Direction → Images → ℕ → Reply → Type 0
  Refuses way s k reply = MayRefuse remaining s (Run (command_by {R = R} way k)) reply

  -- changes that were moved one way
  pub moved_ok : (way : Direction) (s : Images) (k : ℕ) (reply : Reply) (c : Contents) → ((IsWholeRefusal reply → ⊥) → Steps way s k reply c)
      → IfOk (stands_by reply) (λ left. IsMoved k (stepped way s) left c)
  moved_ok Backward s k reply c steps = undone_ok s k reply c steps
  moved_ok Onward s k reply c steps = redone_ok s k reply c steps

  -- and those that were not
  pub moved_err : (way : Direction) (s : Images) (k : ℕ) (names : Names) (u : Option OpenError) (old new : SystemState) (reply : Reply)
      → ((IsWholeRefusal reply → ⊥) → Steps way s k reply (contents_of names new)) → (IsWholeRefusal reply → LeavesFiles old new)
      → (IsWholeRefusal reply → ((reply ≡ Refused OpenFailed) × (u ≡ None → ⊥)) ⊎ Refuses way s k reply)
      → IfErr (stands_by reply) (RefusesMove names k (stepped way s) u old new)
  moved_err Backward s k names u old new reply steps leaves why = undone_err s k names u old new reply steps leaves why
  moved_err Onward s k names u old new reply steps leaves why = redone_err s k names u old new reply steps leaves why

  -- where a loss of power finds them
  pub moved_survives : (way : Direction) (s : Images) (k : ℕ) (names : Names) (u : Option OpenError) (old new : SystemState) (image journal redo : List ℕ → Type 0)
      (reply : Reply) → HasMoved (stands_by reply) → IfErr (stands_by reply) (RefusesMove names k (stepped way s) u old new)
      → ((IsWholeRefusal reply → ⊥) → Survives remaining s (Run (command_by {R = R} way k)) reply image journal redo)
      → SurvivesMove k (stepped way s) image journal redo
  moved_survives Backward s k names u old new image journal redo reply has refuses finds =
      let begun = begun_by names k (back s) u old new reply has refuses in undone_survives s k image journal redo reply begun (finds begun)
  moved_survives Onward s k names u old new image journal redo reply has refuses finds =
      let begun = begun_by names k (again s) u old new reply has refuses in redone_survives s k image journal redo reply begun (finds begun)

  -- what is recovered, moved
  steps_found : (way : Direction) (s : Images) (k : ℕ) (reply : Reply) (c : Contents) → Steps way s k reply c
      → MatchResult (stands_by reply) (λ left. IsMoved k (stepped way s) left c) (RefusesRecovered k (stepped way s) c)
  steps_found Backward s k reply c step = undone_found s k reply c step
  steps_found Onward s k reply c step = redone_found s k reply c step

  pub moved_found : (way : Direction) (s : Images) (k : ℕ) (how : Option RecoveryOutcome) (reply : Reply) (c : Contents)
      → DoesFound remaining s (Run (command_by {R = R} way k)) how reply c → MovedFound k way s how (stands_by reply) c
  moved_found way s k None reply c found = (found.0, ap stands_by found.1, found.2)
  moved_found way s k (Some h) reply c found = steps_found way (recovered_as h s) k reply c found

  -- what opening took, moved
  read_way : (way : Direction) (s : Images) (k : ℕ) (reply : Reply) (c : Contents)
      → ((next : Images) × TaskStep remaining (Standing.Up s) (Run (command_by {R = R} way k)) reply (Standing.Up next) × StandsIn c next)
      → IfOk (stands_by reply) (λ left. (k ≤ (stepped way s).most) × (left ≡ (stepped way s).left k) × StandsIn c ((stepped way s).moved k))
  read_way Backward s k reply c step = undone_read s k reply c step
  read_way Onward s k reply c step = redone_read s k reply c step

  read_steps : (way : Direction) (k : ℕ) (h : RecoveryOutcome) (reply : Reply) (old new : Contents) → StepsRead remaining (Run (command_by {R = R} way k)) h reply old new
      → IfOk (stands_by reply) (λ left. MovedRead k way h left old new)
  read_steps way k h reply old new steps = map_ok (stands_by reply)
      (λ left. (k ≤ (stepped way steps.before).most) × (left ≡ (stepped way steps.before).left k) × StandsIn new ((stepped way steps.before).moved k))
      (λ left. MovedRead k way h left old new)
      (λ left p. record { before = steps.before; read = steps.read; enough = p.0; left_is = p.1; ends = p.2 })
      (read_way way steps.before k reply new (steps.next, steps.step, steps.ends))

  read_reply : (way : Direction) (k : ℕ) (h : RecoveryOutcome) (reply : Reply) (old new : Contents)
      → (Unfailed reply → StepsRead remaining (Run (command_by {R = R} way k)) h reply old new)
      → IfOk (stands_by reply) (λ left. MovedRead k way h left old new)
  read_reply way k h (Changed n) old new steps = read_steps way k h (Changed n) old new (steps refl)
  read_reply way k h (Copied n counts) old new steps = read_steps way k h (Copied n counts) old new (steps refl)
  read_reply way k h (Undone n) old new steps = read_steps way k h (Undone n) old new (steps refl)
  read_reply way k h (Redone n) old new steps = read_steps way k h (Redone n) old new (steps refl)
  read_reply way k h (Refused e) old new steps = tt

  pub moved_read : (way : Direction) (k : ℕ) (how : Option RecoveryOutcome) (reply : Reply) (old new : Contents)
      → (Unfailed reply → IfSome how (λ h. StepsRead remaining (Run (command_by {R = R} way k)) h reply old new))
      → IfSome how (λ h. IfOk (stands_by reply) (λ left. MovedRead k way h left old new))
  moved_read way k None reply old new steps = tt
  moved_read way k (Some h) reply old new steps = read_reply way k h reply old new steps

  -- where a loss of power finds it
  pub found_survives : (way : Direction) (s : Images) (k : ℕ) (how : Option RecoveryOutcome) (c : Contents) (image journal redo : List ℕ → Type 0) (reply : Reply)
      → HasMoved (stands_by reply) → DoesFound remaining s (Run (command_by {R = R} way k)) how reply c
      → ((IsWholeRefusal reply → ⊥) → SurvivesFound remaining s (Run (command_by {R = R} way k)) how reply image journal redo)
      → SurvivesMoved k way s how image journal redo
  found_survives way s k None c image journal redo reply has found finds = finds (begun_unfound found.0 reply found.1 has)
  found_survives Backward s k (Some h) c image journal redo reply has found finds =
      let begun = begun_found k (back (recovered_as h s)) c reply has (undone_found (recovered_as h s) k reply c found) in
      undone_survives (recovered_as h s) k image journal redo reply begun (finds begun)
  found_survives Onward s k (Some h) c image journal redo reply has found finds =
      let begun = begun_found k (again (recovered_as h s)) c reply has (redone_found (recovered_as h s) k reply c found) in
      redone_survives (recovered_as h s) k image journal redo reply begun (finds begun)

-- why files weren't opened, behind what was said of the rest
pub why_kept : (u : Option OpenError) (noted told new : ℕ) (W : ℕ → OpenError → Type 0) → told ≡ noted → new ≡ told → IfSome u (W noted) → IfSome u (W new)
why_kept None noted told new W keeps is why = tt
why_kept (Some u) noted told new W keeps is why = subst (λ n. W n u) (sym (is ∙ keeps)) why
