-- What an opening leaves to a history that is dropped behind it, and that to a change.
use Rattle.std.proofs.Common.{◌≡◌, ◌∙◌, ◌<◌, ◌≤◌, ◌++◌, ℕ, zero, suc, Option, Some, None, List, [], ◌∷◌, take, refl, sym, ap, subst, inl, inr, append-nil, arith, Result, Ok, Err}
use Rattle.std.specs.Prelude.{true, IfOk, IfSome, OnOk}
use Rattle.std.specs.Option.{option_map_or}
use Rattle.bx_journal.specs.Fault.{DeviceFault}
use Rattle.bx_journal.specs.Forgotten.{only}
use Rattle.bx_journal.specs.RecoveryOutcome.{RecoveryOutcome}
use Rattle.bx_journal.specs.Images.{Images, undo_of}
use Rattle.bx_journal.specs.Machine.{UndoStep, top}
use Rattle.bx_journal.specs.Power.{Found}
use Rattle.bx_journal.specs.Stack.{stack_of}
use Rattle.bx_journal.specs.Text.{Entry}
use Rattle.bx_journal.specs.SessionFault.{SessionFault}
use Rattle.bx_journal.specs.SessionFault.TheVariants.{DeviceFailed, Damaged, Interrupted, LengthDiffers, RedoDamaged}
use Rattle.bx_journal.specs.Redo.{recovered_as}
use Rattle.bx_cli_commands.specs.Power.{images_of}
use Rattle.bx_cli_commands.specs.Refusal.{IsWholeRefusal}
use Rattle.bx_cli_commands.specs.Replies.{stands_by}
use Rattle.bx_cli_commands.specs.Run.{answered}
use Rattle.bx_cli_commands.specs.Standing.{MovesUp, Standing}
use Rattle.bx_cli_commands.specs.declared.command.Reply.{Reply}
use Rattle.bx_cli_commands.specs.declared.command.Reply.TheVariants.{Changed, Copied, Redone, Refused, Undone}
use Rattle.bx_cli_commands.specs.declared.fault.Fault.{Fault}
use Rattle.bx_cli_commands.specs.declared.fault.Fault.TheVariants.{OpenFailed, Session}
use Rattle.bx_world.specs.World.{SystemState, Spares, Trio, held}
use Rattle.bx_world.specs.files.Files.{AreAllThere, LeadsToMade, LeavesFiles}
use Rattle.bx_world.specs.declared.files.guard.Guard.{Guard}
use Rattle.bx_world.specs.declared.files.names.Names.{Names}
use Rattle.bx_world.specs.declared.files.unopened.OpenError.{OpenError}
use Rattle.bx_run_session.specs.session.Changes.{Changes, SaysRecovered}
use Rattle.bx_run_session.specs.session.Contents.{Contents, DoesFound, EndsAt, FoundIn, Holds, Survives, SurvivesFound}
use Rattle.bx_run_session.specs.session.Moves.{TellsRecovered, recovered_line}
use Rattle.bx_run_session.specs.session.Guarded.{WereOpened, another}
use Rattle.bx_run_session.specs.session.Named.{AreNotLeft, IsNamedBy, IsUnrecovered, KeepsOthers, LeadTo, MayRefuse, MayRefuseTask, NothingDone, contents_of, no_change}
use Rattle.bx_run_session.specs.session.Task.{TaskStep}
use Rattle.bx_run_session.specs.declared.session.named.Answer.{Answer}
use Rattle.bx_run_session.specs.declared.session.task.Task.{Task}
use Rattle.bx_run_session.proofs.Begun.{none_other}
use Rattle.bx_run_session.proofs.Refused.{same_spared}
use Rattle.bx_run.specs.forget.Forgetting.{HasForgotten, IsNoTextNamed, IsOfTexts, IsUntouched, StopsForgetting, SurvivesForgetting, held_by_names}
use Rattle.bx_run_report.specs.declared.report.error.ReportError.{ReportError}
use Rattle.bx_run_report.specs.declared.report.error.ReportError.TheVariants.{Another as OtherImage, Unopened as UnopenedFile, Unfinished, Stopped}
use Rattle.bx_run.specs.run.Changing.{DoesChange}
use Rattle.bx_run.specs.renew.Renewal.{ChangesAlone, IsDroppable, IsOfAnother, JudgesOpening, KeepsNamed, LosesUndropped, MayDrop, MayNotOpenToDrop, only_told}

-- an undo of no change leaves the images
undone_none : (s : Images) (i : ℕ) → i ≤ 0 → undo_of i s ≡ s
undone_none s zero le = refl
undone_none s (suc i) le = absurd (omega (arith, le))

abbrev UndoesNone : Images → Result ℕ SessionFault → Standing → Type 0
UndoesNone s r after = MovesUp (λ s k r t. UndoStep s.stack k r t.stack) undo_of 0 s r after

none_refused : (s : Images) (e : SessionFault) (after : Standing) → UndoesNone s (Err e) after → images_of after ≡ s
none_refused s DeviceFailed after call = ap images_of call
none_refused s Interrupted after call = ap images_of call.2 ∙ undone_none s call.0 call.1
none_refused s e after call = ap images_of call.0

none_moved : (s : Images) (r : Result ℕ SessionFault) (after : Standing) → UndoesNone s r after → images_of after ≡ s
none_moved s (Ok n) after call = ap images_of call.1 ∙ call.3 ∙ undone_none s 0 (omega arith)
none_moved s (Err e) after call = none_refused s e after call

top_of : (entries : List Entry) (x : List ℕ) → top (stack_of entries x) ≡ x
unfolding stack_of
top_of [] x = refl
top_of (e ∷ entries) x = refl

-- the newest image is the one that is there
pub newest : (c : Contents) (s : Images) → Holds c s → c.image ≡ top s.stack
newest c s holds = let stands = holds.0.stands in sym (ap top stands.stack_is ∙ top_of stands.entries c.image)

-- a fault of texts is none of a device, and none of an undo
texts_device : (e : SessionFault) → IsOfTexts e → DeviceFault e → ⊥
texts_device (LengthDiffers expected) is device = device
texts_device (Damaged line) is device = device
texts_device (RedoDamaged line) is device = device
texts_device e is device = is

texts_unmoved : (s : Images) (e : SessionFault) (after : Standing) → IsOfTexts e → UndoesNone s (Err e) after → ⊥
texts_unmoved s (LengthDiffers expected) after is call = call.1
texts_unmoved s (Damaged line) after is call = call.1
texts_unmoved s (RedoDamaged line) after is call = call.1
texts_unmoved s e after is call = is

texts_whole : (e : SessionFault) → IsOfTexts e → Session e ≡ Session Interrupted → ⊥
texts_whole Interrupted is same = is
texts_whole e is same = cc

one_fault : (e f : SessionFault) → Refused (Session e) ≡ Refused (Session f) → e ≡ f
one_fault e f is = cc

texts_unanswered : (s : Images) (e : SessionFault) (r : Result ℕ SessionFault) (after : Standing) → IsOfTexts e
    → Refused (Session e) ≡ answered Undone r → UndoesNone s r after → ⊥
texts_unanswered s e (Ok m) after is same call = cc
texts_unanswered s e (Err f) after is same call = texts_unmoved s f after (subst IsOfTexts (one_fault e f same) is) call

on_ok : (r : Result ℕ Fault) (P : Type 0) → P → OnOk r P
on_ok (Ok n) P p = p
on_ok (Err e) P p = tt

-- files that were opened by such a reply
pub all_opened : (u : Option OpenError) (reply : Reply) (how : Option RecoveryOutcome) (old new : SystemState) → IfSome u (λ _. NothingDone reply how old new)
    → IsDroppable reply → u ≡ None
all_opened None reply how old new none may = refl
all_opened (Some u) reply how old new none may = absurd (let wrong : IsDroppable (Refused OpenFailed) = subst IsDroppable none.0 may in wrong)

-- files that were opened, or whose image is another one
pub were_opened : (answer : Answer) (old new : SystemState) → IfSome answer.unopened (λ _. NothingDone answer.reply answer.how old new) → MayDrop answer
    → WereOpened answer.unopened
were_opened answer old new none may = elim may [
  | inl drop ↦ rw (all_opened answer.unopened answer.reply answer.how old new none drop) tt
  | inr other ↦ by answer.unopened other
]
  where
    by : (u : Option OpenError) → IsOfAnother u → WereOpened u
    by None other = tt
    by (Some u) other = other

other_reply : (u : Option OpenError) (reply : Reply) (how : Option RecoveryOutcome) (old new : SystemState) → IfSome u (λ _. NothingDone reply how old new) → IsOfAnother u
    → reply ≡ Refused OpenFailed
other_reply None reply how old new none other = absurd other
other_reply (Some u) reply how old new none other = none.0

-- an opening isn't refused for another image where the files hold images
pub never_other : {R : Type 0} (remaining : R → Option (List ℕ)) (guard : Guard) (note : List ℕ) (names : Names) (w : SystemState) (answer : Answer) (s : Images)
    → JudgesOpening remaining guard note names w answer → Holds (contents_of names w) s → IsOfAnother answer.unopened → ⊥
never_other remaining guard note names w answer s judged holds other = none_other (only_told guard) _ note (contents_of names w) answer.unopened answer.how s judged
    holds (by answer.unopened other)
  where
    by : (u : Option OpenError) → IsOfAnother u → u ≡ Some another
    by None other = absurd other
    by (Some u) other = ap Some other

-- why an opening isn't begun
pub why_told : {R : Type 0} (remaining : R → Option (List ℕ)) (guard told : Guard) (note : List ℕ) (names : Names) (counted : Type 0) (w : SystemState) (u : Option OpenError)
    → told ≡ only_told guard → IfSome u (MayRefuseTask told true note (no_change {R = R}) names counted w) → IfSome u (MayNotOpenToDrop remaining guard note names counted w)
why_told {R = R} remaining guard told note names counted w u is why =
    subst (λ (k : Guard). IfSome u (MayRefuseTask k true note (no_change {R = R}) names counted w)) is why

-- an answer that lets the history be dropped, and is not refused in whole, tells how many changes stand
made_by : (reply : Reply) (P : ℕ → Type 0) → IsDroppable reply → (IsWholeRefusal reply → ⊥) → IfOk (stands_by reply) P → (n : ℕ) × P n
made_by (Changed n) P may stopped ok = (n, ok)
made_by (Copied n counts) P may stopped ok = (n, ok)
made_by (Undone n) P may stopped ok = (n, ok)
made_by (Redone n) P may stopped ok = (n, ok)
made_by (Refused (Session e)) P may stopped ok = absurd (stopped (texts_whole e may))
made_by (Refused e) P may stopped ok = absurd may

module _ {R : Type 0} (remaining : R → Option (List ℕ)) where
  -- where the opening leads, from images
  pub leads_same : (s : Images) (reply : Reply) (after : Standing) → TaskStep remaining (Standing.Up s) no_change reply after → images_of after ≡ s
  leads_same s reply after step = none_moved s step.0 after step.2

  -- of files that hold images it is not refused for their texts
  unrefused : (s : Images) (reply : Reply) → MayRefuse remaining s no_change reply → IsDroppable reply → IsWholeRefusal reply → ⊥
  unrefused s (Refused (Session e)) why may whole = elim why [
    | inl un ↦ texts_device e may (subst DeviceFault (sym (one_fault e un.0 un.1)) un.2)
    | inr step ↦ texts_unanswered s e step.1.0 step.0 may step.1.1 step.1.2
  ]
  unrefused s (Refused e) why may whole = may
  unrefused s reply why may whole = whole

  module _ (names : Names) (answer : Answer) (old new : SystemState) (does : DoesChange remaining names no_change answer old new) (may : MayDrop answer)
      (unopened : IfSome answer.unopened (λ _. NothingDone answer.reply answer.how old new))
      (alone : (s : Images) → Holds (contents_of names old) s → IsOfAnother answer.unopened → ⊥) where
    made_drop : IsDroppable answer.reply → (s : Images) → Holds (contents_of names old) s → IsWholeRefusal answer.reply → ⊥
    made_drop drop s holds whole = unrefused s answer.reply
        ((does.refused whole).why s holds (all_opened answer.unopened answer.reply answer.how old new unopened drop)) drop whole

    pub made : (s : Images) → Holds (contents_of names old) s → IsWholeRefusal answer.reply → ⊥
    made s holds whole = elim may [
      | inl drop ↦ made_drop drop s holds whole
      | inr other ↦ alone s holds other
    ]

    -- whatever they held, an opening that was refused leaves the image
    pub image_spared : IsWholeRefusal answer.reply → IsUnrecovered answer.how → held new names.image ≡ held old names.image
    image_spared whole is = ap (λ (c : Contents). c.image) (same_spared answer.how (contents_of names old) (contents_of names new) is
        ((does.refused whole).left.contents (were_opened answer old new unopened may)))

    -- they hold the images that they held
    pub same : (s : Images) → Holds (contents_of names old) s → Holds (contents_of names new) s
    same s holds = elim may [
      | inl drop ↦
          let done = made_by answer.reply (Changes remaining s no_change answer.reply (contents_of names new)) drop (made_drop drop s holds) (does.done s holds) in
          subst (Holds (contents_of names new)) (leads_same s answer.reply (Standing.Up done.1.next) done.1.step) done.1.files
      | inr other ↦ absurd (alone s holds other)
    ]

    found_ended : (s : Images) (after : Standing) (r : Result ℕ SessionFault) → answer.reply ≡ answered Undone r → UndoesNone s r after
        → EndsAt (contents_of names new) after → OnOk (stands_by answer.reply) (held new names.image ≡ top s.stack)
    found_ended s after (Ok n) is call ends = on_ok (stands_by answer.reply) (held new names.image ≡ top s.stack) (
        let up : after ≡ Standing.Up call.0 = call.1 in
        let holds : Holds (contents_of names new) call.0 = subst (EndsAt (contents_of names new)) up ends in
        newest (contents_of names new) call.0 holds ∙ ap (λ t. top t.stack) (sym (ap images_of up) ∙ none_moved s (Ok n) after call))
    found_ended s after (Err e) is call ends = rw is tt

    found_by : (s : Images) (how : Option RecoveryOutcome) → DoesFound remaining s no_change how answer.reply (contents_of names new)
        → OnOk (stands_by answer.reply) (held new names.image ≡ top s.stack)
    found_by s None found = rw found.1 tt
    found_by s (Some how) found = found_ended (recovered_as how s) found.0 found.1.0 found.1.1 found.1.2 found.2

    -- and of files in which opening found images the image is then the newest of these
    pub found : (s : Images) → FoundIn (contents_of names old) s → OnOk (stands_by answer.reply) (held new names.image ≡ top s.stack)
    found s there = elim may [
      | inl drop ↦ found_by s answer.how (does.recovered s there (all_opened answer.unopened answer.reply answer.how old new unopened drop))
      | inr other ↦ rw (other_reply answer.unopened answer.reply answer.how old new unopened other) tt
    ]

  -- the change that is asked for on the image alone
  pub changes_alone : (names : Names) (image : List ℕ) (task : Task R) (answer : Answer) (dropped new : SystemState)
      → Holds (contents_of names dropped) (only image) → DoesChange remaining names task answer dropped new
      → ChangesAlone remaining names image task answer new
  changes_alone names image task answer dropped new alone does = record {
    done = does.done (only image) alone;
    refused = λ whole. record { dropped = dropped; alone = alone; refuses = does.refused whole };
    interrupted = does.interrupted (only image) alone;
    whole = does.how.none (only image) alone;
  }

-- files whose history was dropped hold the image alone
pub holds_alone : (names : Names) (old new : SystemState) → HasForgotten (held_by_names names old) (held_by_names names new)
    → Holds (contents_of names new) (only (held old names.image))
holds_alone names old new forgotten = (forgotten.rest, forgotten.undone)

held_untouched : (old new : SystemState) (name : List ℕ) → IsUntouched old new → held new name ≡ held old name
held_untouched old new name keeps = at_name (old.named name) (keeps.named name)
  where
    at_name : (o : Option ℕ) → new.named name ≡ o → held new name ≡ option_map_or old.bytes o []
    at_name None is = rw is refl
    at_name (Some n) is = rw is (keeps.bytes n tt)

untouched : (names : Names) (old new : SystemState) → IsUntouched old new → contents_of names new ≡ contents_of names old
untouched names old new keeps =
    rw (held_untouched old new names.image keeps, held_untouched old new names.journal keeps, held_untouched old new names.redo keeps) refl

stops_untouched : (guard : Guard) (note : List ℕ) (names : Names) (counted : Type 0) (old new : SystemState) (unseen : ReportError) → StopsForgetting guard note names counted old new unseen
    → (unseen ≡ Stopped (Session Interrupted) → ⊥) → IsUntouched old new
stops_untouched guard note names counted old new (UnopenedFile file) stops other = stops.1
stops_untouched guard note names counted old new Unfinished stops other = stops.1
stops_untouched guard note names counted old new OtherImage stops other = stops.1
stops_untouched guard note names counted old new (Stopped (Session Interrupted)) stops other = absurd (other refl)
stops_untouched guard note names counted old new (Stopped fault) stops other = stops.1

-- files whose history wasn't dropped hold what they held
pub holds_undropped : (guard : Guard) (note : List ℕ) (names : Names) (counted : Type 0) (old new : SystemState) (unseen : ReportError) (s : Images)
    → StopsForgetting guard note names counted old new unseen → (unseen ≡ Stopped (Session Interrupted) → ⊥) → Holds (contents_of names old) s
    → Holds (contents_of names new) s
holds_undropped guard note names counted old new unseen s stops other holds =
    subst (λ c. Holds c s) (sym (untouched names old new (stops_untouched guard note names counted old new unseen stops other))) holds

-- the names lead to the files that they led to before texts were changed
leads_before : (names : Names) (spared : ℕ → Type 0) (t : Trio) (old new : SystemState) → Spares spared old new → LeadTo names t new → LeadTo names t old
leads_before names spared t old new spares leads = record {
  image = sym (spares.named names.image) ∙ leads.image;
  journal = sym (spares.named names.journal) ∙ leads.journal;
  redo = sym (spares.named names.redo) ∙ leads.redo;
}

loses_undropped : (names : Names) (unseen : ReportError) (w : SystemState) (was left : ℕ → List ℕ → Type 0) (s : Images) (t : Trio) → LeadTo names t w
    → SurvivesForgetting names (Err unseen) w was left
    → ((x text redo_text : List ℕ) → was t.image x → was t.journal text → was t.redo redo_text → Found text x redo_text s)
    → LosesUndropped unseen (held_by_names names w) s (left t.image) (left t.journal) (left t.redo)
loses_undropped names (Stopped (Session Interrupted)) w was left s t leads survives finds =
    survives (record { image = t.image; journal = Some t.journal; redo = Some t.redo })
    (record { image = leads.image; journal = leads.journal; redo = leads.redo })
loses_undropped names unseen w was left s t leads survives finds =
    λ x text redo_text there text_there redo_there. finds x text redo_text (survives t.image x there) (survives t.journal text text_there)
    (survives t.redo redo_text redo_there)

-- what is found behind a history that wasn't dropped, where it is known what was to be found when the dropping began
pub found_undropped : {R : Type 0} (remaining : R → Option (List ℕ)) (names : Names) (unseen : ReportError) (reply : Reply) (spared : ℕ → Type 0)
    (first new : SystemState) (was left : ℕ → List ℕ → Type 0) (s : Images) (t : Trio) → Spares spared first new → LeadTo names t new
    → SurvivesForgetting names (Err unseen) first was left
    → (LeadTo names t first → Survives remaining s no_change reply (was t.image) (was t.journal) (was t.redo))
    → LosesUndropped unseen (held_by_names names first) s (left t.image) (left t.journal) (left t.redo)
found_undropped remaining names unseen reply spared first new was left s t spares leads survives finds =
    let before = leads_before names spared t first new spares leads in
    loses_undropped names unseen first was left s t before survives (λ x text redo_text there text_there redo_there.
    let end = finds before x text redo_text there text_there redo_there in
    subst (Found text x redo_text) (leads_same remaining s reply end.0 end.1) end.2)

-- the same of what was recovered
pub recovered_undropped : {R : Type 0} (remaining : R → Option (List ℕ)) (names : Names) (unseen : ReportError) (answer : Answer) (spared : ℕ → Type 0)
    (first new : SystemState) (was left : ℕ → List ℕ → Type 0) (s : Images) (t : Trio) → Spares spared first new → LeadTo names t new
    → SurvivesForgetting names (Err unseen) first was left
    → (LeadTo names t first → SurvivesFound remaining s no_change answer.how answer.reply (was t.image) (was t.journal) (was t.redo))
    → IfSome answer.how (λ h. LosesUndropped unseen (held_by_names names first) (recovered_as h s) (left t.image) (left t.journal) (left t.redo))
recovered_undropped remaining names unseen answer spared first new was left s t spares leads survives finds = at answer.how finds
  where
    at : (how : Option RecoveryOutcome) → (LeadTo names t first → SurvivesFound remaining s no_change how answer.reply (was t.image) (was t.journal) (was t.redo))
        → IfSome how (λ h. LosesUndropped unseen (held_by_names names first) (recovered_as h s) (left t.image) (left t.journal) (left t.redo))
    at None finds = tt
    at (Some h) finds = found_undropped remaining names unseen answer.reply spared first new was left (recovered_as h s) t spares leads survives finds

-- what no name of the three leads to by now is as it was
pub keeps_named : (names : Names) (old first second new : SystemState) → AreAllThere old → AreAllThere first → KeepsOthers names old first
    → Spares (IsNoTextNamed names first) first second → KeepsOthers names second new → KeepsNamed names old new
keeps_named names old first second new there first_there a b c = record {
  bytes = λ m n is image journal redo.
      c.bytes n (below m n is) (λ e. image (c.named names.image n e)) (λ e. journal (c.named names.journal n e)) (λ e. redo (c.named names.redo n e))
      ∙ b.bytes n ((λ e. journal (on names.journal n e)), (λ e. redo (on names.redo n e)))
      ∙ a.bytes n (there m n is) (λ e. image (on names.image n (a.named names.image n e))) (λ e. journal (on names.journal n (a.named names.journal n e)))
      (λ e. redo (on names.redo n (a.named names.redo n e)));
  stat = λ m n is. c.stat n (below m n is) ∙ b.stat n ∙ a.stat n (there m n is);
  named = λ m n is. on m n (a.named m n is);
  made = λ stuck m.
      let before = a.stuck in
      let between = b.stuck in
      let behind = c.stuck in
      made_on m (c.made (omega (arith, before, between, behind, stuck)) m) (a.made (omega (arith, before, between, behind, stuck)) m);
  stuck = let before = a.stuck in let between = b.stuck in let behind = c.stuck in omega (arith, before, between, behind);
}
  where
    on : (m : List ℕ) (n : ℕ) → first.named m ≡ Some n → new.named m ≡ Some n
    on m n is = c.named m n (b.named m ∙ is)

    led : (n : ℕ) → IsNamedBy names first n → IsNamedBy names new n
    led n is = elim is [
      | inl image ↦ inl (on names.image n image)
      | inr text ↦ elim text [
        | inl journal ↦ inr (inl (on names.journal n journal))
        | inr redo ↦ inr (inr (on names.redo n redo))
      ]
    ]

    made_on : (m : List ℕ) → LeadsToMade (IsNamedBy names new) (second.named m) (new.named m) → LeadsToMade (IsNamedBy names first) (old.named m) (first.named m)
        → LeadsToMade (IsNamedBy names new) (old.named m) (new.named m)
    made_on m (inl same) (inl was) = inl (same ∙ b.named m ∙ was)
    made_on m (inl same) (inr is_new) = inr (is_new.0, is_new.1, led is_new.0 is_new.2, on m is_new.0 is_new.3)
    made_on m (inr is_new) (inl was) = inr (is_new.0, sym was ∙ sym (b.named m) ∙ is_new.1, is_new.2, is_new.3)
    made_on m (inr is_new) (inr other) = absurd (let wrong : Some other.0 ≡ None = sym other.3 ∙ sym (b.named m) ∙ is_new.1 in cc)

    below : (m : List ℕ) (n : ℕ) → old.named m ≡ Some n → n < second.there
    below m n is = let led = first_there m n (a.named m n is) in let same = b.there in omega (arith, led, same)

-- texts that the opening didn't leave are not there behind the drop
pub texts_dropped : (names : Names) (spared : ℕ → Type 0) (old first second : SystemState) → AreNotLeft names old first first → Spares spared first second
    → AreNotLeft names old first second
texts_dropped names spared old first second texts drops = record {
  journal = λ missing stuck empty. drops.named names.journal ∙ texts.journal missing (sym drops.stuck ∙ stuck) empty;
  redo = λ missing stuck empty. drops.named names.redo ∙ texts.redo missing (sym drops.stuck ∙ stuck) empty;
}

-- nor behind a change that was refused then
pub texts_refused : (names : Names) (old first second new : SystemState) → AreNotLeft names old first second → old.stuck ≤ second.stuck → LeavesFiles second new
    → AreNotLeft names old first new
texts_refused names old first second new texts least left =
    let more = left.stuck in
    record {
      journal = λ missing stuck empty.
          left.named (omega (arith, least, more, stuck)) names.journal ∙ texts.journal missing (omega (arith, least, more, stuck)) empty;
      redo = λ missing stuck empty.
          left.named (omega (arith, least, more, stuck)) names.redo ∙ texts.redo missing (omega (arith, least, more, stuck)) empty;
    }

-- files that are as they were
pub keeps_itself : (names : Names) (w : SystemState) → KeepsOthers names w w
keeps_itself names w = record {
  bytes = λ n below image journal redo. refl;
  stat = λ n below. refl;
  named = λ m n is. is;
  made = λ stuck m. inl refl;
  stuck = omega arith;
}

-- the same, where one step changed them
pub keeps_one : (names : Names) (old new : SystemState) → AreAllThere old → KeepsOthers names old new → KeepsNamed names old new
keeps_one names old new there others = record {
  bytes = λ m n is image journal redo. others.bytes n (there m n is) (λ e. image (others.named names.image n e))
      (λ e. journal (others.named names.journal n e)) (λ e. redo (others.named names.redo n e));
  stat = λ m n is. others.stat n (there m n is);
  named = others.named;
  made = others.made;
  stuck = others.stuck;
}

-- texts were dropped, and nothing is written of it
pub says_dropped : (spared : ℕ → Type 0) (how : Option RecoveryOutcome) (old first new : SystemState) → SaysRecovered how old first → Spares spared first new
    → SaysRecovered how old new
says_dropped spared how old first new says spares = record {
  output = spares.output ∙ says.output;
  errors = (says.errors.0, spares.errors ∙ says.errors.1);
  lent = spares.lent ∙ says.lent;
  before = spares.before ∙ says.before;
}

take_none : (n : ℕ) → ◌≡◌ {A = List ℕ} (take n []) []
take_none zero = refl
take_none (suc n) = refl

unrecovered_line : (how : Option RecoveryOutcome) → IsUnrecovered how → recovered_line how ≡ []
unrecovered_line None is = refl
unrecovered_line (Some h) is = rw is refl

silent : (how : Option RecoveryOutcome) (old new : List ℕ) → IsUnrecovered how → TellsRecovered how old new → new ≡ old
silent how old new is tells =
    tells.1 ∙ ap (λ xs. old ++ take tells.0 xs) (unrecovered_line how is) ∙ ap (λ xs. old ++ xs) (take_none tells.0) ∙ append-nil old

-- nor of the change behind it, before which nothing is unfinished
pub says_changed : (how last : Option RecoveryOutcome) (old second new : SystemState) → SaysRecovered how old second → IsUnrecovered last → SaysRecovered last second new
    → SaysRecovered how old new
says_changed how last old second new says is changes = record {
  output = changes.output ∙ says.output;
  errors = (says.errors.0, silent last second.errors new.errors is changes.errors ∙ says.errors.1);
  lent = changes.lent ∙ says.lent;
  before = changes.before ∙ says.before;
}
