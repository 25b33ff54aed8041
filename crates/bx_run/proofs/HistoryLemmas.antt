-- What changes that were done put onto a stack of images, by names, an undo of as many takes off.
use Rattle.std.proofs.Common.{◌≡◌, ◌∙◌, ◌+◌, ◌-◌, ◌≤◌, inl, inr, ℕ, zero, suc, List, [], ◌∷◌, length, drop, refl, sym, ap, subst, arith}
use Rattle.std.proofs.Common.{Option, None, Some, Result, Ok, Err}
use Rattle.std.specs.Prelude.{IfOk, OnOk}
use Rattle.std.proofs.lemmas.List.{drop-drop}
use Rattle.bx_image.specs.Change.{effect}
use Rattle.bx_image.specs.declared.change.Change.{Change as ChangeOf}
use Rattle.bx_dd.specs.declared.counts.Counts.{Counts}
use Rattle.bx_dd.specs.declared.fault.DdFault.{DdFault}
use Rattle.bx_patch.specs.Patch.{Asked, patch_change}
use Rattle.bx_patch.specs.Read.{asked_of}
use Rattle.bx_read.specs.declared.fault.ReadFault.{ReadFault}
use Rattle.bx_journal.proofs.Ready.{top_of_rest}
use Rattle.bx_journal.specs.Direction.{Direction}
use Rattle.bx_journal.specs.Direction.TheVariants as way
use Rattle.bx_journal.specs.Forgotten.{only}
use Rattle.bx_journal.specs.Images.{Images, change_to, redo_of, undo_of}
use Rattle.bx_journal.specs.Machine.{changes_of, top}
use Rattle.bx_journal.specs.SessionFault.{SessionFault}
use Rattle.bx_cli_commands.proofs.GivesBack.{redo_gives_back}
use Rattle.bx_cli_commands.specs.declared.changes.DdChange.{DdChange}
use Rattle.bx_cli_commands.specs.declared.command.Kept.{Kept}
use Rattle.bx_cli_commands.specs.declared.command.Kept.TheVariants as kept
use Rattle.bx_cli_commands.specs.declared.command.Reply.{Reply}
use Rattle.bx_cli_commands.specs.declared.command.Reply.TheVariants.{Changed as ReplyChanged, Copied, Undone, Redone, Refused}
use Rattle.bx_cli_commands.specs.declared.fault.Fault.{Fault}
use Rattle.bx_cli_commands.specs.Growth.{KeptStep, PatchWithin, WithinStep}
use Rattle.bx_cli_commands.specs.Power.{images_of}
use Rattle.bx_cli_commands.specs.Replies.{stands_by}
use Rattle.bx_cli_commands.specs.Run.{ChangeStep, DdStep, PatchStep, ReadStep, answered, made_reply}
use Rattle.bx_cli_commands.specs.Standing.{PerformUp, Standing}
use Rattle.bx_world.specs.World.{held}
use Rattle.bx_world.specs.declared.files.guard.Guard.{Guard}
use Rattle.bx_world.specs.declared.files.names.Names.{Names}
use Rattle.bx_world.specs.declared.world.Outgrown.{Outgrown}
use Rattle.bx_run_model.specs.RunState.{RunState}
use Rattle.bx_run_session.specs.Edit.{asked, task_by}
use Rattle.bx_run_session.specs.declared.edit.Edit.{Edit}
use Rattle.bx_run_session.specs.declared.edit.Edit.TheVariants as edit
use Rattle.bx_run_session.specs.declared.edit.proposal.Proposal.{Proposal}
use Rattle.bx_run_session.specs.declared.edit.proposal.Proposal.TheVariants as proposal
use Rattle.bx_run_session.specs.declared.session.moves.Moved.{Moved}
use Rattle.bx_run_session.specs.declared.session.named.Answer.{Answer}
use Rattle.bx_run_session.specs.session.Changes.{Changes}
use Rattle.bx_run_session.specs.session.Contents.{Contents, Holds}
use Rattle.bx_run_session.specs.session.Moves.{Moves, stepped}
use Rattle.bx_run_session.specs.session.Named.{contents_of}
use Rattle.bx_run_session.specs.session.Task.{TaskStep}
use Rattle.bx_run.specs.declared.renew.Renewed.{Renewed}
use Rattle.bx_run.specs.declared.renew.Renewed.TheVariants as renewal
use Rattle.bx_run.specs.declared.run.answer.Done.{Done}
use Rattle.bx_run.specs.declared.run.outcome.Outcome.{Outcome}
use Rattle.bx_run.specs.declared.run.outcome.Outcome.TheVariants as of
use Rattle.bx_run.specs.declared.run.request.Request.{Request}
use Rattle.bx_run.specs.declared.run.request.Request.TheVariants.{Move, Change, Renew}
use Rattle.bx_run.specs.History.{AddsOne, AsksChange, AsksMove, AsksRenewal, ChangeAddsOne, GivesStack, HoldsOneMore, InTurn, IsDone}
use Rattle.bx_run.specs.History.{RedoGivesBackByNames, StayAsTheyWere, UndoGivesBackByNames, UndoGivesBackRenewed}
use Rattle.bx_run.specs.renew.Renewal.{IsDroppable, RenewsFiles}
use Rattle.bx_run.specs.run.Answer.{answer_by, answered_as, done_value, standing_by}
use Rattle.bx_run.specs.run.Commands.{DoesMove, Fulfills}
use Rattle.bx_run.specs.run.Edits.{DoesEdit}
use Rattle.bx_run.specs.run.Outcome.{ended_with, task_fault}

-- a result that is done has no fault, and one value
no_fault : {V E : Type 0} (v : V) (e : E) → Err e ≡ Ok v → ⊥
no_fault v e is = cc

one_value : {V E : Type 0} (v : V) (r : Result V E) → r ≡ Ok v → IfOk r (λ w. w ≡ v)
one_value v (Ok w) is = let same : Ok w ≡ Ok v = is in cc
one_value v (Err e) is = tt

-- images are known by their two lists
images_are : (s : Images) (stack undone : List (List ℕ)) → s.stack ≡ stack → s.undone ≡ undone → s ≡ record { stack = stack; undone = undone }
images_are s stack undone stands undid =
    let Made : List (List ℕ) → List (List ℕ) → Images = λ a b. record { stack = a; undone = b } in
    ap (λ a. Made a s.undone) stands ∙ ap (Made stack) undid

-- one image more, and how many changes then stand
abbrev Added : Images → Images → ℕ → Type 0
Added s next n = (y : List ℕ) × (next ≡ change_to y s) × (n ≡ changes_of s.stack + 1)

told_of : (counts : Option Counts) (m n : ℕ) → stands_by (made_reply counts m) ≡ Ok n → n ≡ m
told_of None m n told = sym (one_value n (Ok m) told)
told_of (Some counts) m n told = sym (one_value n (Ok m) told)

-- A task that was done, by its step.
module _ (s next : Images) (n : ℕ) where
  call_adds : {A : Type 0} (c : ChangeOf A) (counts : Option Counts) (r : Result ℕ SessionFault) → stands_by (answered (made_reply counts) r) ≡ Ok n
      → PerformUp c s r (Standing.Up next) → Added s next n
  call_adds c counts (Ok m) told p =
      (effect c (top s.stack), ap images_of p.1 ∙ images_are p.0 (effect c (top s.stack) ∷ s.stack) [] p.2.3 p.3, told_of counts m n told ∙ p.2.2)
  call_adds c counts (Err e) told p = absurd (no_fault n _ told)

  change_adds : {A : Type 0} (c : ChangeOf A) (counts : Option Counts) (reply : Reply) → stands_by reply ≡ Ok n
      → ChangeStep (Standing.Up s) c counts reply (Standing.Up next) → Added s next n
  change_adds c counts reply told step = call_adds c counts step.0 (ap stands_by (sym step.1) ∙ told) step.2

  refused : (reply : Reply) (e : Fault) → stands_by reply ≡ Ok n → reply ≡ Refused e → ⊥
  refused reply e told is = no_fault n e (ap stands_by (sym is) ∙ told)

  read_adds : {A : Type 0} (read : Result (ChangeOf A) ReadFault) (reply : Reply) → stands_by reply ≡ Ok n
      → ReadStep (Standing.Up s) (λ c. c) read reply (Standing.Up next) → Added s next n
  read_adds (Ok c) reply told step = change_adds c None reply told step
  read_adds (Err e) reply told step = absurd (refused reply _ told step.0)

  dd_adds : {A : Type 0} (r : Result (DdChange A) DdFault) (reply : Reply) → stands_by reply ≡ Ok n
      → DdStep (Standing.Up s) r reply (Standing.Up next) → Added s next n
  dd_adds (Ok made) reply told step = change_adds made.change (Some made.counts) reply told step
  dd_adds (Err e) reply told step = absurd (refused reply _ told step.0)

  patch_adds : {A : Type 0} (p : Asked) (reply : Reply) → stands_by reply ≡ Ok n → PatchStep A (Standing.Up s) p reply (Standing.Up next) → Added s next n
  patch_adds p reply told (inl short) = absurd (refused reply _ told short.0)
  patch_adds p reply told (inr (inl failed)) = absurd (refused reply _ told failed.0)
  patch_adds {A = A} p reply told (inr (inr (None, agrees, step))) = change_adds (patch_change {A = A} p) None reply told step
  patch_adds p reply told (inr (inr (Some other, has, step))) = absurd (refused reply _ told step.0)

  within_adds : {A : Type 0} (c : ChangeOf A) (reply : Reply) → stands_by reply ≡ Ok n → WithinStep (Standing.Up s) c reply (Standing.Up next) → Added s next n
  within_adds c reply told (inl failed) = absurd (refused reply _ told failed.0)
  within_adds c reply told (inr (inl longer)) = absurd (refused reply _ told longer.1)
  within_adds c reply told (inr (inr made)) = change_adds c None reply told made.1

  patch_within_adds : {A : Type 0} (p : Asked) (reply : Reply) → stands_by reply ≡ Ok n → PatchWithin A (Standing.Up s) p reply (Standing.Up next)
      → Added s next n
  patch_within_adds p reply told (inl failed) = absurd (refused reply _ told failed.0)
  patch_within_adds {A = A} p reply told (inr (None, agrees, step)) = within_adds (patch_change {A = A} p) reply told step
  patch_within_adds p reply told (inr (Some other, has, step)) = absurd (refused reply _ told step.0)

  kept_adds : {A : Type 0} (c : Kept A) (reply : Reply) → stands_by reply ≡ Ok n → KeptStep (Standing.Up s) c reply (Standing.Up next) → Added s next n
  kept_adds (kept.Change c) reply told step = within_adds c reply told step
  kept_adds {A = A} (kept.Patch patch) reply told step = patch_within_adds {A = A} (asked_of patch) reply told step

  module _ {R : Type 0} (remaining : R → Option (List ℕ)) where
    proposal_adds : (asks : Proposal) (reply : Reply) → stands_by reply ≡ Ok n
        → TaskStep remaining (Standing.Up s) (task_by {R = R} asks) reply (Standing.Up next) → Added s next n
    proposal_adds (proposal.Read read) reply told step = read_adds read reply told step
    proposal_adds (proposal.Patch patch) reply told step = patch_adds (asked_of patch) reply told step
    proposal_adds (proposal.Keep kept) reply told step = kept_adds kept reply told step

    edit_adds : (asks : Edit R) (reply : Reply) → stands_by reply ≡ Ok n
        → TaskStep remaining (Standing.Up s) (asked asks) reply (Standing.Up next) → Added s next n
    edit_adds (edit.Read read) reply told step = proposal_adds read.proposal reply told step
    edit_adds (edit.Copy plan input) reply told step = dd_adds step.1.0 reply told step.1.1.1

-- what was done is in the contents
adds : {R : Type 0} (remaining : R → Option (List ℕ)) (asks : Edit R) (s : Images) (reply : Reply) (c : Contents) (n : ℕ) → stands_by reply ≡ Ok n
    → IfOk (stands_by reply) (Changes remaining s (asked asks) reply c) → HoldsOneMore s c × (n ≡ changes_of s.stack + 1)
adds remaining asks s reply c n told does =
    let made : Changes remaining s (asked asks) reply c n = subst (λ r. IfOk r (Changes remaining s (asked asks) reply c)) told does in
    let more = edit_adds s made.next n remaining asks reply told made.step in
    ((more.0, subst (Holds c) more.1 made.files), more.2)

-- what was answered as done ended in no fault, and the answer tells how many changes stand
done_by : {V : Type 0} (outgrown : Option Outgrown) (outcome : Outcome) (fault : Fault → Fault) (r : Result V Fault) (done : Done)
    → Ok done ≡ answered_as outgrown outcome (ended_with {V = V} fault r) → (v : V) × (r ≡ Ok v) × (done.standing ≡ standing_by outcome)
done_by outgrown outcome fault (Ok v) done is = (v, refl, ap (λ (d : Done). d.standing) (one_value _ (Ok done) is))
done_by outgrown outcome fault (Err e) done is = absurd (no_fault done _ (sym is))

-- the three hold one image more, and the answer tells how many changes stand
abbrev OneMoreTold : Names → Done → RunState → RunState → Type 0
OneMoreTold names done old new = (s : Images) → Holds (contents_of names old.state) s
    → HoldsOneMore s (contents_of names new.state) × (done.standing ≡ Some (changes_of s.stack + 1))

-- a change with which the history begins anew stands above the image alone that was the newest
abbrev StandsAlone : Names → RunState → RunState → Type 0
StandsAlone names old new = (s : Images) → Holds (contents_of names old.state) s → HoldsOneMore (only (top s.stack)) (contents_of names new.state)

-- changes were moved from any images that the files held
abbrev MovesAny : Names → Direction → ℕ → RunState → RunState → Type 0
MovesAny names way k old new = (s : Images) → Holds (contents_of names old.state) s → Moves names k (stepped way s) old.state new.state

-- a history is dropped behind an opening that was done
droppable : (reply : Reply) (n : ℕ) → stands_by reply ≡ Ok n → IsDroppable reply
droppable (ReplyChanged m) n told = tt
droppable (Copied m counts) n told = tt
droppable (Undone m) n told = tt
droppable (Redone m) n told = tt
droppable (Refused e) n told = absurd (no_fault n e told)

-- A command that was answered as done.
module _ {R : Type 0} (remaining : R → Option (List ℕ)) (done : Done) (outgrown : Option Outgrown) (old new : RunState) where
  change_done : (names : Names) (asks : Edit R) (answer : Answer) → Ok done ≡ answer_by outgrown (of.Changed answer)
      → DoesEdit remaining asks names answer old.state new.state → OneMoreTold names done old new
  change_done names asks answer is does s holds =
      let told = done_by outgrown (of.Changed answer) (task_fault answer.unopened) (stands_by answer.reply) done is in
      let more = adds remaining asks s answer.reply (contents_of names new.state) told.0 told.1 (does.does.done s holds) in
      (more.0, told.2 ∙ ap done_value told.1 ∙ ap Some more.1)

  change_answered : (names : Names) (request : Request R) (outcome : Outcome) → AsksChange names request → Ok done ≡ answer_by outgrown outcome
      → Fulfills remaining request outcome old new → OneMoreTold names done old new
  change_answered names (Change given guard asks) (of.Changed answer) same is does =
      subst (λ n. OneMoreTold n done old new) same (change_done given.now asks answer is does)
  change_answered names (Change given guard asks) outcome same is does = absurd does
  change_answered names request outcome none is does = absurd none

  move_done : (names : Names) (way : Direction) (k : ℕ) (moved : Moved (Unit {0})) → Ok done ≡ answer_by outgrown (of.Moved moved)
      → DoesMove names way k moved old.state new.state → MovesAny names way k old new
  move_done names way k moved is does s holds =
      let told = done_by outgrown (of.Moved moved) (task_fault moved.unopened) moved.outcome done is in
      subst (λ r. OnOk r (Moves names k (stepped way s) old.state new.state)) told.1 (does.done s holds)

  move_answered : (names : Names) (way : Direction) (k : ℕ) (request : Request R) (outcome : Outcome) → AsksMove names way k request
      → Ok done ≡ answer_by outgrown outcome → Fulfills remaining request outcome old new → MovesAny names way k old new
  move_answered names way k (Move given guard to count) (of.Moved moved) (same, same_way, same_count) is does =
      subst (λ n. MovesAny n way k old new) same (subst (λ j. MovesAny given.now way j old new) same_count
      (subst (λ w. MovesAny given.now w count old new) same_way (move_done given.now to count moved is does)))
  move_answered names way k (Move given guard to count) outcome same is does = absurd does
  move_answered names way k request outcome none is does = absurd none

  renewal_done : (names : Names) (guard : Guard) (asks : Edit R) (renewed : Renewed) → Ok done ≡ answer_by outgrown (of.Renewed renewed)
      → RenewsFiles remaining names guard (asked asks) renewed old new → StandsAlone names old new
  renewal_done names guard asks (renewal.Kept answer) is does s holds =
      let told = done_by outgrown (of.Renewed (renewal.Kept answer)) (task_fault answer.unopened) (stands_by answer.reply) done is in
      absurd (does.does.0 (inl (droppable answer.reply told.0 told.1)))
  renewal_done names guard asks (renewal.Undropped unseen) is does s holds = absurd (no_fault done _ (sym is))
  renewal_done names guard asks (renewal.Changed answer) is does s holds =
      let told = done_by outgrown (of.Renewed (renewal.Changed answer)) (task_fault answer.unopened) (stands_by answer.reply) done is in
      let renews = does.does in
      let newest = renews.newest s (subst (λ c. Holds c s) (sym does.same) holds) in
      let more = adds remaining asks (only renews.image) answer.reply (contents_of names does.ended.state) told.0 told.1 renews.alone.done in
      subst (λ x. HoldsOneMore (only x) (contents_of names new.state)) newest
      (subst (HoldsOneMore (only renews.image)) (sym does.left) more.0)

  renewal_answered : (names : Names) (request : Request R) (outcome : Outcome) → AsksRenewal names request → Ok done ≡ answer_by outgrown outcome
      → Fulfills remaining request outcome old new → StandsAlone names old new
  renewal_answered names (Renew given guard asks) (of.Renewed renewed) same is does =
      subst (λ n. StandsAlone n old new) same (renewal_done given.now guard asks renewed is does.does)
  renewal_answered names (Renew given guard asks) outcome same is does = absurd does
  renewal_answered names request outcome none is does = absurd none

-- the same by what was answered
pub change_adds_one : {R : Type 0} (remaining : R → Option (List ℕ)) → ChangeAddsOne remaining
change_adds_one remaining names old new change =
    let said = change.answered in
    change_answered remaining change.done said.outgrown old new names change.request said.outcome change.asks said.stands.answer_is said.does

moves : {R : Type 0} (remaining : R → Option (List ℕ)) (names : Names) (way : Direction) (k : ℕ) (old new : RunState)
    → IsDone remaining (AsksMove names way k) old new → MovesAny names way k old new
moves remaining names way k old new move =
    let said = move.answered in
    move_answered remaining move.done said.outgrown old new names way k move.request said.outcome move.asks said.stands.answer_is said.does

renews : {R : Type 0} (remaining : R → Option (List ℕ)) (names : Names) (old new : RunState)
    → IsDone remaining (AsksRenewal names) old new → StandsAlone names old new
renews remaining names old new renewal =
    let said = renewal.answered in
    renewal_answered remaining renewal.done said.outgrown old new names renewal.request said.outcome renewal.asks said.stands.answer_is said.does

-- what the files held they hold still
still : (names : Names) (old new : RunState) (s : Images) → StayAsTheyWere names old new → Holds (contents_of names old.state) s
    → Holds (contents_of names new.state) s
still names old new s same holds = subst (λ c. Holds c s) (sym same) holds

-- the image is the newest of the images that the files hold
image_is : (c : Contents) (s : Images) → Holds c s → top s.stack ≡ c.image
image_is c s holds = top_of_rest c.journal c.image s.stack holds.0

-- the files hold images, and below the k newest of them stands this stack
abbrev HoldsAbove : Names → ℕ → List (List ℕ) → RunState → Type 0
HoldsAbove names k stack new = (s : Images) × Holds (contents_of names new.state) s × (drop k s.stack ≡ stack)

all_in_turn : (Step : RunState → RunState → Type 0) (names : Names) (k : ℕ) (start : Images) (old new : RunState)
    → ((from to : RunState) → Step from to → AddsOne names from to) → Holds (contents_of names old.state) start → InTurn Step names k old new
    → HoldsAbove names k start.stack new
all_in_turn Step names zero start old new one holds same = (start, still names old new start same holds, refl)
all_in_turn Step names (suc k) start old new one holds (from, to, same, step, rest) =
    let more = one from to step start (still names old from start same holds) in
    let above = all_in_turn Step names k (change_to more.0 start) to new one more.1 rest in
    let after : k + 1 ≡ suc k = omega arith in
    let first : drop (suc k) above.0.stack ≡ drop (k + 1) above.0.stack = ap (λ n. drop n above.0.stack) (sym after) in
    (above.0, above.1, first ∙ sym (drop-drop 1 k above.0.stack) ∙ ap (drop 1) above.2)

-- an undo of k leaves that stack
undo_leaves : {R : Type 0} (remaining : R → Option (List ℕ)) (names : Names) (k : ℕ) (stack : List (List ℕ)) (old changed new : RunState)
    → held old.state names.image ≡ top stack → HoldsAbove names k stack changed → IsDone remaining (AsksMove names way.Undo k) changed new
    → GivesStack names stack old new
undo_leaves remaining names k stack old changed new image above undo =
    let moved = moves remaining names way.Undo k changed new undo above.0 above.1 in
    let after : Images = undo_of k above.0 in
    (sym (image_is (contents_of names new.state) after moved.files) ∙ ap top above.2 ∙ sym image, after, moved.files, above.2)

pub undo_gives_back : {R : Type 0} (Step : Names → RunState → RunState → Type 0) (remaining : R → Option (List ℕ))
    → ((names : Names) (from to : RunState) → Step names from to → AddsOne names from to) → UndoGivesBackByNames Step remaining
undo_gives_back Step remaining one names start k old changed new holds turn undo =
    undo_leaves remaining names k start.stack old changed new (sym (image_is (contents_of names old.state) start holds))
    (all_in_turn (Step names) names k start old changed (one names) holds turn) undo

-- an undo of k and a redo of k lead back to all images
back_again : (k : ℕ) (s : Images) → k ≤ changes_of s.stack → k ≤ length (undo_of k s).undone → redo_of k (undo_of k s) ≡ s
back_again k s enough many =
    (redo_gives_back {R = Unit {0}} (Unit {0}) (λ u. None) s (undo_of k s) (redo_of k (undo_of k s)) k (changes_of s.stack - k)
    (changes_of (undo_of k s).stack + k)
    ((Ok (changes_of s.stack - k), refl, (undo_of k s, refl, (enough, refl, refl), refl)), refl)
    ((Ok (changes_of (undo_of k s).stack + k), refl, (redo_of k (undo_of k s), refl, (many, refl, refl), refl)), refl)).0

pub redo_by_names : {R : Type 0} (remaining : R → Option (List ℕ)) → RedoGivesBackByNames remaining
redo_by_names remaining names s k old undone from new holds undo same redo =
    let taken = moves remaining names way.Undo k old undone undo s holds in
    let made = moves remaining names way.Redo k from new redo (undo_of k s) (still names undone from (undo_of k s) same taken.files) in
    let all : Holds (contents_of names new.state) s = subst (Holds (contents_of names new.state)) (back_again k s taken.enough made.enough) made.files in
    (sym (image_is (contents_of names new.state) s all) ∙ image_is (contents_of names old.state) s holds, all)

pub undo_of_renewal : {R S : Type 0} (renewing : R → Option (List ℕ)) (undoing : S → Option (List ℕ)) → UndoGivesBackRenewed renewing undoing
undo_of_renewal renewing undoing names s old renewed from new holds renewal same undo =
    let alone = renews renewing names old renewed renewal s holds in
    undo_leaves undoing names 1 (top s.stack ∷ []) old from new (sym (image_is (contents_of names old.state) s holds))
    (change_to alone.0 (only (top s.stack)), still names renewed from (change_to alone.0 (only (top s.stack))) same alone.1, refl) undo
