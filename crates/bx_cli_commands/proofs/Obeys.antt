-- Commands that are refused before the session is called, and commands that the session answers, obey their steps.
use Rattle.std.proofs.Common.{◌≡◌, ◌↔◌, ◌≤◌, ◌<◌, ◌⊎◌, inl, inr, ℕ, Bool, true, false, cond, Option, Result, Ok, Err, List, [], ◌∷◌, drop, length, refl, sym, ◌∙◌, ap, subst, arith}
use Rattle.std.specs.Result.{IsErrOf}
use Rattle.bx_dd.specs.declared.counts.Counts.{Counts}
use Rattle.bx_dd.specs.declared.fault.DdFault.{DdFault}
use Rattle.bx_image.specs.declared.change.Change.{Change}
use Rattle.bx_image.specs.declared.change.TheConstants.{MAX_LEN}
use Rattle.bx_image.specs.Change.{effect, Fits}
use Rattle.bx_image.specs.declared.device.Device.{Ghosts as DeviceViews}
use Rattle.bx_journal_store.specs.declared.store.TextStore.{Ghosts as StoreViews}
use Rattle.bx_journal.specs.Calls.{AfterFault}
use Rattle.bx_journal.specs.Images.{Images, change_to, redo_of, undo_of, undone_by}
use Rattle.bx_journal.specs.Machine.{PerformStep, RedoStep, UndoStep, top}
use Rattle.bx_journal.specs.Session.{FailsSafely, FindsEither, HasUndone, IsReady, IsRedoSame, IsSame, IsUnfailed, SessionCounts, SessionFinds}
use Rattle.bx_journal.specs.Power.{Found, NothingNew, Survive}
use Rattle.bx_journal.specs.SessionView.{SessionView}
use Rattle.bx_journal.specs.Standing.{IsStanding, PerformFault}
use Rattle.bx_journal.specs.Undoing.{HasCount, RedoFault, UndoFault}
use Rattle.bx_journal.specs.SessionFault.{SessionFault}
use Rattle.bx_journal.specs.SessionFault.TheVariants.{NoMemory, Damaged, TooFew, TooLarge, JournalFull, Interrupted, Broken, NothingToRedo, RedoDamaged}
use Rattle.bx_read.specs.declared.fault.ReadFault.{ReadFault}
use Rattle.bx_cli_commands.specs.declared.command.Reply.{Reply}
use Rattle.bx_cli_commands.specs.declared.command.Reply.TheVariants.{Refused, Undone, Redone}
use Rattle.bx_cli_commands.specs.declared.fault.Fault.TheVariants.{Read, Dd, Session}
use Rattle.bx_cli_commands.specs.Obeys.{Obeys}
use Rattle.bx_cli_commands.specs.Power.{FindsEnd}
use Rattle.bx_cli_commands.specs.Refusal.{IsWholeRefusal}
use Rattle.bx_cli_commands.specs.Run.{answered, is_failure, CallStep, Unfailed, ReadStep, DdStep, made_reply, ChangeStep, RedoUp, RedoesStep, UndoUp, UndoesStep}
use Rattle.bx_cli_commands.specs.Standing.{CountsBy, HoldsAt, PerformUp, Shows, Standing}
use Rattle.bx_cli_commands.proofs.Refusals.{IsNoRefusal, after_same, after_weaker, both_after, is_interrupted, is_stopped, nothing_new_here, made_no_refusal, no_failure, no_own, no_whole, redo_same_here, same_here, unfailed_whole, whole_goes_on}
use Rattle.bx_cli_commands.proofs.Stays.{holds_same, ready_shows, shows_same}
use Rattle.bx_cli_commands.proofs.Steps.{refusal, fits_top, perform_stays, redo_stays, undo_stays, counts_least, counts_rise}

-- a call of a session, from where it stands: a stopped session refuses it
abbrev CallFrom : (Images → Result ℕ SessionFault → Standing → Type 0) → Standing → Result ℕ SessionFault → Standing → Type 0
CallFrom Call (Standing.Up old) r after = Call old r after
CallFrom Call (Standing.Down old) r after = (r ≡ Err Broken) × (after ≡ Standing.Down old)

called : (made : ℕ → Reply) (Call : Images → Result ℕ SessionFault → Standing → Type 0) (before : Standing) (r : Result ℕ SessionFault) (reply : Reply) (after : Standing)
    → reply ≡ answered made r → CallFrom Call before r after → CallStep made Call before reply after
called made Call (Standing.Up old) r reply after is from = (r, is, from)
called made Call (Standing.Down old) r reply after is from = (is ∙ ap (answered made) from.0, from.1)

-- what is found of a change that was stopped is an end of its step
either_found : {A : Type 0} (c : Change A) (images : Images) {t x r : List ℕ} → Found t x r images ⊎ Found t x r (change_to (effect c (top images.stack)) images)
    → Fits c (length (top images.stack)) MAX_LEN → (found : Images) × PerformUp c images (Err Interrupted) (Standing.Down found) × Found t x r found
either_found c images (inl before) fit = (images, (inl refl, fit), before)
either_found c images (inr made) fit = (change_to (effect c (top images.stack)) images, (inr refl, fit), made)

module _ {D T : Type 0} (d : DeviceViews D) (t : StoreViews T) where
  -- a reply that tells of no failure raises no count
  pub unfailed_counts : (old new : SessionView D T) (reply : Reply) → Unfailed reply → IsUnfailed d.failures t.failures old new → CountsBy d t old new (cond (is_failure reply) 1 0)
  unfailed_counts old new reply unfailed same =
      let device = same.0 in let store = same.1 in let redo = same.2 in
      let By : Bool → Type 0 = λ failed. CountsBy d t old new (cond failed 1 0) in
      subst By (sym unfailed) (record { image_least = omega arith; journal_least = omega arith; redo_least = omega arith; rise = omega arith })

  -- a call that was refused raises one count, or none
  pub fault_counts : (old new : SessionView D T) (e : SessionFault) → SessionCounts d.failures t.failures old new e
      → CountsBy d t old new (cond (is_failure (Refused (Session e))) 1 0)
  fault_counts old new e counts =
      let least = counts_least e (d.failures old.image) (t.failures old.journal) (t.failures old.redo) (d.failures new.image) (t.failures new.journal) (t.failures new.redo) counts in
      record {
        image_least = least.0;
        journal_least = least.1;
        redo_least = least.2;
        rise = counts_rise e (d.failures old.image) (t.failures old.journal) (t.failures old.redo) (d.failures new.image) (t.failures new.journal) (t.failures new.redo) counts;
      }

  -- a step that follows from another
  pub obeys_next : {Step Next : Standing → Reply → Standing → Type 0} {old new : SessionView D T} {reply : Reply}
      → ((before after : Standing) → Step before reply after → Next before reply after)
      → Obeys d t old new reply Step → Obeys d t old new reply Next
  obeys_next next obeys = record {
    step = λ before h. let made = obeys.step before h in (made.0, made.1, next before made.0 made.2);
    stands = λ device store redo unfailed images shows.
        let made = obeys.stands device store redo unfailed images shows in
        (made.0, made.1, next (Standing.Up images) (Standing.Up made.0) made.2);
    finds = λ stopped before h new x redo there text_there redo_there.
        let found = obeys.finds stopped before h new x redo there text_there redo_there in
        (found.0, next before found.0 found.1, found.2, found.3);
    found_before = obeys.found_before;
    image_faith = obeys.image_faith;
    journal_faith = obeys.journal_faith;
    redo_faith = obeys.redo_faith;
    counts = obeys.counts;
    own = obeys.own;
    same = obeys.same;
    redo_same = obeys.redo_same;
  }

  -- a refusal before the session is called
  pub obeys_refused : (Step : Standing → Reply → Standing → Type 0) (s : SessionView D T) (reply : Reply)
      → Unfailed reply → IsWholeRefusal reply → ((before : Standing) → Step before reply before) → Obeys d t s s reply Step
  obeys_refused Step s reply unfailed whole_reply refuses = record {
    step = λ before h. (before, h, refuses before);
    stands = λ device store redo whole images shows. (images, shows, refuses (Standing.Up images));
    finds = λ stopped. absurd (stopped whole_reply);
    found_before = λ whole. nothing_new_here d t s;
    image_faith = ((λ h. h), (λ h. h));
    journal_faith = ((λ h. h), (λ h. h));
    redo_faith = ((λ h. h), (λ h. h));
    counts = unfailed_counts s s reply unfailed (refl, refl, refl);
    own = λ own. refl;
    same = λ whole device store. same_here d.image t.text s;
    redo_same = λ redo whole. redo_same_here t.text s;
  }

  -- a fault of the text, or of dd
  pub read_refused : {A B : Type 0} (change : B → Change A) (s : SessionView D T) (e : ReadFault)
      → Obeys d t s s (Refused (Read e)) (λ before. ReadStep before change (Err e))
  read_refused change s e = obeys_refused (λ before. ReadStep before change (Err e)) s (Refused (Read e)) refl (λ is. cc) (λ before. (refl, refl))

  pub dd_refused : (A : Type 0) (s : SessionView D T) (e : DdFault)
      → Obeys d t s s (Refused (Dd e)) (λ before. DdStep {A = A} before (Err e))
  dd_refused A s e = obeys_refused (λ before. DdStep {A = A} before (Err e)) s (Refused (Dd e)) refl (λ is. cc) (λ before. (refl, refl))

  -- whatever is found, it is the next images
  abbrev AllFind : SessionView D T → SessionView D T → (Images → Images) → Type 0
  AllFind old new next = d.faithful old.image → t.faithful old.journal → t.faithful old.redo → (images : Images) → IsReady d.image t.text old images.stack → HasUndone d.image t.text old images.undone
      → Survive d.image d.survives t.text t.survives new (λ text x redo. Found text x redo (next images))

  -- a call that was accepted, from where the session stood
  accepted_step : (From : Standing → Result ℕ SessionFault → Standing → Type 0) (next : Images → Images) (old new : SessionView D T) (n : ℕ)
      → FailsSafely d t old new (Ok n)
      → ((images : Images) → d.faithful old.image → t.faithful old.journal → t.faithful old.redo → Shows d.image t.text old images
      → Shows d.image t.text new (next images) × From (Standing.Up images) (Ok n) (Standing.Up (next images)))
      → ((images : Images) → d.faithful old.image → t.faithful old.journal → t.faithful old.redo → IsReady d.image t.text old images.stack → HasUndone d.image t.text old images.undone
      → IsReady d.image t.text new (next images).stack)
      → (before : Standing) → HoldsAt d t old before → (after : Standing) × HoldsAt d t new after × From before (Ok n) after
  accepted_step From next old new n accepted shows sound (Standing.Up images) h =
      let shown = shows images h.0 h.1 h.2 (ready_shows d.image t.text old images h.3) in (
        Standing.Up (next images),
        (accepted.faith.0.1 h.0, accepted.faith.1.1 h.1, accepted.faith.2.1 h.2, (sound images h.0 h.1 h.2 h.3.0 h.3.1, shown.0.1)),
        shown.1,
      )
  accepted_step From next old new n accepted shows sound (Standing.Down images) h =
      let bad : Ok n ≡ Err Broken = accepted.broken.0 h.3.0 in absurd (cc)

  -- what is found behind a call that was accepted
  accepted_survives : (From : Standing → Result ℕ SessionFault → Standing → Type 0) (next : Images → Images) (old new : SessionView D T) (n : ℕ)
      → FailsSafely d t old new (Ok n)
      → ((images : Images) → d.faithful old.image → t.faithful old.journal → t.faithful old.redo → Shows d.image t.text old images
      → Shows d.image t.text new (next images) × From (Standing.Up images) (Ok n) (Standing.Up (next images)))
      → ((images : Images) → d.faithful old.image → t.faithful old.journal → t.faithful old.redo → IsReady d.image t.text old images.stack → HasUndone d.image t.text old images.undone
      → IsReady d.image t.text new (next images).stack)
      → AllFind old new next
      → (before : Standing) → HoldsAt d t old before → FindsEnd d t new (From before (Ok n))
  accepted_survives From next old new n accepted shows sound lasts (Standing.Up images) h x text redo there text_there redo_there =
      let shown = shows images h.0 h.1 h.2 (ready_shows d.image t.text old images h.3) in (
        Standing.Up (next images),
        shown.1,
        lasts h.0 h.1 h.2 images h.3.0 h.3.1 x text redo there text_there redo_there,
        (accepted.faith.0.1 h.0, accepted.faith.1.1 h.1, accepted.faith.2.1 h.2, (sound images h.0 h.1 h.2 h.3.0 h.3.1, shown.0.1)),
      )
  accepted_survives From next old new n accepted shows sound lasts (Standing.Down images) h x text redo there text_there redo_there =
      let bad : Ok n ≡ Err Broken = accepted.broken.0 h.3.0 in absurd (cc)

  -- a call that was accepted
  call_accepted : (made : ℕ → Reply) (Call : Images → Result ℕ SessionFault → Standing → Type 0) (next : Images → Images)
      (old new : SessionView D T) (n : ℕ) (reply : Reply) → reply ≡ answered made (Ok n) → IsNoRefusal reply
      → FailsSafely d t old new (Ok n)
      → ((images : Images) → d.faithful old.image → t.faithful old.journal → t.faithful old.redo → Shows d.image t.text old images
      → Shows d.image t.text new (next images) × Call images (Ok n) (Standing.Up (next images)))
      → ((images : Images) → d.faithful old.image → t.faithful old.journal → t.faithful old.redo → IsReady d.image t.text old images.stack → HasUndone d.image t.text old images.undone
      → IsReady d.image t.text new (next images).stack)
      → AllFind old new next
      → Obeys d t old new reply (λ before. CallStep made Call before)
  call_accepted made Call next old new n reply is no_refusal accepted shows sound lasts = record {
    step = λ before h.
        let stands = accepted_step (CallFrom Call) next old new n accepted shows sound before h in
        (stands.0, stands.1, called made Call before (Ok n) reply stands.0 is stands.2);
    stands = λ device store redo unfailed images shown.
        let stands = shows images device store redo shown in
        (next images, stands.0, (Ok n, is, stands.1));
    finds = λ stopped before h x text redo there text_there redo_there.
        let found = accepted_survives (CallFrom Call) next old new n accepted shows sound lasts before h x text redo there text_there redo_there in
        (found.0, called made Call before (Ok n) reply found.0 is found.1, found.2, found.3);
    found_before = λ whole. absurd (no_whole reply no_refusal whole);
    image_faith = accepted.faith.0;
    journal_faith = accepted.faith.1;
    redo_faith = accepted.faith.2;
    counts = unfailed_counts old new reply (no_failure reply no_refusal) accepted.counts;
    own = λ own. absurd (no_own reply no_refusal own);
    same = λ whole device store. absurd (no_whole reply no_refusal whole);
    redo_same = λ redo whole. absurd (no_whole reply no_refusal whole);
  }

  -- a call that was refused, or stopped, from where the session stood: what is left behind a stop, opening finds
  refused_step : (From : Standing → Result ℕ SessionFault → Standing → Type 0) (Left : Images → Type 0) (old new : SessionView D T) (e : SessionFault)
      → FailsSafely d t old new (refusal e)
      → ((images : Images) → d.faithful old.image → t.faithful old.journal → t.faithful old.redo → Shows d.image t.text old images → (e ≡ Interrupted → ⊥)
      → From (Standing.Up images) (Err e) (Standing.Up images))
      → (d.faithful old.image → t.faithful old.journal → t.faithful old.redo → (images : Images) → IsReady d.image t.text old images.stack → HasUndone d.image t.text old images.undone
      → AfterFault e (Left images) (Unit {0}))
      → ((images : Images) → Left images → (found : Images) × SessionFinds d.image t.text new found × From (Standing.Up images) (Err Interrupted) (Standing.Down found))
      → ((images : Images) → From (Standing.Down images) (Err Broken) (Standing.Down images))
      → (before : Standing) → HoldsAt d t old before → (after : Standing) × HoldsAt d t new after × From before (Err e) after
  refused_step From Left old new e refused stays finds stops down (Standing.Up images) h =
      let Goal : Type 0 = (after : Standing) × HoldsAt d t new after × From (Standing.Up images) (Err e) after in
      elim (is_interrupted e) as (λ _. Goal) [
        | inl stopped ↦
            let After : SessionFault → Type 0 = λ f. AfterFault f (Left images) (Unit {0}) in
            let found = stops images (subst After stopped (finds h.0 h.1 h.2 images h.3.0 h.3.1)) in
            let Step : SessionFault → Type 0 = λ f. From (Standing.Up images) (Err f) (Standing.Down found.0) in (
              Standing.Down found.0,
              (refused.faith.0.1 h.0, refused.faith.1.1 h.1, refused.faith.2.1 h.2, (subst (λ f. AfterFault f (new.is_broken ≡ true) (new.is_broken ≡ old.is_broken)) stopped refused.unmoved.2, found.1)),
              subst Step (sym stopped) found.2,
            )
        | inr whole ↦
            let same = after_same (IsSame d.image t.text old new) e (refused.refused h.0 h.1) whole in
            let redo_same = after_same (IsRedoSame t.text old new) e (refused.redo_same h.2) whole in (
              Standing.Up images,
              holds_same d t old new (Standing.Up images) refused.faith.0 refused.faith.1 refused.faith.2 same redo_same h,
              stays images h.0 h.1 h.2 (ready_shows d.image t.text old images h.3) whole,
            )
      ]
  refused_step From Left old new e refused stays finds stops down (Standing.Down images) h =
      let is : refusal e ≡ Err Broken = refused.broken.0 h.3.0 in
      let whole : e ≡ Interrupted → ⊥ = λ stopped. cc in
      let same = after_same (IsSame d.image t.text old new) e (refused.refused h.0 h.1) whole in
      let redo_same = after_same (IsRedoSame t.text old new) e (refused.redo_same h.2) whole in
      let Step : Result ℕ SessionFault → Type 0 = λ r. From (Standing.Down images) r (Standing.Down images) in (
        Standing.Down images,
        holds_same d t old new (Standing.Down images) refused.faith.0 refused.faith.1 refused.faith.2 same redo_same h,
        subst Step (sym is) (down images),
      )

  -- what a stop leaves to be found
  abbrev StopFinds : SessionView D T → SessionView D T → SessionFault → (Images → Images → Type 0) → Type 0
  StopFinds old new e Part = d.faithful old.image → t.faithful old.journal → t.faithful old.redo → (images : Images) → IsReady d.image t.text old images.stack → HasUndone d.image t.text old images.undone
      → AfterFault e (Survive d.image d.survives t.text t.survives new (λ text x redo. (found : Images) × Part images found × Found text x redo found)) (Unit {0})

  refused_survives : (From : Standing → Result ℕ SessionFault → Standing → Type 0) (Part : Images → Images → Type 0) (old new : SessionView D T) (e : SessionFault)
      → FailsSafely d t old new (refusal e)
      → e ≡ Interrupted → StopFinds old new e Part
      → ((images found : Images) → Part images found → From (Standing.Up images) (Err Interrupted) (Standing.Down found))
      → (before : Standing) → HoldsAt d t old before → FindsEnd d t new (From before (Err e))
  refused_survives From Part old new e refused stopped lasts parts (Standing.Up images) h x text redo there text_there redo_there =
      let After : SessionFault → Type 0 = λ f. AfterFault f (Survive d.image d.survives t.text t.survives new (λ text x redo. (found : Images) × Part images found × Found text x redo found)) (Unit {0}) in
      let found = subst After stopped (lasts h.0 h.1 h.2 images h.3.0 h.3.1) x text redo there text_there redo_there in
      let Step : SessionFault → Type 0 = λ f. From (Standing.Up images) (Err f) (Standing.Down found.0) in (
        Standing.Down found.0,
        subst Step (sym stopped) (parts images found.0 found.1),
        found.2,
        subst (λ f. AfterFault f (new.is_broken ≡ true) (new.is_broken ≡ old.is_broken)) stopped refused.unmoved.2,
      )
  refused_survives From Part old new e refused stopped lasts parts (Standing.Down images) h x text redo there text_there redo_there =
      let is : refusal e ≡ Err Broken = refused.broken.0 h.3.0 in
      let bad : refusal Interrupted ≡ Err Broken = sym (ap refusal stopped) ∙ is in absurd (cc)

  -- a call that was refused, or stopped
  call_refused : (made : ℕ → Reply) (Call : Images → Result ℕ SessionFault → Standing → Type 0) (Left : Images → Type 0)
      (old new : SessionView D T) (e : SessionFault)
      → FailsSafely d t old new (refusal e)
      → ((images : Images) → d.faithful old.image → t.faithful old.journal → t.faithful old.redo → Shows d.image t.text old images → (e ≡ Interrupted → ⊥)
      → Call images (Err e) (Standing.Up images))
      → (d.faithful old.image → t.faithful old.journal → t.faithful old.redo → (images : Images) → IsReady d.image t.text old images.stack → HasUndone d.image t.text old images.undone
      → AfterFault e (Left images) (Unit {0}))
      → ((images : Images) → Left images → (found : Images) × SessionFinds d.image t.text new found × Call images (Err Interrupted) (Standing.Down found))
      → StopFinds old new e (λ images found. Call images (Err Interrupted) (Standing.Down found))
      → AfterFault e (Unit {0}) (NothingNew d t old new)
      → Obeys d t old new (Refused (Session e)) (λ before. CallStep made Call before)
  call_refused made Call Left old new e refused stays finds stops lasts nothing =
      record {
        step = λ before h.
            let stands = refused_step (CallFrom Call) Left old new e refused stays finds stops (λ images. (refl, refl)) before h in
            (stands.0, stands.1, called made Call before (Err e) (Refused (Session e)) stands.0 refl stands.2);
        stands = λ device store redo unfailed images shows.
            let whole = unfailed_whole e unfailed in
            let same = after_same (IsSame d.image t.text old new) e (refused.refused device store) whole in
            let redo_same = after_same (IsRedoSame t.text old new) e (refused.redo_same redo) whole in
            (images, shows_same d.image t.text old new images same redo_same shows, (Err e, refl, stays images device store redo shows whole));
        finds = λ stopped before h x text redo there text_there redo_there.
            let found = refused_survives (CallFrom Call) (λ images found. Call images (Err Interrupted) (Standing.Down found)) old new e refused (is_stopped e stopped) lasts
            (λ images found part. part) before h x text redo there text_there redo_there in
            (found.0, called made Call before (Err e) (Refused (Session e)) found.0 refl found.1, found.2, found.3);
        found_before = λ whole. after_same (NothingNew d t old new) e nothing (whole_goes_on e whole);
        image_faith = refused.faith.0;
        journal_faith = refused.faith.1;
        redo_faith = refused.faith.2;
        counts = fault_counts old new e refused.counts;
        own = λ own. absurd own;
        same = λ whole device store. after_same (IsSame d.image t.text old new) e (refused.refused device store) (whole_goes_on e whole);
        redo_same = λ redo whole. after_same (IsRedoSame t.text old new) e (refused.redo_same redo) (whole_goes_on e whole);
      }

  -- a change that was made
  pub perform_obeys : {A : Type 0} (old new : SessionView D T) (c : Change A) (counts : Option Counts) (n : ℕ) (reply : Reply) → reply ≡ made_reply counts n
      → FailsSafely d t old new (Ok n)
      → (d.faithful old.image → t.faithful old.journal → (stack : List (List ℕ)) → IsStanding d.image t.text old stack
      → PerformStep stack c (Ok n) (effect c (top stack) ∷ stack) × IsStanding d.image t.text new (effect c (top stack) ∷ stack))
      → (d.faithful old.image → t.faithful old.journal → (stack : List (List ℕ)) → IsReady d.image t.text old stack → IsReady d.image t.text new (effect c (top stack) ∷ stack))
      → (t.faithful old.redo → HasUndone d.image t.text new [])
      → AllFind old new (λ s. change_to (effect c (top s.stack)) s)
      → Obeys d t old new reply (λ before. ChangeStep before c counts)
  perform_obeys old new c counts n reply is accepted makes sound undone lasts =
      let next : Images → Images = λ images. change_to (effect c (top images.stack)) images in
      call_accepted (made_reply counts) (PerformUp c) next old new n reply is
      (subst IsNoRefusal (sym is) (made_no_refusal counts n)) accepted
      (λ images device store redo shows.
      let made = makes device store images.stack shows.0 in
      ((made.1, undone redo), (next images, refl, made.0, refl)))
      (λ images device store redo ready has. sound device store images.stack ready)
      lasts

  -- changes that were taken back
  pub undo_obeys : (old new : SessionView D T) (k left : ℕ)
      → FailsSafely d t old new (Ok left)
      → (d.faithful old.image → t.faithful old.journal → (stack : List (List ℕ)) → IsStanding d.image t.text old stack
      → UndoStep stack k (Ok left) (drop k stack) × IsStanding d.image t.text new (drop k stack))
      → (d.faithful old.image → t.faithful old.journal → (stack : List (List ℕ)) → IsReady d.image t.text old stack → IsReady d.image t.text new (drop k stack))
      → (d.faithful old.image → t.faithful old.journal → t.faithful old.redo → (s : Images) → IsStanding d.image t.text old s.stack → HasUndone d.image t.text old s.undone
      → HasUndone d.image t.text new (undone_by k s.stack s.undone))
      → AllFind old new (undo_of k)
      → Obeys d t old new (Undone left) (λ before. UndoesStep before k)
  undo_obeys old new k left accepted makes sound keeps lasts =
      call_accepted Undone (UndoUp k) (undo_of k) old new left (Undone left) refl tt accepted
      (λ images device store redo shows.
      let made = makes device store images.stack shows.0 in
      ((made.1, keeps device store redo images shows.0 shows.1), (undo_of k images, refl, made.0, refl)))
      (λ images device store redo ready has. sound device store images.stack ready)
      lasts

  -- undone changes that were made again
  pub redo_obeys : (old new : SessionView D T) (j n : ℕ)
      → FailsSafely d t old new (Ok n)
      → (d.faithful old.image → t.faithful old.journal → t.faithful old.redo → (s : Images) → IsStanding d.image t.text old s.stack → HasUndone d.image t.text old s.undone
      → RedoStep s j (Ok n) (redo_of j s) × IsStanding d.image t.text new (redo_of j s).stack × HasUndone d.image t.text new (redo_of j s).undone)
      → (d.faithful old.image → t.faithful old.journal → t.faithful old.redo → (s : Images) → IsReady d.image t.text old s.stack → HasUndone d.image t.text old s.undone
      → IsReady d.image t.text new (redo_of j s).stack × HasUndone d.image t.text new (redo_of j s).undone)
      → AllFind old new (redo_of j)
      → Obeys d t old new (Redone n) (λ before. RedoesStep before j)
  redo_obeys old new j n accepted makes sound lasts =
      call_accepted Redone (RedoUp j) (redo_of j) old new n (Redone n) refl tt accepted
      (λ images device store redo shows.
      let made = makes device store redo images shows.0 shows.1 in
      ((made.1, made.2), (redo_of j images, refl, made.0, refl)))
      (λ images device store redo ready has. (sound device store redo images ready has).0)
      lasts

  -- a change that was refused, or stopped
  pub unperformed_obeys : {A : Type 0} (old new : SessionView D T) (c : Change A) (counts : Option Counts) (e : SessionFault)
      → FailsSafely d t old new (refusal e)
      → (IsErrOf (refusal e) JournalFull ↔ ((old.is_broken ≡ false) × (65535 ≤ old.count)))
      → (d.faithful old.image → IsErrOf (refusal e) TooLarge → Fits c (length (d.image old.image)) MAX_LEN → ⊥)
      → (d.faithful old.image → IsErrOf (refusal e) NoMemory → Fits c (length (d.image old.image)) MAX_LEN)
      → (d.faithful old.image → IsErrOf (refusal e) Interrupted → Fits c (length (d.image old.image)) MAX_LEN)
      → PerformFault e
      → (d.faithful old.image → t.faithful old.journal → t.faithful old.redo → (s : Images) → IsReady d.image t.text old s.stack → HasUndone d.image t.text old s.undone
      → AfterFault e (FindsEither d.image t.text new s (change_to (effect c (top s.stack)) s)) (Unit {0}))
      → (d.faithful old.image → t.faithful old.journal → t.faithful old.redo → (s : Images) → IsReady d.image t.text old s.stack → HasUndone d.image t.text old s.undone
      → AfterFault e (Survive d.image d.survives t.text t.survives new (λ text x redo. Found text x redo s ⊎ Found text x redo (change_to (effect c (top s.stack)) s))) (Unit {0}))
      → AfterFault e (Unit {0}) (NothingNew d t old new)
      → Obeys d t old new (Refused (Session e)) (λ before. ChangeStep before c counts)
  unperformed_obeys old new c counts e refused full large fits fitted kind finds lasts nothing =
      let Made : Images → Images = λ s. change_to (effect c (top s.stack)) s in
      let Left : Images → Type 0 = λ s. FindsEither d.image t.text new s (Made s) × Fits c (length (top s.stack)) MAX_LEN in
      let Finds : Images → Type 0 = λ s. (found : Images) × SessionFinds d.image t.text new found × PerformUp c s (Err Interrupted) (Standing.Down found) in
      let Fit : Images → Type 0 = λ s. Fits c (length (top s.stack)) MAX_LEN in
      let stopped_fits : d.faithful old.image → (images : Images) → IsReady d.image t.text old images.stack → HasUndone d.image t.text old images.undone → e ≡ Interrupted → Fit images =
      λ device images ready has stopped. fits_top d.faithful d.image t.text old c images device (ready_shows d.image t.text old images (ready, has)) (fitted device (ap refusal stopped)) in
      call_refused (made_reply counts) (PerformUp c) Left old new e refused
      (λ images device store redo shows whole. perform_stays d.faithful d.image t.text old c e refused.broken full large fits kind device images shows whole)
      (λ device store redo images ready has.
      both_after (FindsEither d.image t.text new images (Made images)) (Fits c (length (top images.stack)) MAX_LEN) e (finds device store redo images ready has)
      (stopped_fits device images ready has))
      (λ images left. elim left.0 as (λ _. Finds images) [
        | inl before ↦ (images, before, (inl refl, left.1))
        | inr made ↦ (Made images, made, (inr refl, left.1))
      ])
      (λ device store redo images ready has.
      let Either : List ℕ → List ℕ → List ℕ → Type 0 = λ text x redo. Found text x redo images ⊎ Found text x redo (Made images) in
      let Part : Images → Type 0 = λ found. PerformUp c images (Err Interrupted) (Standing.Down found) in
      after_weaker (Survive d.image d.survives t.text t.survives new Either × Fit images) (Survive d.image d.survives t.text t.survives new (λ text x redo. (found : Images) × Part found × Found text x redo found))
      (λ both x text redo there text_there redo_there. either_found c images (both.0 x text redo there text_there redo_there) both.1) e
      (both_after (Survive d.image d.survives t.text t.survives new Either) (Fit images) e (lasts device store redo images ready has) (stopped_fits device images ready has)))
      nothing

  -- an undo that was refused, or stopped
  pub kept_obeys : (old new : SessionView D T) (k : ℕ) (e : SessionFault)
      → FailsSafely d t old new (refusal e)
      → (((old.is_broken ≡ false) × (old.count < k)) ↔ IsErrOf (refusal e) (TooFew old.count))
      → UndoFault old.count e
      → (t.faithful old.journal → HasCount (t.text old.journal) old.count → (line : ℕ) → e ≡ Damaged line → ⊥)
      → (d.faithful old.image → t.faithful old.journal → t.faithful old.redo → (s : Images) → IsReady d.image t.text old s.stack → HasUndone d.image t.text old s.undone
      → AfterFault e ((i : ℕ) × (i ≤ k) × SessionFinds d.image t.text new (undo_of i s)) (Unit {0}))
      → (d.faithful old.image → t.faithful old.journal → t.faithful old.redo → (s : Images) → IsReady d.image t.text old s.stack → HasUndone d.image t.text old s.undone
      → AfterFault e (Survive d.image d.survives t.text t.survives new (λ text x redo. (i : ℕ) × (i ≤ k) × Found text x redo (undo_of i s))) (Unit {0}))
      → AfterFault e (Unit {0}) (NothingNew d t old new)
      → Obeys d t old new (Refused (Session e)) (λ before. UndoesStep before k)
  kept_obeys old new k e refused few kind undamaged finds lasts nothing =
      call_refused Undone (UndoUp k) (λ s. (i : ℕ) × (i ≤ k) × SessionFinds d.image t.text new (undo_of i s)) old new e refused
      (λ images device store redo shows whole. undo_stays t.faithful d.image t.text old k e refused.broken few kind undamaged store images shows whole)
      finds
      (λ images left. (undo_of left.0 images, left.2, (left.0, left.1, refl)))
      (λ device store redo images ready has.
      after_weaker (Survive d.image d.survives t.text t.survives new (λ text x redo. (i : ℕ) × (i ≤ k) × Found text x redo (undo_of i images)))
      (Survive d.image d.survives t.text t.survives new (λ text x redo. (found : Images) × ((i : ℕ) × (i ≤ k) × (Standing.Down found ≡ Standing.Down (undo_of i images))) × Found text x redo found))
      (λ some x text redo there text_there redo_there.
      let part = some x text redo there text_there redo_there in (undo_of part.0 images, (part.0, part.1, refl), part.2)) e
      (lasts device store redo images ready has))
      nothing

  -- a redo that was refused, or stopped
  pub unredone_obeys : (old new : SessionView D T) (j : ℕ) (e : SessionFault)
      → FailsSafely d t old new (refusal e)
      → (((old.is_broken ≡ false) × (old.undone < j)) ↔ IsErrOf (refusal e) (NothingToRedo old.undone))
      → RedoFault old.undone e
      → (t.faithful old.redo → HasCount (t.text old.redo) old.undone → (line : ℕ) → e ≡ RedoDamaged line → ⊥)
      → (d.faithful old.image → t.faithful old.journal → t.faithful old.redo → (s : Images) → IsReady d.image t.text old s.stack → HasUndone d.image t.text old s.undone
      → AfterFault e ((i : ℕ) × (i ≤ j) × SessionFinds d.image t.text new (redo_of i s)) (Unit {0}))
      → (d.faithful old.image → t.faithful old.journal → t.faithful old.redo → (s : Images) → IsReady d.image t.text old s.stack → HasUndone d.image t.text old s.undone
      → AfterFault e (Survive d.image d.survives t.text t.survives new (λ text x redo. (i : ℕ) × (i ≤ j) × Found text x redo (redo_of i s))) (Unit {0}))
      → AfterFault e (Unit {0}) (NothingNew d t old new)
      → Obeys d t old new (Refused (Session e)) (λ before. RedoesStep before j)
  unredone_obeys old new j e refused none kind undamaged finds lasts nothing =
      call_refused Redone (RedoUp j) (λ s. (i : ℕ) × (i ≤ j) × SessionFinds d.image t.text new (redo_of i s)) old new e refused
      (λ images device store redo shows whole. redo_stays t.faithful d.image t.text old j e refused.broken none kind undamaged redo images shows whole)
      finds
      (λ images left. (redo_of left.0 images, left.2, (left.0, left.1, refl)))
      (λ device store redo images ready has.
      after_weaker (Survive d.image d.survives t.text t.survives new (λ text x redo. (i : ℕ) × (i ≤ j) × Found text x redo (redo_of i images)))
      (Survive d.image d.survives t.text t.survives new (λ text x redo. (found : Images) × ((i : ℕ) × (i ≤ j) × (Standing.Down found ≡ Standing.Down (redo_of i images))) × Found text x redo found))
      (λ some x text redo there text_there redo_there.
      let part = some x text redo there text_there redo_there in (redo_of part.0 images, (part.0, part.1, refl), part.2)) e
      (lasts device store redo images ready has))
      nothing
