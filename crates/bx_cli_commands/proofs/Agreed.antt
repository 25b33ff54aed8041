-- A session whose image is compared with a patch, and a change behind that.
use Rattle.std.proofs.Common.{◌≡◌, ◌↔◌, ◌⊎◌, inl, inr, ◌∙◌, ◌+◌, ◌≤◌, ℕ, true, false, cond, Option, None, Some, Result, Ok, Err, List, refl, sym, ap, subst, arith}
use Rattle.bx_image.specs.declared.device.Device.{Ghosts as DeviceViews}
use Rattle.bx_journal_store.specs.declared.store.TextStore.{Ghosts as StoreViews}
use Rattle.bx_journal.specs.Images.{Images}
use Rattle.bx_journal.specs.Looking.{OnlyLooks}
use Rattle.bx_journal.specs.Machine.{top}
use Rattle.bx_journal.specs.Power.{NothingNew}
use Rattle.bx_journal.specs.Session.{FailsSafely, IsRedoSame, IsSame}
use Rattle.bx_journal.specs.SessionView.{SessionView}
use Rattle.bx_journal.specs.SessionFault.{SessionFault}
use Rattle.bx_journal.specs.SessionFault.TheVariants.{Broken, DeviceFailed, Interrupted, JournalFull}
use Rattle.bx_patch.specs.declared.other.Other.{Other}
use Rattle.bx_patch.specs.declared.read.fault.PatchFault.TheVariants as of_patch
use Rattle.bx_patch.specs.Other.{FindsOther}
use Rattle.bx_patch.specs.Patch.{Asked, patch_change}
use Rattle.bx_cli_commands.specs.declared.command.Reply.{Reply}
use Rattle.bx_cli_commands.specs.declared.command.Reply.TheVariants.{Changed, Copied, Undone, Redone, Refused}
use Rattle.bx_cli_commands.specs.declared.fault.Fault.TheVariants.{Io, Read, Behind, Dd, Patch, Disagrees, NotReversible, NothingToWrite, Session, Grows, ChangedSince, Usage, OpenFailed}
use Rattle.bx_cli_commands.specs.Obeys.{Obeys}
use Rattle.bx_cli_commands.specs.Refusal.{IsOwnRefusal, IsWholeRefusal}
use Rattle.bx_cli_commands.specs.Run.{AgreedStep, ChangeStep, PatchStep, is_failure}
use Rattle.bx_cli_commands.specs.Standing.{CountsBy, HoldsAt, Shows, Standing}
use Rattle.bx_cli_commands.specs.Tells.{ChangeTells, CountsStay, PatchTells}
use Rattle.bx_cli_commands.proofs.Obeys.{fault_counts, obeys_refused, unfailed_counts}
use Rattle.bx_cli_commands.proofs.Refusals.{nothing_new_on, redo_same_on, same_on}
use Rattle.bx_cli_commands.proofs.Stays.{holds_same, ready_shows, shows_same}
use Rattle.bx_cli_commands.proofs.Steps.{top_standing, true_is_not_false}

-- of a comparison that was answered, or refused
abbrev found_in : Option Other → Result (Option Other) SessionFault
found_in found = Ok found

-- of any look that was answered
abbrev pub seen : {V : Type 0} → V → Result V SessionFault
seen v = Ok v

abbrev unfound : SessionFault → Result (Option Other) SessionFault
unfound e = Err e

-- the comparison ended in this fault, and no other can end it
abbrev pub EndsLook : SessionFault → Type 0
EndsLook e = (e ≡ Broken) ⊎ (e ≡ DeviceFailed)

pub look_is_whole : (e : SessionFault) → EndsLook e → IsWholeRefusal (Refused (Session e))
look_is_whole e (inl broken) = λ is. let bad : Session Broken ≡ Session Interrupted = sym (ap Session broken) ∙ is in absurd (cc)
look_is_whole e (inr failed) = λ is. let bad : Session DeviceFailed ≡ Session Interrupted = sym (ap Session failed) ∙ is in absurd (cc)

pub broken_refuses : (e : SessionFault) → unfound e ≡ unfound Broken → Refused (Session e) ≡ Refused (Session Broken)
broken_refuses e is = cc

broken_not_full : Broken ≡ JournalFull → ⊥
broken_not_full is = cc

module _ {D T : Type 0} (d : DeviceViews D) (t : StoreViews T) where
  look_same : (old new : SessionView D T) → OnlyLooks d t old new → d.faithful old.image → IsSame d.image t.text old new
  look_same old new looks faithful = record {
    image_same = looks.image faithful;
    text_same = ap t.text looks.journal;
    count = looks.count;
    broken = looks.is_broken;
  }

  look_redo_same : (old new : SessionView D T) → OnlyLooks d t old new → IsRedoSame t.text old new
  look_redo_same old new looks = record { text_same = ap t.text looks.redo; undone = looks.undone }

  -- three devices are as faithful as before
  abbrev pub AsFaithful : SessionView D T → SessionView D T → Type 0
  AsFaithful old new = (d.faithful new.image ↔ d.faithful old.image) × (t.faithful new.journal ↔ t.faithful old.journal) × (t.faithful new.redo ↔ t.faithful old.redo)

  -- the session stands where it stood
  pub look_holds : (old new : SessionView D T) (s : Standing) → AsFaithful old new → OnlyLooks d t old new → HoldsAt d t old s → HoldsAt d t new s
  look_holds old new (Standing.Up images) faith looks h =
      holds_same d t old new (Standing.Up images) faith.0 faith.1 faith.2 (look_same old new looks h.0) (look_redo_same old new looks) h
  look_holds old new (Standing.Down images) faith looks h =
      holds_same d t old new (Standing.Down images) faith.0 faith.1 faith.2 (look_same old new looks h.0) (look_redo_same old new looks) h

  pub look_shows : (old new : SessionView D T) (images : Images) → OnlyLooks d t old new → d.faithful old.image → Shows d.image t.text old images → Shows d.image t.text new images
  look_shows old new images looks faithful shows = shows_same d.image t.text old new images (look_same old new looks faithful) (look_redo_same old new looks) shows

  -- what is found of the device's image is found of the newest one
  found_of_top : (old : SessionView D T) (images : Images) (p : Asked) (found : Option Other) → Shows d.image t.text old images
      → FindsOther p (d.image old.image) found → FindsOther p (top images.stack) found
  found_of_top old images p found shows finds =
      let Finds : List ℕ → Type 0 = λ x. FindsOther p x found in
      subst Finds (sym (top_standing d.image t.text old images.stack shows.0)) finds

  -- a refusal behind a comparison
  pub look_refused : (Step : Standing → Reply → Standing → Type 0) (old new : SessionView D T) (reply : Reply)
      → AsFaithful old new → OnlyLooks d t old new → NothingNew d t old new → IsWholeRefusal reply → (IsOwnRefusal reply → ⊥)
      → CountsBy d t old new (cond (is_failure reply) 1 0)
      → ((before : Standing) → HoldsAt d t old before → Step before reply before)
      → (d.faithful old.image → (images : Images) → Shows d.image t.text old images → Step (Standing.Up images) reply (Standing.Up images))
      → Obeys d t old new reply Step
  look_refused Step old new reply faith looks nothing whole other counts steps shown = record {
    step = λ before h. (before, look_holds old new before faith looks h, steps before h);
    stands = λ device store redo unfailed images shows. (images, look_shows old new images looks device shows, shown device images shows);
    finds = λ stopped. absurd (stopped whole);
    found_before = λ is. nothing;
    image_faith = faith.0;
    journal_faith = faith.1;
    redo_faith = faith.2;
    counts = counts;
    own = λ own. absurd (other own);
    same = λ is device store. look_same old new looks device;
    redo_same = λ redo is. look_redo_same old new looks;
  }

  -- the image disagrees
  pub disagrees : (A : Type 0) (old new : SessionView D T) (p : Asked) (other : Other) → FailsSafely d t old new (found_in (Some other))
      → OnlyLooks d t old new → NothingNew d t old new → (d.faithful old.image → FindsOther p (d.image old.image) (Some other))
      → Obeys d t old new (Refused (Disagrees other)) (λ before. AgreedStep A before p)
  disagrees A old new p other safe looks nothing found =
      look_refused (λ before. AgreedStep A before p) old new (Refused (Disagrees other)) safe.faith looks nothing (λ is. cc) (λ own. own)
      (unfailed_counts d t old new (Refused (Disagrees other)) refl safe.counts)
      (λ before h. at before h)
      (λ device images shows. inr (Some other, found_of_top old images p (Some other) shows (found device), (refl, refl)))
    where
      at : (before : Standing) → HoldsAt d t old before → AgreedStep A before p (Refused (Disagrees other)) before
      at (Standing.Up images) h =
          inr (Some other, found_of_top old images p (Some other) (ready_shows d.image t.text old images h.3) (found h.0), (refl, refl))
      at (Standing.Down images) h = let bad : found_in (Some other) ≡ unfound Broken = safe.broken.0 h.3.0 in absurd (cc)

  -- the comparison was refused
  pub uncompared : (A : Type 0) (old new : SessionView D T) (p : Asked) (e : SessionFault) → FailsSafely d t old new (unfound e)
      → OnlyLooks d t old new → NothingNew d t old new → EndsLook e
      → Obeys d t old new (Refused (Session e)) (λ before. AgreedStep A before p)
  uncompared A old new p e safe looks nothing ends =
      look_refused (λ before. AgreedStep A before p) old new (Refused (Session e)) safe.faith looks nothing (look_is_whole e ends) (λ own. own)
      (fault_counts d t old new e safe.counts)
      (λ before h. at before h)
      (λ device images shows. inl (failed shows.0.whole, refl))
    where
      -- a session that goes on isn't broken
      failed : old.is_broken ≡ false → Refused (Session e) ≡ Refused (Session DeviceFailed)
      failed whole = elim ends as (λ _. Refused (Session e) ≡ Refused (Session DeviceFailed)) [
        | inl broken ↦ absurd (true_is_not_false (sym (safe.broken.1 (ap unfound broken)) ∙ whole))
        | inr is ↦ ap (λ f. Refused (Session f)) is
      ]

      at : (before : Standing) → HoldsAt d t old before → AgreedStep A before p (Refused (Session e)) before
      at (Standing.Up images) h = inl (failed h.3.0.whole, refl)
      at (Standing.Down images) h = (broken_refuses e (safe.broken.0 h.3.0), refl)

  -- What is done behind a look that was answered, from where the session stood: `Next` is its step, which leads to the whole one
  pub look_then : {V : Type 0} (v : V) (Step Next : Standing → Reply → Standing → Type 0) (old now new : SessionView D T) (reply : Reply)
      → FailsSafely d t old now (seen v) → OnlyLooks d t old now → NothingNew d t old now
      → (d.faithful old.image → (images : Images) → Shows d.image t.text old images → (then : Standing)
      → Next (Standing.Up images) reply then → Step (Standing.Up images) reply then)
      → Obeys d t now new reply Next → (IsOwnRefusal reply → ⊥) → Obeys d t old new reply Step
  look_then v Step Next old now new reply safe looks nothing lift obeys other = record {
    step = λ before h.
        let made = obeys.step before (look_holds old now before safe.faith looks h) in
        (made.0, made.1, after before made.0 h made.2);
    stands = λ device store redo unfailed images shows.
        let made = obeys.stands (safe.faith.0.1 device) (safe.faith.1.1 store) (safe.faith.2.1 redo) unfailed images (look_shows old now images looks device shows) in
        (made.0, made.1, lift device images shows (Standing.Up made.0) made.2);
    finds = λ stopped before h x text redo there text_there redo_there.
        let left = obeys.finds stopped before (look_holds old now before safe.faith looks h) x text redo there text_there redo_there in
        (left.0, after before left.0 h left.1, left.2, left.3);
    found_before = λ whole. nothing_new_on d t old now new safe.faith.0 safe.faith.1 safe.faith.2 nothing (obeys.found_before whole);
    image_faith = ((λ h. safe.faith.0.0 (obeys.image_faith.0 h)), (λ h. obeys.image_faith.1 (safe.faith.0.1 h)));
    journal_faith = ((λ h. safe.faith.1.0 (obeys.journal_faith.0 h)), (λ h. obeys.journal_faith.1 (safe.faith.1.1 h)));
    redo_faith = ((λ h. safe.faith.2.0 (obeys.redo_faith.0 h)), (λ h. obeys.redo_faith.1 (safe.faith.2.1 h)));
    counts = counts_behind (cond (is_failure reply) 1 0) obeys.counts;
    own = λ own. absurd (other own);
    same = λ whole device store. same_on d.image t.text old now new (look_same old now looks device) (obeys.same whole (safe.faith.0.1 device) (safe.faith.1.1 store));
    redo_same = λ redo whole. redo_same_on t.text old now new (look_redo_same old now looks) (obeys.redo_same (safe.faith.2.1 redo) whole);
  }
    where
      after : (before then : Standing) → HoldsAt d t old before → Next before reply then → Step before reply then
      after (Standing.Up images) then h step = lift h.0 images (ready_shows d.image t.text old images h.3) then step
      after (Standing.Down images) then h step = let bad : seen v ≡ Err Broken = safe.broken.0 h.3.0 in absurd (cc)

      counts_behind : (n : ℕ) → CountsBy d t now new n → CountsBy d t old new n
      counts_behind n by =
          let image = safe.counts.0 in let journal = safe.counts.1 in let redo = safe.counts.2 in
          let a = by.image_least in let b = by.journal_least in let c = by.redo_least in let e = by.rise in
          record { image_least = omega arith; journal_least = omega arith; redo_least = omega arith; rise = omega arith }

  -- the image agrees, and the change is made, refused or stopped
  pub agreed : {A : Type 0} (old now new : SessionView D T) (p : Asked) (reply : Reply) → FailsSafely d t old now (found_in None)
      → OnlyLooks d t old now → NothingNew d t old now → (d.faithful old.image → FindsOther p (d.image old.image) None)
      → Obeys d t now new reply (λ before. ChangeStep {A = A} before (patch_change p) None) → (IsOwnRefusal reply → ⊥)
      → Obeys d t old new reply (λ before. AgreedStep A before p)
  agreed {A = A} old now new p reply safe looks nothing found obeys other =
      let none : Option Other = None in
      look_then none (λ before. AgreedStep A before p) (λ before. ChangeStep {A = A} before (patch_change p) None) old now new reply safe looks nothing
      (λ device images shows then step. inr (None, found_of_top old images p None shows (found device), step)) obeys other

  -- want of memory for taking the patch
  pub patch_refused : (A : Type 0) (s : SessionView D T) (p : Asked) → Obeys d t s s (Refused (Patch of_patch.NoMemory)) (λ before. PatchStep A before p)
  patch_refused A s p =
      obeys_refused d t (λ before. PatchStep A before p) s (Refused (Patch of_patch.NoMemory)) refl (λ is. cc) (λ before. inl (refl, refl))

  look_stays : (old new : SessionView D T) → OnlyLooks d t old new → CountsStay old new
  look_stays old new looks = (looks.count, looks.undone)

  pub uncompared_tells : (old new : SessionView D T) (e : SessionFault) → FailsSafely d t old new (unfound e) → OnlyLooks d t old new → EndsLook e
      → PatchTells old (Refused (Session e)) new
  uncompared_tells old new e safe looks (inr failed) = inl (ap (λ f. Refused (Session f)) failed, look_stays old new looks)
  uncompared_tells old new e safe looks (inl broken) =
      let Tell : SessionFault → Type 0 = λ f. ChangeTells old (Refused (Session f)) new in
      let is : old.is_broken ≡ true = safe.broken.1 (ap unfound broken) in
      inr (subst Tell (sym broken) (tt, ((λ full. absurd (broken_not_full full)), (λ full. absurd (true_is_not_false (sym is ∙ full.0)))), look_stays old new looks))

  pub disagrees_tells : (old new : SessionView D T) (other : Other) → OnlyLooks d t old new → PatchTells old (Refused (Disagrees other)) new
  disagrees_tells old new other looks = inr (look_stays old new looks)

  -- what a reply tells behind a comparison
  tells_behind : (old now new : SessionView D T) (reply : Reply) → OnlyLooks d t old now → ChangeTells now reply new → ChangeTells old reply new
  tells_behind old now new (Changed n) looks tells = (tells.0 ∙ ap (λ k. k + 1) looks.count, tells.1, tells.2)
  tells_behind old now new (Copied n counts) looks tells = (tells.0 ∙ ap (λ k. k + 1) looks.count, tells.1, tells.2)
  tells_behind old now new (Undone left) looks tells = absurd tells
  tells_behind old now new (Redone n) looks tells = absurd tells
  tells_behind old now new (Refused (Session e)) looks (kind, full, stay) = (
    kind,
    (
      (λ is. let both = full.0 is in (sym looks.is_broken ∙ both.0, subst (λ k. 65535 ≤ k) looks.count both.1)),
      (λ both. full.1 (looks.is_broken ∙ both.0, subst (λ k. 65535 ≤ k) (sym looks.count) both.1)),
    ),
    (stay.0 ∙ looks.count, stay.1 ∙ looks.undone),
  )
  tells_behind old now new (Refused (Io e)) looks stay = (stay.0 ∙ looks.count, stay.1 ∙ looks.undone)
  tells_behind old now new (Refused (Read e)) looks stay = (stay.0 ∙ looks.count, stay.1 ∙ looks.undone)
  tells_behind old now new (Refused (Behind line)) looks stay = (stay.0 ∙ looks.count, stay.1 ∙ looks.undone)
  tells_behind old now new (Refused (Dd e)) looks stay = (stay.0 ∙ looks.count, stay.1 ∙ looks.undone)
  tells_behind old now new (Refused (Patch e)) looks stay = (stay.0 ∙ looks.count, stay.1 ∙ looks.undone)
  tells_behind old now new (Refused (Disagrees other)) looks stay = (stay.0 ∙ looks.count, stay.1 ∙ looks.undone)
  tells_behind old now new (Refused NotReversible) looks stay = (stay.0 ∙ looks.count, stay.1 ∙ looks.undone)
  tells_behind old now new (Refused NothingToWrite) looks stay = (stay.0 ∙ looks.count, stay.1 ∙ looks.undone)
  tells_behind old now new (Refused (Grows has wanted)) looks stay = (stay.0 ∙ looks.count, stay.1 ∙ looks.undone)
  tells_behind old now new (Refused ChangedSince) looks stay = (stay.0 ∙ looks.count, stay.1 ∙ looks.undone)
  tells_behind old now new (Refused Usage) looks stay = (stay.0 ∙ looks.count, stay.1 ∙ looks.undone)
  tells_behind old now new (Refused OpenFailed) looks stay = (stay.0 ∙ looks.count, stay.1 ∙ looks.undone)

  pub agreed_tells : (old now new : SessionView D T) (reply : Reply) → OnlyLooks d t old now → ChangeTells now reply new → PatchTells old reply new
  agreed_tells old now new reply looks tells = inr (tells_behind old now new reply looks tells)
