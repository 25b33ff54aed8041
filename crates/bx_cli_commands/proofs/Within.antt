-- A change that isn't to make its image longer.
use Rattle.std.proofs.Common.{◌≡◌, inl, inr, ◌∙◌, ◌≤◌, ℕ, false, Option, None, Some, Result, Ok, Err, List, length, refl, sym, ap, subst, arith}
use Rattle.bx_image.specs.declared.change.Change.{Change as ChangeOf}
use Rattle.bx_image.specs.declared.device.Device.{Ghosts as DeviceViews}
use Rattle.bx_journal_store.specs.declared.store.TextStore.{Ghosts as StoreViews}
use Rattle.bx_journal.specs.Images.{Images}
use Rattle.bx_journal.specs.Looking.{OnlyLooks}
use Rattle.bx_journal.specs.Machine.{top}
use Rattle.bx_journal.specs.Power.{NothingNew}
use Rattle.bx_journal.specs.Session.{FailsSafely}
use Rattle.bx_journal.specs.SessionView.{SessionView}
use Rattle.bx_journal.specs.SessionFault.{SessionFault}
use Rattle.bx_journal.specs.SessionFault.TheVariants.{NoMemory, TooLarge, DeviceFailed, Damaged, TooFew, JournalFull, Interrupted, Broken, LengthDiffers, NothingToRedo, RedoDamaged}
use Rattle.bx_patch.specs.declared.other.Other.{Other}
use Rattle.bx_patch.specs.Other.{FindsOther}
use Rattle.bx_patch.specs.Patch.{Asked, patch_change}
use Rattle.bx_patch.specs.Read.{asked_of}
use Rattle.bx_cli_commands.specs.declared.command.Kept.{Kept}
use Rattle.bx_cli_commands.specs.declared.command.Kept.TheVariants as of
use Rattle.bx_cli_commands.specs.declared.command.Reply.{Reply}
use Rattle.bx_cli_commands.specs.declared.command.Reply.TheVariants.{Refused}
use Rattle.bx_cli_commands.specs.declared.fault.Fault.{Fault}
use Rattle.bx_cli_commands.specs.declared.fault.Fault.TheVariants.{Disagrees, Session, Grows}
use Rattle.bx_cli_commands.specs.Growth.{IsNoLonger, KeptStep, Lengthens, LengthensNot, PatchWithin, WithinStep}
use Rattle.bx_cli_commands.specs.Obeys.{Obeys}
use Rattle.bx_cli_commands.specs.Refusal.{IsOwnRefusal}
use Rattle.bx_cli_commands.specs.Power.{images_of}
use Rattle.bx_cli_commands.specs.Run.{ChangeStep}
use Rattle.bx_cli_commands.specs.Standing.{HoldsAt, PerformUp, Shows, Standing}
use Rattle.bx_cli_commands.proofs.Agreed.{EndsLook, look_is_whole, look_refused, look_then, seen}
use Rattle.bx_cli_commands.proofs.Obeys.{fault_counts, unfailed_counts}
use Rattle.bx_cli_commands.proofs.Stays.{ready_shows}
use Rattle.bx_cli_commands.proofs.Steps.{top_standing, true_is_not_false}

-- the fault isn't one of the command's own text or operands
pub growth_not_own : (has wanted : ℕ) (fault : Fault) → fault ≡ Grows has wanted → IsOwnRefusal (Refused fault) → ⊥
growth_not_own has wanted fault kind own = let Own : Fault → Type 0 = λ f. IsOwnRefusal (Refused f) in subst Own kind own

-- the images that are found are no longer
abbrev Within : Images → Standing → Type 0
Within old after = IsNoLonger old (images_of after)

stays_within : (old : Images) (after : Standing) → after ≡ Standing.Up old → Within old after
stays_within old after is = subst (λ a. Within old a) (sym is) (omega arith)

perform_within : {A : Type 0} (c : ChangeOf A) (old : Images) (r : Result ℕ SessionFault) (after : Standing) → LengthensNot c (top old.stack)
    → PerformUp c old r after → Within old after
perform_within c old (Ok n) after not (new, is, step, undone) =
    let Long : List (List ℕ) → Type 0 = λ s. length (top s) ≤ length (top old.stack) in
    subst (λ a. Within old a) (sym is) (subst Long (sym step.3) (not step.1))
perform_within c old (Err Interrupted) after not (inl is, fits) = subst (λ a. Within old a) (sym is) (omega arith)
perform_within c old (Err Interrupted) after not (inr is, fits) = subst (λ a. Within old a) (sym is) (not fits)
perform_within c old (Err NoMemory) after not p = stays_within old after p.0
perform_within c old (Err TooLarge) after not p = stays_within old after p.0
perform_within c old (Err DeviceFailed) after not p = stays_within old after p
perform_within c old (Err (Damaged line)) after not p = stays_within old after p.0
perform_within c old (Err (TooFew have)) after not p = stays_within old after p.0
perform_within c old (Err JournalFull) after not p = stays_within old after p.1
perform_within c old (Err Broken) after not p = stays_within old after p.0
perform_within c old (Err (LengthDiffers expected)) after not p = stays_within old after p.0
perform_within c old (Err (NothingToRedo have)) after not p = stays_within old after p.0
perform_within c old (Err (RedoDamaged line)) after not p = stays_within old after p.0

step_within : {A : Type 0} (c : ChangeOf A) (old : Images) (reply : Reply) (after : Standing) → WithinStep (Standing.Up old) c reply after → Within old after
step_within c old reply after (inl failed) = stays_within old after failed.1
step_within c old reply after (inr (inl (fault, is, lengthens, up))) = stays_within old after up
step_within c old reply after (inr (inr (not, (r, is, call)))) = perform_within c old r after not call

-- behind a change that isn't to make the image longer none is longer
pub never_grows : {A : Type 0} (old : Images) (kept : Kept A) (reply : Reply) (after : Standing) → KeptStep (Standing.Up old) kept reply after → Within old after
never_grows old (of.Change c) reply after step = step_within c old reply after step
never_grows old (of.Patch patch) reply after (inl failed) = stays_within old after failed.1
never_grows {A = A} old (of.Patch patch) reply after (inr (None, agrees, step)) = step_within (patch_change {A = A} (asked_of patch)) old reply after step
never_grows old (of.Patch patch) reply after (inr (Some other, has, step)) = stays_within old after step.1

module _ {D T : Type 0} (d : DeviceViews D) (t : StoreViews T) where
  -- what is said of the device's image is said of the newest one
  of_top : (P : List ℕ → Type 0) (old : SessionView D T) (images : Images) → Shows d.image t.text old images → P (d.image old.image) → P (top images.stack)
  of_top P old images shows has = subst P (sym (top_standing d.image t.text old images.stack shows.0)) has

  -- the image would get longer
  longer_by : {A V : Type 0} (v : V) (old new : SessionView D T) (c : ChangeOf A) (has wanted : ℕ) → FailsSafely d t old new (seen v)
      → OnlyLooks d t old new → NothingNew d t old new → (d.faithful old.image → Lengthens c (d.image old.image) (Grows has wanted))
      → Obeys d t old new (Refused (Grows has wanted)) (λ before. WithinStep before c)
  longer_by v old new c has wanted safe looks nothing is =
      look_refused d t (λ before. WithinStep before c) old new (Refused (Grows has wanted)) safe.faith looks nothing (λ is. cc) (λ own. own)
      (unfailed_counts d t old new (Refused (Grows has wanted)) refl safe.counts)
      (λ before h. at before h)
      (λ device images shows. told device images shows)
    where
      told : d.faithful old.image → (images : Images) → Shows d.image t.text old images
          → WithinStep (Standing.Up images) c (Refused (Grows has wanted)) (Standing.Up images)
      told device images shows =
          inr (inl (Grows has wanted, refl, of_top (λ x. Lengthens c x (Grows has wanted)) old images shows (is device), refl))

      at : (before : Standing) → HoldsAt d t old before → WithinStep before c (Refused (Grows has wanted)) before
      at (Standing.Up images) h = told h.0 images (ready_shows d.image t.text old images h.3)
      at (Standing.Down images) h = let bad : seen v ≡ Err Broken = safe.broken.0 h.3.0 in absurd (cc)

  pub longer : {A V : Type 0} (v : V) (old new : SessionView D T) (c : ChangeOf A) (has wanted : ℕ) (fault : Fault) → fault ≡ Grows has wanted
      → FailsSafely d t old new (seen v) → OnlyLooks d t old new → NothingNew d t old new
      → (d.faithful old.image → Lengthens c (d.image old.image) fault) → Obeys d t old new (Refused fault) (λ before. WithinStep before c)
  longer v old new c has wanted fault kind safe looks nothing is =
      let Told : Fault → Type 0 = λ f. Lengthens c (d.image old.image) f in
      rw kind (longer_by v old new c has wanted safe looks nothing (λ faithful. subst Told kind (is faithful)))

  -- it wouldn't, and the change is made, refused or stopped
  pub within : {A V : Type 0} (v : V) (old now new : SessionView D T) (c : ChangeOf A) (reply : Reply) → FailsSafely d t old now (seen v)
      → OnlyLooks d t old now → NothingNew d t old now → (d.faithful old.image → LengthensNot c (d.image old.image))
      → Obeys d t now new reply (λ before. ChangeStep before c None) → (IsOwnRefusal reply → ⊥)
      → Obeys d t old new reply (λ before. WithinStep before c)
  within v old now new c reply safe looks nothing is obeys other =
      look_then d t v (λ before. WithinStep before c) (λ before. ChangeStep before c None) old now new reply safe looks nothing
      (λ device images shows then step. inr (inr (of_top (λ x. LengthensNot c x) old images shows (is device), step))) obeys other

  -- a refusal of the look, in any step that a device's failure refuses
  unlooked : {V : Type 0} (Step : Standing → Reply → Standing → Type 0) (old new : SessionView D T) (e : SessionFault)
      → FailsSafely {V = V} d t old new (Err e) → OnlyLooks d t old new → NothingNew d t old new → EndsLook e
      → ((images : Images) → Step (Standing.Up images) (Refused (Session DeviceFailed)) (Standing.Up images))
      → ((images : Images) → Step (Standing.Down images) (Refused (Session Broken)) (Standing.Down images))
      → Obeys d t old new (Refused (Session e)) Step
  unlooked {V = V} Step old new e safe looks nothing ends up down =
      look_refused d t Step old new (Refused (Session e)) safe.faith looks nothing (look_is_whole e ends) (λ own. own)
      (fault_counts d t old new e safe.counts)
      (λ before h. at before h)
      (λ device images shows. failed shows.0.whole images)
    where
      unfound : SessionFault → Result V SessionFault
      unfound e = Err e

      -- a session that goes on isn't broken
      failed : old.is_broken ≡ false → (images : Images) → Step (Standing.Up images) (Refused (Session e)) (Standing.Up images)
      failed whole images = elim ends as (λ _. Step (Standing.Up images) (Refused (Session e)) (Standing.Up images)) [
        | inl broken ↦ absurd (true_is_not_false (sym (safe.broken.1 (ap unfound broken)) ∙ whole))
        | inr is ↦ subst (λ f. Step (Standing.Up images) (Refused (Session f)) (Standing.Up images)) (sym is) (up images)
      ]

      at : (before : Standing) → HoldsAt d t old before → Step before (Refused (Session e)) before
      at (Standing.Up images) h = failed h.3.0.whole images
      at (Standing.Down images) h =
          let is : unfound e ≡ unfound Broken = safe.broken.0 h.3.0 in
          let same : Broken ≡ e = cc in
          subst (λ f. Step (Standing.Down images) (Refused (Session f)) (Standing.Down images)) same (down images)

  pub length_unknown : {A : Type 0} (old new : SessionView D T) (c : ChangeOf A) (e : SessionFault)
      → FailsSafely {V = ℕ} d t old new (Err e) → OnlyLooks d t old new → NothingNew d t old new → EndsLook e
      → Obeys d t old new (Refused (Session e)) (λ before. WithinStep before c)
  length_unknown old new c e safe looks nothing ends =
      unlooked (λ before. WithinStep before c) old new e safe looks nothing ends (λ images. inl (refl, refl)) (λ images. (refl, refl))

  pub patch_unknown : (A : Type 0) (old new : SessionView D T) (p : Asked) (e : SessionFault)
      → FailsSafely {V = Option Other} d t old new (Err e) → OnlyLooks d t old new → NothingNew d t old new → EndsLook e
      → Obeys d t old new (Refused (Session e)) (λ before. PatchWithin A before p)
  patch_unknown A old new p e safe looks nothing ends =
      unlooked (λ before. PatchWithin A before p) old new e safe looks nothing ends (λ images. inl (refl, refl)) (λ images. (refl, refl))

  -- the image disagrees with the patch
  pub patch_disagrees : (A : Type 0) (old new : SessionView D T) (p : Asked) (other : Other) → FailsSafely d t old new (seen (Some other))
      → OnlyLooks d t old new → NothingNew d t old new → (d.faithful old.image → FindsOther p (d.image old.image) (Some other))
      → Obeys d t old new (Refused (Disagrees other)) (λ before. PatchWithin A before p)
  patch_disagrees A old new p other safe looks nothing found =
      look_refused d t (λ before. PatchWithin A before p) old new (Refused (Disagrees other)) safe.faith looks nothing (λ is. cc) (λ own. own)
      (unfailed_counts d t old new (Refused (Disagrees other)) refl safe.counts)
      (λ before h. at before h)
      (λ device images shows. told device images shows)
    where
      told : d.faithful old.image → (images : Images) → Shows d.image t.text old images
          → PatchWithin A (Standing.Up images) p (Refused (Disagrees other)) (Standing.Up images)
      told device images shows = inr (Some other, of_top (λ x. FindsOther p x (Some other)) old images shows (found device), (refl, refl))

      at : (before : Standing) → HoldsAt d t old before → PatchWithin A before p (Refused (Disagrees other)) before
      at (Standing.Up images) h = told h.0 images (ready_shows d.image t.text old images h.3)
      at (Standing.Down images) h = let bad : seen (Some other) ≡ Err Broken = safe.broken.0 h.3.0 in absurd (cc)

  -- it agrees, and the change is made where the image doesn't get longer
  pub patch_agreed : (A : Type 0) (old now new : SessionView D T) (p : Asked) (reply : Reply) → FailsSafely {V = Option Other} d t old now (seen None)
      → OnlyLooks d t old now → NothingNew d t old now → (d.faithful old.image → FindsOther p (d.image old.image) None)
      → Obeys d t now new reply (λ before. WithinStep {A = A} before (patch_change p)) → (IsOwnRefusal reply → ⊥)
      → Obeys d t old new reply (λ before. PatchWithin A before p)
  patch_agreed A old now new p reply safe looks nothing found obeys other =
      let none : Option Other = None in
      look_then d t none (λ before. PatchWithin A before p) (λ before. WithinStep {A = A} before (patch_change p)) old now new reply safe looks nothing
      (λ device images shows then step. inr (None, of_top (λ x. FindsOther p x None) old images shows (found device), step)) obeys other
