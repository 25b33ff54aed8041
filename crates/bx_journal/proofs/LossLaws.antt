-- Openings behind losses of power.
use Rattle.std.proofs.Common.{◌≡◌, ◌⊎◌, inl, inr, List, [], ◌∷◌, refl, sym, subst, Result, Ok, Err}
use Rattle.bx_journal_format.specs.Shown.{shown}
use Rattle.bx_journal_format.proofs.RestLemmas.{sound_plain}
use Rattle.bx_journal_format.proofs.ShownLemmas.{plain_shown}
use Rattle.bx_image.specs.declared.device.Device.{Ghosts as DeviceViews}
use Rattle.bx_journal_store.specs.declared.store.TextStore.{Ghosts as StoreViews}
use Rattle.bx_journal_model.specs.declared.devices.Devices.{Devices}
use Rattle.bx_journal_model.specs.Power.{Found, FoundBefore}
use Rattle.bx_journal_model.specs.declared.answers.RecoveryOutcome.{RecoveryOutcome}
use Rattle.bx_journal_model.specs.declared.answers.RecoveryOutcome.TheVariants.{Clean, Dropped, Restored}
use Rattle.bx_journal_model.specs.declared.fault.SessionFault.{SessionFault}
use Rattle.bx_journal_model.specs.declared.fault.SessionFault.TheVariants.{NoMemory, TooLarge, DeviceFailed, Damaged, TooFew, JournalFull, Interrupted, Broken, LengthDiffers, NothingToRedo, RedoDamaged}
use Rattle.bx_journal_model.specs.Calls.{AfterFault}
use Rattle.bx_journal_model.specs.Images.{Images}
use Rattle.bx_journal_model.specs.Stack.{Recovers}
use Rattle.bx_journal_model.proofs.Tails.{joined_rest}
use Rattle.bx_journal.specs.Losses.{AllFound, AreLeft, FindsIsFound, OpeningFinds, Openings, OpeningsFind, emptied, left_by}

-- a sound text is shown as it is
pub finds_is_found : FindsIsFound
finds_is_found text x redo s finds =
    let r = finds.recovers in
    let same : shown text ≡ text = plain_shown text (sound_plain text r.reading (joined_rest text) r.sound.short r.reads) in
    record { recovers = subst (λ t. Recovers t x s.stack) (sym same) r; undone = finds.undone }

-- beside finished entries alone the one, and else the other
clean_or : {P Q : Type 0} (how : RecoveryOutcome) → (how ≡ Clean → P) → ((how ≡ Clean → ⊥) → Q) → P ⊎ Q
clean_or Clean p q = inl (p refl)
clean_or Dropped p q = inr (q (λ is. cc))
clean_or (Restored n) p q = inr (q (λ is. cc))

-- behind an interruption the one, and else the other
stopped_or : {P Q : Type 0} (e : SessionFault) → AfterFault e (Unit {0}) P → AfterFault e Q (Unit {0}) → P ⊎ Q
stopped_or NoMemory p q = inl p
stopped_or DeviceFailed p q = inl p
stopped_or (Damaged line) p q = inl p
stopped_or TooLarge p q = inl p
stopped_or (TooFew have) p q = inl p
stopped_or JournalFull p q = inl p
stopped_or Interrupted p q = inr q
stopped_or Broken p q = inl p
stopped_or (LengthDiffers n) p q = inl p
stopped_or (NothingToRedo have) p q = inl p
stopped_or (RedoDamaged line) p q = inl p

module _ {D T : Type 0} (d : DeviceViews D) (t : StoreViews T) where
  found_on : (old new : Devices D T) (s : Images) → d.faithful old.image → t.faithful old.journal → t.faithful old.redo → AllFound d t old s → FoundBefore d t old new → AllFound d t new s
  found_on old new s dh th rh all before y text redo image_there there redo_there =
      all y text redo (before.image_before dh y image_there) (before.journal_before th text there) (before.redo_before rh redo redo_there)

  pub opening_finds : OpeningFinds d t
  opening_finds old (Ok o) s dh th rh opens found all =
      clean_or o.1.how (λ clean. found_on old (left_by (Ok o)) s dh th rh all (opens.found_before clean)) (λ unclean. opens.survives dh th rh s found unclean)
  opening_finds old (Err e) s dh th rh opens found all =
      elim (stopped_or e.1 opens.found_before (opens.survives dh th rh s found)) [
        | inl before ↦ inl (found_on old e.0 s dh th rh all before)
        | inr left ↦ inr left
      ]

  -- what is left of the three is found, and nothing else will be
  left_found : (x y : Devices D T) (s : Images) → AllFound d t x s → AreLeft d t x y → Found (t.text y.journal) (d.image y.image) (t.text y.redo) s
  left_found x y s all left = all (d.image y.image) (t.text y.journal) (t.text y.redo) left.image left.journal left.redo

  left_all : (x y : Devices D T) (s : Images) → AllFound d t x s → AreLeft d t x y → AllFound d t y s
  left_all x y s all left z text redo image_there there redo_there =
      let found = left_found x y s all left in
      subst (λ r. Found text z r s) (sym (left.settled.redo redo redo_there))
      (subst (λ w. Found text w (t.text y.redo) s) (sym (left.settled.image z image_there))
      (subst (λ q. Found q (d.image y.image) (t.text y.redo) s) (sym (left.settled.journal text there)) found))

  pub openings_find : OpeningsFind d t
  openings_find [] x last s all is = inl (subst (λ y. AllFound d t y s) (sym is) all)
  openings_find (o ∷ list) x last s all run =
      elim (opening_finds o.0 o.1 s run.0.image_faithful run.0.journal_faithful run.0.redo_faithful run.1 (left_found x o.0 s all run.0) (left_all x o.0 s all run.0)) [
        | inl same ↦ openings_find list (left_by o.1) last s same run.2
        | inr fewer ↦ elim (openings_find list (left_by o.1) last (emptied s) fewer run.2) [ inl same ↦ inr same | inr more ↦ inr more ]
      ]
