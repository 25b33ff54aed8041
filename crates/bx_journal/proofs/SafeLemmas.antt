-- How a call of a session ends: it is accepted, refused before its first write, or interrupted.
use Rattle.std.proofs.Common.{◌≡◌, ◌∙◌, ℕ, Bool, true, false, sym, subst, Result, Ok, Err}
use Rattle.std.specs.Prelude.{IfErr}
use Rattle.bx_journal_model.specs.Calls.{AfterFault}
use Rattle.bx_journal_model.specs.Fault.{DeviceFault}
use Rattle.bx_journal_model.specs.Opening.{OneMoreOfThree, ThreeCounts}
use Rattle.bx_journal_model.specs.Session.{FailsSafely, IsUnfailed}
use Rattle.bx_journal_model.specs.SessionView.{SessionView, devices_of}
use Rattle.bx_image.specs.declared.device.Device.{Ghosts as DeviceViews}
use Rattle.bx_journal_store.specs.declared.store.TextStore.{Ghosts as StoreViews}
use Rattle.bx_journal_model.specs.declared.fault.SessionFault.{SessionFault}
use Rattle.bx_journal_model.specs.declared.fault.SessionFault.TheVariants.{NoMemory, TooLarge, DeviceFailed, Damaged, TooFew, JournalFull, Interrupted, Broken, LengthDiffers, NothingToRedo, RedoDamaged}
use Rattle.bx_journal_model.specs.ThreeDevices.{HaveStayed, StepsOn}

-- a session that is whole isn't broken
not_both : {A : Type 0} (b : Bool) → b ≡ false → b ≡ true → A
not_both b whole broken = absurd (let e : false ≡ true = sym whole ∙ broken in cc)

-- what holds behind each fault holds behind one that isn't an interruption
pub any_fault : {V S : Type 0} (r : Result V SessionFault) → S → IfErr r (λ e. AfterFault e (Unit {0}) S)
any_fault (Ok v) s = tt
any_fault (Err NoMemory) s = s
any_fault (Err TooLarge) s = s
any_fault (Err DeviceFailed) s = s
any_fault (Err (Damaged line)) s = s
any_fault (Err (TooFew have)) s = s
any_fault (Err JournalFull) s = s
any_fault (Err Interrupted) s = tt
any_fault (Err Broken) s = s
any_fault (Err (LengthDiffers n)) s = s
any_fault (Err (NothingToRedo have)) s = s
any_fault (Err (RedoDamaged line)) s = s

-- behind a fault of a device before the first write all is as it was, whatever an interruption leaves
pub image_after : {V S : Type 0} (X : Type 0) (r : Result V SessionFault) → IfErr r DeviceFault → S → IfErr r (λ e. AfterFault e X S)
image_after X (Ok v) f s = tt
image_after X (Err NoMemory) f s = s
image_after X (Err TooLarge) f s = absurd f
image_after X (Err DeviceFailed) f s = s
image_after X (Err (Damaged line)) f s = absurd f
image_after X (Err (TooFew have)) f s = absurd f
image_after X (Err JournalFull) f s = absurd f
image_after X (Err Interrupted) f s = absurd f
image_after X (Err Broken) f s = absurd f
image_after X (Err (LengthDiffers n)) f s = absurd f
image_after X (Err (NothingToRedo have)) f s = absurd f
image_after X (Err (RedoDamaged line)) f s = absurd f

module _ {D T : Type 0} {d : DeviceViews D} {t : StoreViews T} where
  pub accepts : {V R E : Type 0} {v : V} {r : R} {old new : SessionView D T} → old.is_broken ≡ false
      → StepsOn {E = E} d t (Ok r) (devices_of old) (devices_of new) → FailsSafely d t old new (Ok v)
  accepts {old = old} whole steps = record {
    broken = (not_both old.is_broken whole, λ e. absurd (cc));
    same = λ e. absurd (cc);
    refused = λ dh th. tt;
    redo_same = λ rh. tt;
    unmoved = tt;
    faith = (steps.image_faith, steps.journal_faith, steps.redo_faith);
    counts = steps.no_failure;
  }

  pub interrupts : {V R E : Type 0} {e : E} {old new : SessionView D T} → old.is_broken ≡ false → new.count ≡ old.count → new.undone ≡ old.undone → new.is_broken ≡ true
      → StepsOn {R = R} d t (Err e) (devices_of old) (devices_of new)
      → FailsSafely {V = V} d t old new (Err Interrupted)
  interrupts {old = old} whole count undone broken steps = record {
    broken = (not_both old.is_broken whole, λ e. absurd (cc));
    same = λ e. absurd (cc);
    refused = λ dh th. tt;
    redo_same = λ rh. tt;
    unmoved = (count, undone, broken);
    faith = (steps.image_faith, steps.journal_faith, steps.redo_faith);
    counts = steps.failure;
  }

  -- a fault before the first write, where the counts of failed calls are given of the devices in any order
  pub refuses : {V : Type 0} {old new : SessionView D T} {a b c a_new b_new c_new : ℕ} (r : Result V SessionFault) (e : SessionFault) → r ≡ Err e → DeviceFault e → old.is_broken ≡ false
      → new.count ≡ old.count → new.undone ≡ old.undone → new.is_broken ≡ old.is_broken
      → HaveStayed d t (devices_of old) (devices_of new)
      → ThreeCounts e a b c a_new b_new c_new
      → (OneMoreOfThree a b c a_new b_new c_new → OneMoreOfThree (d.failures old.image) (t.failures old.journal) (t.failures old.redo) (d.failures new.image) (t.failures new.journal) (t.failures new.redo))
      → ((a_new ≡ a) × (b_new ≡ b) × (c_new ≡ c) → IsUnfailed d.failures t.failures old new)
      → FailsSafely d t old new r
  refuses {V = V} {old = old} {new = new} {a = a} {b = b} {c = c} {a_new = a_new} {b_new = b_new} {c_new = c_new} r e is fault whole count undone broken stayed counts one none =
      subst (FailsSafely d t old new) (sym is) (by_fault e fault counts)
    where
      by_fault : (e : SessionFault) → DeviceFault e → ThreeCounts e a b c a_new b_new c_new → FailsSafely {V = V} d t old new (Err e)
      by_fault NoMemory f h = record {
        broken = (not_both old.is_broken whole, λ e. absurd (cc));
        same = λ e. absurd (cc);
        refused = λ dh th. record { image_same = stayed.image_same dh; text_same = stayed.text_same th; count = count; broken = broken };
        redo_same = λ rh. record { text_same = stayed.redo_same rh; undone = undone };
        unmoved = (count, undone, broken);
        faith = (stayed.image_faith, stayed.journal_faith, stayed.redo_faith);
        counts = none h;
      }
      by_fault DeviceFailed f h = record {
        broken = (not_both old.is_broken whole, λ e. absurd (cc));
        same = λ e. absurd (cc);
        refused = λ dh th. record { image_same = stayed.image_same dh; text_same = stayed.text_same th; count = count; broken = broken };
        redo_same = λ rh. record { text_same = stayed.redo_same rh; undone = undone };
        unmoved = (count, undone, broken);
        faith = (stayed.image_faith, stayed.journal_faith, stayed.redo_faith);
        counts = one h;
      }
      by_fault TooLarge f h = absurd f
      by_fault (Damaged line) f h = absurd f
      by_fault (TooFew have) f h = absurd f
      by_fault JournalFull f h = absurd f
      by_fault Interrupted f h = absurd f
      by_fault Broken f h = absurd f
      by_fault (LengthDiffers n) f h = absurd f
      by_fault (NothingToRedo have) f h = absurd f
      by_fault (RedoDamaged line) f h = absurd f
