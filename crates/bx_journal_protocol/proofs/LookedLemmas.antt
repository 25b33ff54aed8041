-- A session's three devices, behind calls that only looked at them.
use Rattle.std.proofs.Common.{◌≡◌, ℕ, suc, List, length, drop, ap, sym, ◌∙◌, subst, arith, Result}
use Rattle.bx_image.proofs.Survivors.{NoMore_then}
use Rattle.bx_journal_format.specs.Finished.{IsFinished}
use Rattle.bx_journal_format.specs.Text.{Entry}
use Rattle.bx_journal_format.specs.declared.read.types.EntryRead.{EntryRead}
use Rattle.bx_journal_model.specs.Images.{Images}
use Rattle.bx_journal_model.specs.Machine.{changes_of}
use Rattle.bx_journal_model.specs.Phase.{IsAtRest}
use Rattle.bx_journal_model.specs.Power.{FoundBefore}
use Rattle.bx_journal_model.specs.Redo.{IsRedoOf}
use Rattle.bx_journal_model.specs.Session.{HasUndone, IsReady}
use Rattle.bx_journal_model.specs.SessionView.{SessionView, devices_of}
use Rattle.bx_image.specs.declared.device.Device.{Ghosts as DeviceViews}
use Rattle.bx_journal_store.specs.declared.store.TextStore.{Ghosts as StoreViews}
use Rattle.bx_journal_model.specs.declared.devices.Devices.{Devices}
use Rattle.bx_journal_model.specs.Stack.{StandsFor}
use Rattle.bx_journal_model.specs.Standing.{IsStanding}
use Rattle.bx_journal_model.specs.Taken.{AreKept}
use Rattle.bx_journal_model.specs.Undoing.{HasLeft, AreReadFrom, IsLastFrom}
use Rattle.bx_journal_model.specs.declared.fault.SessionFault.{SessionFault}
use Rattle.bx_journal_model.specs.ThreeDevices.{HaveStayed}
use Rattle.bx_journal_model.specs.Looking.{LooksAt}
use Rattle.bx_journal_protocol.specs.protocol.Turns.{AreAtRest, AreStanding}
use Rattle.bx_journal_protocol.proofs.DeviceLemmas.{HaveGoneOn, both_ways}

module _ {D T : Type 0} {d : DeviceViews D} {t : StoreViews T} where
  -- behind a look at the journal
  pub looked_at : {R : Type 0} {r : Result R SessionFault} {old new : Devices D T} {s : T} → LooksAt t.faithful t.text t.failures r old.journal s
      → HaveStayed d t (record { image = old.image; journal = s; redo = old.redo }) new → HaveStayed d t old new
  looked_at look stayed = record {
    image_faith = stayed.image_faith;
    journal_faith = both_ways stayed.journal_faith look.faith;
    redo_faith = stayed.redo_faith;
    image_same = stayed.image_same;
    text_same = λ h. stayed.text_same (look.faith.1 h) ∙ look.same h;
    redo_same = stayed.redo_same;
  }

  -- behind a look at the redo text
  pub redo_looked_at : {R : Type 0} {r : Result R SessionFault} {old new : Devices D T} {u : T} → LooksAt t.faithful t.text t.failures r old.redo u
      → HaveStayed d t (record { image = old.image; journal = old.journal; redo = u }) new → HaveStayed d t old new
  redo_looked_at look stayed = record {
    image_faith = stayed.image_faith;
    journal_faith = stayed.journal_faith;
    redo_faith = both_ways stayed.redo_faith look.faith;
    image_same = stayed.image_same;
    text_same = stayed.text_same;
    redo_same = λ h. stayed.redo_same (look.faith.1 h) ∙ look.same h;
  }

  -- one call that only looked behind another
  pub stayed_then : {old next new : Devices D T} → HaveStayed d t old next → HaveStayed d t next new → HaveStayed d t old new
  stayed_then first then = record {
    image_faith = both_ways then.image_faith first.image_faith;
    journal_faith = both_ways then.journal_faith first.journal_faith;
    redo_faith = both_ways then.redo_faith first.redo_faith;
    image_same = λ h. then.image_same (first.image_faith.1 h) ∙ first.image_same h;
    text_same = λ h. then.text_same (first.journal_faith.1 h) ∙ first.text_same h;
    redo_same = λ h. then.redo_same (first.redo_faith.1 h) ∙ first.redo_same h;
  }

  -- what is found behind two calls that only looked at the devices was found before both
  pub found_then : {old next new : Devices D T} → HaveStayed d t old next → FoundBefore d t old next → FoundBefore d t next new → FoundBefore d t old new
  found_then stayed first next = record {
    image_before = λ h. NoMore_then _ _ _ (first.image_before h) (next.image_before (stayed.image_faith.1 h));
    journal_before = λ h. NoMore_then _ _ _ (first.journal_before h) (next.journal_before (stayed.journal_faith.1 h));
    redo_before = λ h. NoMore_then _ _ _ (first.redo_before h) (next.redo_before (stayed.redo_faith.1 h));
  }

  pub none_failed : {old new : Devices D T} → HaveStayed d t old new
      → (d.failures new.image ≡ d.failures old.image) × (t.failures new.journal ≡ t.failures old.journal) × (t.failures new.redo ≡ t.failures old.redo) → HaveGoneOn d t old new
  none_failed stayed same = record {
    image_faith = stayed.image_faith;
    journal_faith = stayed.journal_faith;
    redo_faith = stayed.redo_faith;
    no_failure = same;
    failure = tt;
  }

  -- what holds of journal and image
  pub pair_stays : {old new : Devices D T} (P : List ℕ → List ℕ → Type 0) → HaveStayed d t old new → d.faithful old.image → t.faithful old.journal
      → P (t.text old.journal) (d.image old.image) → P (t.text new.journal) (d.image new.image)
  pair_stays {old = old} {new = new} P stayed dh th holds =
      subst (P (t.text new.journal)) (sym (stayed.image_same dh)) (subst (λ z. P z (d.image old.image)) (sym (stayed.text_same th)) holds)

  undone_stays : {v : SessionView D T} {new : Devices D T} (s : Images) → HaveStayed d t (devices_of v) new → d.faithful v.image → t.faithful v.redo
      → length s.stack ≡ suc v.count → HasUndone d.image t.text v s.undone → IsRedoOf (t.text new.redo) (d.image new.image) (changes_of s.stack) s.undone
  undone_stays {v = v} {new = new} s stayed dh rh counted has =
      let many : v.count ≡ changes_of s.stack = omega (arith, counted) in
      subst (λ n. IsRedoOf (t.text new.redo) (d.image new.image) n s.undone) many
      (subst (λ r. IsRedoOf r (d.image new.image) v.count s.undone) (sym (stayed.redo_same rh)) (subst (λ x. IsRedoOf (t.text v.redo) x v.count s.undone) (sym (stayed.image_same dh)) has.redo))

  -- what a step makes of a pair
  pub pair_step : {old new : Devices D T} {Q : Type 0} (P : List ℕ → List ℕ → Type 0) → HaveStayed d t old new
      → (d.faithful new.image → t.faithful new.journal → P (t.text new.journal) (d.image new.image) → Q) → d.faithful old.image → t.faithful old.journal
      → P (t.text old.journal) (d.image old.image) → Q
  pair_step P stayed step dh th holds = step (stayed.image_faith.1 dh) (stayed.journal_faith.1 th) (pair_stays P stayed dh th holds)

  -- what a step makes of a session that is ready with images
  pub rest_step : {v : SessionView D T} {new : Devices D T} {Q : Images → Type 0} → HaveStayed d t (devices_of v) new
      → (d.faithful new.image → t.faithful new.journal → t.faithful new.redo → (s : Images)
      → AreAtRest (t.text new.journal) (d.image new.image) (t.text new.redo) s → Q s)
      → d.faithful v.image → t.faithful v.journal → t.faithful v.redo → (s : Images) → IsReady d.image t.text v s.stack → HasUndone d.image t.text v s.undone → Q s
  rest_step stayed step dh th rh s ready has =
      step (stayed.image_faith.1 dh) (stayed.journal_faith.1 th) (stayed.redo_faith.1 rh) s
      (record { rest = pair_stays (λ t x. IsAtRest t x s.stack) stayed dh th ready.rest; undone = undone_stays s stayed dh rh ready.count has })

  -- and of one that stands for them
  pub standing_step : {v : SessionView D T} {new : Devices D T} {Q : Images → Type 0} → HaveStayed d t (devices_of v) new
      → (d.faithful new.image → t.faithful new.journal → t.faithful new.redo → (s : Images)
      → AreStanding (t.text new.journal) (d.image new.image) (t.text new.redo) s → Q s)
      → d.faithful v.image → t.faithful v.journal → t.faithful v.redo → (s : Images) → IsStanding d.image t.text v s.stack → HasUndone d.image t.text v s.undone → Q s
  standing_step stayed step dh th rh s standing has =
      step (stayed.image_faith.1 dh) (stayed.journal_faith.1 th) (stayed.redo_faith.1 rh) s
      (record { stands = pair_stays (λ t x. StandsFor t x s.stack) stayed dh th standing.stands; undone = undone_stays s stayed dh rh standing.count has })

-- which records of entries that are undone an undo writes
pub kept_step : {D T : Type 0} {d : DeviceViews D} {t : StoreViews T} {old new : Devices D T} {k m : ℕ} (written : List ℕ) (n : ℕ) → HaveStayed d t old new → m ≡ k
    → (d.faithful new.image → t.faithful new.journal → t.faithful new.redo → (es : List Entry) → IsFinished (t.text new.journal) es → AreKept m es (d.image new.image) n (t.text new.redo) written)
    → d.faithful old.image → t.faithful old.journal → t.faithful old.redo → (es : List Entry) → IsFinished (t.text old.journal) es → AreKept k es (d.image old.image) n (t.text old.redo) written
kept_step {d = d} {t = t} {old = old} {new = new} {m = m} written n stayed count step dh th uh es finished =
    let kept = step (stayed.image_faith.1 dh) (stayed.journal_faith.1 th) (stayed.redo_faith.1 uh) es (subst (λ z. IsFinished z es) (sym (stayed.text_same th)) finished) in
    subst (λ j. AreKept j es (d.image old.image) n (t.text old.redo) written) count
    (subst (λ r. AreKept m es (d.image old.image) n r written) (stayed.redo_same uh)
    (subst (λ x. AreKept m es x n (t.text new.redo) written) (stayed.image_same dh) kept))

-- what was read of a text before it was looked at again
pub read_since : {A : Type 0} {before now : Type 0} {stored text : List ℕ} {len count : ℕ} {es : List (EntryRead A)} → (now → before) → (before → text ≡ stored) → IsLastFrom before stored len es count
    → AreReadFrom now text es
read_since was same last = record { text = last.text; older = last.read.older; is = λ h. same (was h) ∙ last.is (was h); mark = last.read.mark; marked = last.read.marked }

-- what some steps leave of a text that was looked at before
pub left_since : {old now new : List ℕ} {k n : ℕ} → now ≡ old → n ≡ k → ((es : List Entry) → IsFinished now es → HasLeft now new (drop n es)) → (es : List Entry) → IsFinished old es → HasLeft old new (drop k es)
left_since {now = now} {new = new} {k = k} same count left es finished =
    subst (λ t. HasLeft t new (drop k es)) same (subst (λ m. HasLeft now new (drop m es)) count (left es (subst (λ t. IsFinished t es) (sym same) finished)))
