-- What is found behind the dropping of a history, whatever moment the power is lost at.
use Rattle.std.proofs.Common.{◌≡◌, ◌∙◌, inl, inr, ℕ, Some, Ok, Err, List, [], length, ◌-◌, refl, sym, ap, subst, arith}
use Rattle.std.specs.Prelude.{Result, IfErr, MatchResult, OnOk}
use Rattle.std.proofs.lemmas.Result.{IfErr-weaker}
use Rattle.bx_image.specs.Power.{IsFaded, Only}
use Rattle.bx_image.specs.declared.device.Device.{Ghosts as DeviceViews}
use Rattle.bx_journal_store.specs.declared.store.TextStore.{Ghosts as StoreViews}
use Rattle.bx_journal_format.specs.Finished.{IsFinished}
use Rattle.bx_journal_format.specs.Shown.{shown}
use Rattle.bx_journal_format.proofs.CleanLemmas.{clean_shown}
use Rattle.bx_journal.proofs.LossLaws.{opening_finds}
use Rattle.bx_journal.proofs.Ready.{top_of, top_of_rest}
use Rattle.bx_journal.specs.Calls.{AfterFault}
use Rattle.bx_journal.specs.Devices.{Devices}
use Rattle.bx_journal.specs.Forgotten.{IsWhole, OfSome, only}
use Rattle.bx_journal.specs.Images.{Images}
use Rattle.bx_journal.specs.Losses.{AllFound, AreLeft, emptied}
use Rattle.bx_journal.specs.Machine.{changes_of, top}
use Rattle.bx_journal.specs.Opened.{Opening, OpensDevices}
use Rattle.bx_journal.specs.Phase.{IsAtRest}
use Rattle.bx_journal.specs.Power.{Found}
use Rattle.bx_journal.specs.Redo.{IsClean, IsRedoOf, found_undone, recovered_as}
use Rattle.bx_journal.specs.Recovered.{Recovered}
use Rattle.bx_journal.specs.RecoveryOutcome.{RecoveryOutcome}
use Rattle.bx_journal.specs.RecoveryOutcome.TheVariants.{Clean, Dropped, Restored}
use Rattle.bx_journal.specs.SessionFault.{SessionFault}
use Rattle.bx_journal.specs.SessionFault.TheVariants.{DeviceFailed, Interrupted}
use Rattle.bx_journal.specs.SessionView.{SessionView, devices_of}
use Rattle.bx_journal.specs.Stack.{Recovers, recovered}
use Rattle.bx_journal.specs.Text.{Between, Entry, Reading}
use Rattle.bx_cli_commands.specs.declared.command.Reply.{Reply}
use Rattle.bx_cli_commands.specs.Loss.{AllFoundBehind, AreOnDisk}
use Rattle.bx_cli_commands.specs.Obeys.{Obeys}
use Rattle.bx_cli_commands.specs.Power.{images_of}
use Rattle.bx_cli_commands.specs.Refusal.{IsWholeRefusal}
use Rattle.bx_cli_commands.specs.Standing.{Standing}
use Rattle.bx_cli_commands.proofs.LossParts.{one_in_part, opened_found}
use Rattle.bx_run_session.specs.session.Contents.{AreFaithful}
use Rattle.bx_run.specs.Loss.{AllFoundDropped, DropsImages, ForgetsDevices, KeepsImageAlone}

-- opening finds images that stand
rest_found : (text x redo : List ℕ) (s : Images) → IsAtRest text x s.stack → IsRedoOf redo x (changes_of s.stack) s.undone → Found text x redo s
rest_found text x redo s rest undone = record {
  recovers = subst (λ w. Recovers w x s.stack) (sym shows) (record {
    reading = record { entries = rest.stands.entries; stage = Between };
    reads = rest.stands.reads;
    sound = rest.sound;
    lengths = rest.stands.lengths;
    stack_is = sym rest.stands.stack_is;
  });
  undone = λ clean. undone;
}
  where
    shows : shown text ≡ text
    shows = clean_shown text rest.stands.entries (record { reads = rest.stands.reads; whole = rest.stands.whole })

-- where nothing is unfinished, the newest image that opening finds is the one that is there
one_some : (p q : Reading) → Some p ≡ Some q → p ≡ q
one_some p q e = cc

clean_top : (text x : List ℕ) (stack : List (List ℕ)) (es : List Entry) → IsFinished text es → Recovers text x stack → x ≡ top stack
clean_top text x stack es finished r =
    let same : r.reading ≡ record { entries = es; stage = Between } = one_some r.reading (record { entries = es; stage = Between }) (sym r.reads.lines ∙ finished.reads.lines) in
    sym (ap top (sym r.stack_is) ∙ ap (λ (q : Reading). top (recovered q x)) same ∙ top_of es x)

pub newest_found : (text x redo : List ℕ) (s : Images) → Found text x redo s → IsClean text → x ≡ top s.stack
newest_found text x redo s found clean =
    clean_top text x s.stack clean.0 clean.1 (subst (λ w. Recovers w x s.stack) (clean_shown text clean.0 clean.1) found.recovers)

-- where it was refused before it wrote anything
pub refused_weaker : {A B : Type 0} (r : Result (Unit {0}) SessionFault) → (A → B) → IfErr r (λ e. AfterFault e (Unit {0}) A) → IfErr r (λ e. AfterFault e (Unit {0}) B)
refused_weaker r f holds = IfErr-weaker r _ _ (λ e a. by e f a) holds
  where
    by : {A B : Type 0} (e : SessionFault) → (A → B) → AfterFault e (Unit {0}) A → AfterFault e (Unit {0}) B
    by Interrupted f a = tt
    by e f a = f a

pub done_weaker : {A B : Type 0} (r : Result (Unit {0}) SessionFault) → (A → B) → OnOk r A → OnOk r B
done_weaker (Ok done) f a = f a
done_weaker (Err e) f a = tt

-- an image alone is opened so, whatever was found
only_opened : (how : RecoveryOutcome) (x : List ℕ) → recovered_as how (only x) ≡ only x
only_opened Clean x = refl
only_opened Dropped x = refl
only_opened (Restored n) x = refl

module _ {D T : Type 0} (d : DeviceViews D) (t : StoreViews T) where
  -- images that are found in devices that lose nothing are on the disk
  settled_on_disk : (y : Devices D T) (s : Images) → AreFaithful d t y → Only (d.image y.image) (d.survives y.image) → Only (t.text y.journal) (t.survives y.journal)
      → Only (t.text y.redo) (t.survives y.redo) → Found (t.text y.journal) (d.image y.image) (t.text y.redo) s → AreOnDisk d t y s
  settled_on_disk y s are_faithful image journal redo found = record {
    image = are_faithful.0;
    journal = are_faithful.1;
    redo = are_faithful.2;
    found = found;
    all = λ z text r image_there there redo_there.
        subst (λ v. Found text z v s) (sym (redo r redo_there))
        (subst (λ w. Found text w (t.text y.redo) s) (sym (image z image_there))
        (subst (λ q. Found q (d.image y.image) (t.text y.redo) s) (sym (journal text there)) found));
  }

  left_on_disk : (x y : Devices D T) (s : Images) → AreLeft d t x y → Found (t.text y.journal) (d.image y.image) (t.text y.redo) s → AreOnDisk d t y s
  left_on_disk x y s left found =
      settled_on_disk y s (left.image_faithful, left.journal_faithful, left.redo_faithful) left.settled.image left.settled.journal left.settled.redo found

  -- the dropping was done
  pub done_alone : (x new : Devices D T) → AreFaithful d t x → ForgetsDevices d t x new (Ok tt) → AreOnDisk d t new (only (d.image x.image))
  done_alone x new are_faithful forgets =
      let alone = forgets.alone are_faithful.0 are_faithful.1 are_faithful.2 in
      settled_on_disk new (only (d.image x.image)) (forgets.image_faith.1 are_faithful.0, forgets.journal_faith.1 are_faithful.1, forgets.redo_faith.1 are_faithful.2)
      alone.settled.image alone.settled.journal alone.settled.redo
      (rest_found (t.text new.journal) (d.image new.image) (t.text new.redo) (only (d.image x.image)) alone.rest alone.undone)

  -- a text that is found empty
  none_left : (text c : List ℕ) → c ≡ [] → IsFaded 0 text c
  none_left text c is = rw is (record {
    kept = omega arith;
    no_longer = omega arith;
    front = λ i below. absurd (omega (arith, below));
    bytes = λ i below. absurd (omega (arith, below));
  })

  pub kept_alone : (x new : Devices D T) (r : Result (Unit {0}) SessionFault) → AreFaithful d t x → ForgetsDevices d t x new r → KeepsImageAlone d t x new r
  kept_alone x new (Ok done) are_faithful forgets =
      let alone = forgets.alone are_faithful.0 are_faithful.1 are_faithful.2 in
      record {
        before = tt;
        image = λ y there. alone.settled.image y there ∙ forgets.image are_faithful.0;
        texts = record {
          journal_part = λ c there. none_left (t.text x.journal) c (alone.settled.journal c there ∙ alone.journal);
          redo_part = λ c there. none_left (t.text x.redo) c (alone.settled.redo c there ∙ alone.redo);
          redo_first = inr (λ c there. alone.settled.redo c there ∙ alone.redo);
        };
        done = done_alone x new are_faithful forgets;
      }
  kept_alone x new (Err Interrupted) are_faithful forgets =
      let keeps = forgets.survives are_faithful.0 are_faithful.1 are_faithful.2 in
      record { before = tt; image = keeps.image; texts = keeps.texts; done = tt }
  kept_alone x new (Err DeviceFailed) are_faithful forgets = record { before = forgets.found_before; image = tt; texts = tt; done = tt }
  kept_alone x new (Err e) are_faithful forgets = absurd forgets.fault

  -- what is found, whatever it answered
  found_dropped : (x new : Devices D T) (r : Result (Unit {0}) SessionFault) (s : Images) → AreOnDisk d t x s → ForgetsDevices d t x new r
      → AllFoundDropped d t x new s
  found_dropped x new (Ok done) s on forgets y text redo image_there there redo_there whole redo_whole =
      inr (inr ((done_alone x new (on.image, on.journal, on.redo) forgets).all y text redo image_there there redo_there))
  found_dropped x new (Err Interrupted) s on forgets y text redo image_there there redo_there whole redo_whole =
      (forgets.finds on.image on.journal on.redo s on.found).1 y text redo image_there there redo_there whole redo_whole
  found_dropped x new (Err e) s on forgets y text redo image_there there redo_there whole redo_whole =
      let before = forgets.found_before in
      inl (on.all y text redo (before.image_before on.image y image_there) (before.journal_before on.journal text there) (before.redo_before on.redo redo redo_there))

  -- it was refused before it wrote anything
  refused_on_disk : (x new : Devices D T) (r : Result (Unit {0}) SessionFault) (s : Images) → AreOnDisk d t x s → ForgetsDevices d t x new r
      → IfErr r (λ e. AfterFault e (Unit {0}) (AreOnDisk d t new s))
  refused_on_disk x new (Ok done) s on forgets = tt
  refused_on_disk x new (Err Interrupted) s on forgets = tt
  refused_on_disk x new (Err DeviceFailed) s on forgets =
      let before = forgets.found_before in
      let kept = forgets.left on.image on.journal on.redo in
      record {
        image = forgets.image_faith.1 on.image;
        journal = forgets.journal_faith.1 on.journal;
        redo = forgets.redo_faith.1 on.redo;
        found = subst (λ v. Found (t.text new.journal) (d.image new.image) v s) (sym kept.1)
            (subst (λ w. Found (t.text new.journal) w (t.text x.redo) s) (sym (forgets.image on.image))
            (subst (λ q. Found q (d.image x.image) (t.text x.redo) s) (sym kept.0) on.found));
        all = λ y text redo image_there there redo_there.
            on.all y text redo (before.image_before on.image y image_there) (before.journal_before on.journal text there) (before.redo_before on.redo redo redo_there);
      }
  refused_on_disk x new (Err e) s on forgets = absurd forgets.fault

  pub drops_images : (x new : Devices D T) (r : Result (Unit {0}) SessionFault) (s : Images) → AreOnDisk d t x s → ForgetsDevices d t x new r
      → DropsImages d t x new r s
  drops_images x new r s on forgets = record {
    found = found_dropped x new r s on forgets;
    newest = newest_found (t.text x.journal) (d.image x.image) (t.text x.redo) s on.found;
    refused = refused_on_disk x new r s on forgets;
  }

  -- and what a loss leaves
  pub left_of_some : (x new y : Devices D T) (s : Images) → AllFoundDropped d t x new s → AreLeft d t new y → IsWhole (t.text x.journal) (t.text y.journal)
      → IsWhole (t.text x.redo) (t.text y.redo) → OfSome s (only (d.image x.image)) (AreOnDisk d t y)
  left_of_some x new y s all left whole redo_whole =
      elim (all (d.image y.image) (t.text y.journal) (t.text y.redo) left.image left.journal left.redo whole redo_whole) [
        | inl same ↦ inl (left_on_disk new y s left same)
        | inr rest ↦ inr (elim rest [
          | inl fewer ↦ inl (left_on_disk new y (emptied s) left fewer)
          | inr alone ↦ inr (left_on_disk new y (only (d.image x.image)) left alone)
        ])
      ]

  -- what is found behind an opening of the image alone, and one call
  abbrev FoundAfter : Devices D T → Reply → (Standing → Reply → Standing → Type 0) → Images → Type 0
  FoundAfter x reply Step s = (IsWholeRefusal reply → AllFound d t x s) × ((IsWholeRefusal reply → ⊥) → AllFoundBehind d t x s reply Step)

  pub one_behind : (image : List ℕ) (x : Devices D T) (opened : Opening D T) (Step : Standing → Reply → Standing → Type 0) → AreOnDisk d t x (only image)
      → OpensDevices d t x opened
      → MatchResult opened
      (λ o. (reply : Reply) (new : SessionView D T) → Obeys d t o.0 new reply Step
      → (IsWholeRefusal reply → AllFound d t (devices_of new) (only image))
      × ((IsWholeRefusal reply → ⊥) → AllFoundBehind d t (devices_of new) (only image) reply Step))
      (λ e. AllFound d t e.0 (only image))
  one_behind image x (Ok o) Step on opens = λ reply new obeys.
      subst (FoundAfter (devices_of new) reply Step) (only_opened o.1.how image) (one_in_part d t x o (only image) opens on reply new Step obeys)
  one_behind image x (Err e) Step on opens =
      elim (opening_finds d t x (Err e) (only image) on.image on.journal on.redo opens on.found on.all) [ inl same ↦ same | inr fewer ↦ fewer ]

  -- what such a loss leaves
  pub end_on_disk : (x y : Devices D T) (start : Images) (reply : Reply) (Step : Standing → Reply → Standing → Type 0) → AllFoundBehind d t x start reply Step → AreLeft d t x y
      → (after : Standing) × Step (Standing.Up start) reply after × AreOnDisk d t y (images_of after)
  end_on_disk x y start reply Step behind left =
      let end = behind (d.image y.image) (t.text y.journal) (t.text y.redo) left.image left.journal left.redo in
      (end.0, end.1, left_on_disk x y (images_of end.0) left end.2)

  -- what opening leaves
  pub opened_on_disk : (x : Devices D T) (o : SessionView D T × Recovered) (s : Images) → AreOnDisk d t x s → OpensDevices d t x (Ok o)
      → AreOnDisk d t (devices_of o.0) (recovered_as o.1.how s) × (d.image o.0.image ≡ top s.stack)
  opened_on_disk x o s on opens =
      let ready = opens.keeps on.image on.journal s.stack on.found.recovers in
      let undone = opens.redo.keeps_undone on.image on.journal on.redo s on.found in
      let count : o.0.count ≡ length s.stack - 1 = omega (arith, ready.count) in (
        record {
          image = opens.devices.image_faith.1 on.image;
          journal = opens.devices.journal_faith.1 on.journal;
          redo = opens.devices.redo_faith.1 on.redo;
          found = rest_found (t.text o.0.journal) (d.image o.0.image) (t.text o.0.redo) (recovered_as o.1.how s) ready.rest
              (subst (λ n. IsRedoOf (t.text o.0.redo) (d.image o.0.image) n (found_undone o.1.how s.undone)) count undone.redo);
          all = opened_found d t x o s on opens;
        },
        sym (top_of_rest (t.text o.0.journal) (d.image o.0.image) s.stack ready.rest),
      )
