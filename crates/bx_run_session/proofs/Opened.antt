-- What an opening leaves of three devices, and what it tells.
use Rattle.std.proofs.Common.{◌≡◌, ◌∙◌, ℕ, List, [], ◌∷◌, length, Some, None, refl, sym, ap, subst, arith, Result, Ok, Err}
use Rattle.std.specs.Prelude.{OnOk}
use Rattle.bx_image.specs.declared.device.Device.{Ghosts as DeviceViews}
use Rattle.bx_journal_store.specs.declared.store.TextStore.{Ghosts as StoreViews}
use Rattle.bx_journal.specs.Devices.{Devices}
use Rattle.bx_journal.specs.RecoveryOutcome.{RecoveryOutcome}
use Rattle.bx_journal.specs.RecoveryOutcome.TheVariants.{Clean, Dropped, Restored}
use Rattle.bx_journal.specs.Images.{Images}
use Rattle.bx_journal.specs.Machine.{changes_of}
use Rattle.bx_journal.specs.Opened.{OpensDevices}
use Rattle.bx_journal.specs.Redo.{IsRedoOf}
use Rattle.bx_journal.specs.Stack.{recovered}
use Rattle.bx_journal.specs.Power.{FoundBefore}
use Rattle.bx_journal.specs.Recovered.{Recovered}
use Rattle.bx_journal.specs.SessionView.{SessionView, devices_of}
use Rattle.bx_cli_commands.specs.Standing.{Shows}
use Rattle.bx_cli_commands.specs.declared.fault.Fault.{Fault}
use Rattle.bx_run_session.specs.session.Contents.{AreFaithful, Contents, IsRecovered, ReadAs, Spared, SparesDisk, TellsUnfinished, held_by}

empty_list : (xs : List (List ℕ)) → length xs ≡ 0 → xs ≡ []
empty_list [] is = refl
empty_list (x ∷ xs) is = absurd (omega (arith, is))

on_ok : {V : Type 0} (outcome : Result V Fault) (P : Type 0) → P → OnOk outcome P
on_ok (Ok v) P p = p
on_ok (Err e) P p = tt

module _ {D T : Type 0} (d : DeviceViews D) (t : StoreViews T) (old : Devices D T) (o : SessionView D T) (r : Recovered) (faithful : AreFaithful d t old)
    (opens : OpensDevices d t old (Ok (o, r))) where
  clean_same : r.how ≡ Clean → held_by d t (devices_of o) ≡ held_by d t old
  clean_same is =
      let pair = opens.spares.clean faithful.0 faithful.1 is in
      let redo = opens.redo.clean_redo faithful.2 is in
      rw (pair.0, pair.1, redo) refl

  is_recovered : (r.how ≡ Clean → ⊥) → IsRecovered r.how (held_by d t old) (held_by d t (devices_of o))
  is_recovered other =
      let accepted = opens.text.accepted faithful.1 in
      record {
        reading = accepted.0;
        reads = accepted.1;
        changes = r.changes;
        opened = opens.found.opened faithful.0 faithful.1 accepted.0 accepted.1;
        redo = (opens.redo.emptied faithful.2 other).0;
      }

  spared_as : (h : RecoveryOutcome) → r.how ≡ h → Spared (Some h) (held_by d t old) (held_by d t (devices_of o))
  spared_as Clean is = clean_same is
  spared_as Dropped is =
      subst (λ k. IsRecovered k (held_by d t old) (held_by d t (devices_of o))) is (is_recovered (λ e. (let wrong : Dropped ≡ Clean = sym is ∙ e in cc)))
  spared_as (Restored n) is =
      subst (λ k. IsRecovered k (held_by d t old) (held_by d t (devices_of o))) is (is_recovered (λ e. (let wrong : Restored n ≡ Clean = sym is ∙ e in cc)))

  -- what was held is left, or what was recovered
  pub spared_opened : Spared (Some r.how) (held_by d t old) (held_by d t (devices_of o))
  spared_opened = spared_as r.how refl

  -- what was unfinished is said
  pub tells_opened : (outcome : Result ℕ Fault) → TellsUnfinished (held_by d t old) (Some r.how) outcome
  tells_opened outcome = record {
    told = λ reading reads. (opens.found.opened faithful.0 faithful.1 reading reads).how_is;
    none = λ s holds. (opens.reopens faithful.0 faithful.1 faithful.2 s holds).clean;
    some = on_ok outcome (Some r.how ≡ None → ⊥) (λ e. (let wrong : Some r.how ≡ None = e in cc));
  }

  -- after a loss of power
  pub spares_opened : (new : Devices D T) → AreFaithful d t (devices_of o) → FoundBefore d t (devices_of o) new
      → held_by d t new ≡ held_by d t (devices_of o) → SparesDisk d t (Some r.how) old new
  spares_opened new behind before same = record {
    before = λ is.
        let first = opens.found_before is in
        record {
          image_before = λ image c there. first.image_before image c (before.image_before behind.0 c there);
          journal_before = λ journal c there. first.journal_before journal c (before.journal_before behind.1 c there);
          redo_before = λ redo c there. first.redo_before redo c (before.redo_before behind.2 c there);
        };
    settled = λ other.
        let settled = opens.settled faithful.0 faithful.1 faithful.2 other in
        record {
          image = λ c there. settled.image c (before.image_before behind.0 c there) ∙ sym (ap (λ (x : Contents). x.image) same);
          journal = λ c there. settled.journal c (before.journal_before behind.1 c there) ∙ sym (ap (λ (x : Contents). x.journal) same);
          redo = λ c there. settled.redo c (before.redo_before behind.2 c there) ∙ sym (ap (λ (x : Contents). x.redo) same);
        };
  }

  -- the images for which the three stand, and the session behind them
  pub read_opened : (before : Images) × ReadAs r.how (held_by d t old) before × Shows d.image t.text o before
  read_opened =
      let accepted = opens.text.accepted faithful.1 in
      let standing = opens.found.standing faithful.0 faithful.1 accepted.0 accepted.1 in
      let undone = opens.redo.undone faithful.0 faithful.1 faithful.2 in
      let count = standing.count in
      let changes : changes_of (recovered accepted.0 (d.image old.image)) ≡ o.count = omega (arith, count) in
      let before : Images = record { stack = recovered accepted.0 (d.image old.image); undone = undone.0 } in
      let none : (r.how ≡ Clean → ⊥) → undone.0 ≡ [] = λ other.
      empty_list undone.0 (sym undone.1.counted ∙ opens.found.fresh.1 ∙ (opens.redo.emptied faithful.2 other).1) in
      let redo : r.how ≡ Clean → IsRedoOf (t.text old.redo) (d.image old.image) (changes_of (recovered accepted.0 (d.image old.image))) undone.0 = λ is.
      subst (λ n. IsRedoOf (t.text old.redo) (d.image old.image) n undone.0) (sym changes)
      (subst (λ x. IsRedoOf (t.text old.redo) x o.count undone.0) (opens.spares.clean faithful.0 faithful.1 is).1
      (subst (λ x. IsRedoOf x (d.image o.image) o.count undone.0) (opens.redo.clean_redo faithful.2 is) undone.1.redo)) in
      let read : ReadAs r.how (held_by d t old) before =
      record { reading = accepted.0; reads = accepted.1; stack_is = refl; undone = redo; none = none } in
      (before, read, (standing, undone.1))
