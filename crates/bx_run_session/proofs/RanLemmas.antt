-- What a task makes of three devices that were looked at before it and behind it.
use Rattle.std.proofs.Common.{◌≡◌, ◌∙◌, ℕ, Bool, List, Option, Some, None, refl, sym, ap, subst, inl}
use Rattle.std.specs.Prelude.{IfSome}
use Rattle.bx_image.specs.declared.device.Device.{Ghosts as DeviceViews}
use Rattle.bx_journal_store.specs.declared.store.TextStore.{Ghosts as StoreViews}
use Rattle.bx_journal_format.specs.Shown.{shown}
use Rattle.bx_journal_format.specs.Text.{IsAccepted}
use Rattle.bx_journal_read.specs.scan.Recovery.{FindFault}
use Rattle.bx_journal.specs.Devices.{Devices}
use Rattle.bx_journal.specs.RecoveryOutcome.{RecoveryOutcome}
use Rattle.bx_journal.specs.SessionFault.{SessionFault}
use Rattle.bx_journal.specs.SessionFault.TheVariants.{Interrupted}
use Rattle.bx_cli_commands.specs.Replies.{stands_by}
use Rattle.bx_cli_commands.specs.declared.command.Reply.TheVariants.{Refused}
use Rattle.bx_cli_commands.specs.declared.fault.Fault.TheVariants.{OpenFailed, Session}
use Rattle.bx_run_session.specs.declared.session.devices.Closed.{Closed}
use Rattle.bx_run_session.specs.declared.session.guarded.Ended.{Ended}
use Rattle.bx_world.specs.declared.files.guard.Guard.{Guard}
use Rattle.bx_world.specs.declared.files.unopened.OpenError.{OpenError}
use Rattle.bx_run_session.specs.declared.session.looked.Looked.{Looked}
use Rattle.bx_run_session.specs.declared.session.looked.Looked.TheVariants.{Another, Goes}
use Rattle.bx_run_session.specs.declared.session.terms.Terms.{Terms}
use Rattle.bx_run_session.specs.declared.session.task.Task.{Task}
use Rattle.bx_run_session.specs.session.Contents.{AreFaithful, Contents, Does, DoesFound, FoundIn, Holds, StayFaithful, Spared, TellsUnfinished, held_by}
use Rattle.bx_run_session.specs.session.Guarded.{AreTermsOf, IsLookedAt, IsSure, LookAt, WasJudged, another}
use Rattle.bx_run_session.specs.session.Ran.{EndsAs, RunsTask}
use Rattle.bx_run_session.proofs.LookLemmas.{after_finding, finds_device, finds_whole, faithful_on, rest_accepted}
use Rattle.bx_run_session.proofs.Refused.{endures_less, read_between}

-- what became of a task that was run
abbrev pub ended_as : {D T : Type 0} → Closed D T → Ended D T
ended_as closed = record { devices = closed.devices; reply = closed.reply; how = closed.how; unopened = None }

module _ {D T R : Type 0} (d : DeviceViews D) (t : StoreViews T) (remaining : R → Option (List ℕ)) where
  -- a task that a fault refused before opening
  pub failed_runs : (old new : Devices D T) (task : Task R) (e : SessionFault) → LookAt d t old new
      → FindFault (t.faithful old.journal) (shown (t.text old.journal)) e
      → RunsTask d t remaining old task (record { devices = new; reply = Refused (Session e); how = None; unopened = None })
  failed_runs old new task e looks fault =
      let whole : Session e ≡ Session Interrupted → ⊥ = finds_whole (t.faithful old.journal) (shown (t.text old.journal)) e fault in
      record {
        accepted = λ faithful. tt;
        how_is = λ faithful. record { told = λ reading reads. tt; none = λ s holds. tt; some = tt };
        does = λ faithful opened s holds. inl (
          (e, refl, finds_device (t.faithful old.journal) (shown (t.text old.journal)) e faithful.1 (rest_accepted _ _ _ holds.0) fault),
          subst (λ c. Holds c s) (sym (looks.same faithful)) holds,
        );
        found = λ faithful opened s found.
            (e, refl, after_finding (t.faithful old.journal) (shown (t.text old.journal)) _ _ e fault (subst (λ c. FoundIn c s) (sym (looks.same faithful)) found));
        stands = λ faithful unfailed. tt;
        whole = λ faithful refused. looks.same faithful;
        survives = λ faithful s holds stopped. absurd (stopped whole);
        endures = λ faithful s found stopped. absurd (stopped whole);
        spares = λ faithful refused. record { before = λ is. looks.before; settled = λ other. absurd (other tt) };
      }

  -- a task that wasn't begun
  pub unbegun_runs : (old new : Devices D T) (task : Task R) → LookAt d t old new
      → RunsTask d t remaining old task (record { devices = new; reply = Refused OpenFailed; how = None; unopened = Some another })
  unbegun_runs old new task looks = record {
    accepted = λ faithful. tt;
    how_is = λ faithful. record { told = λ reading reads. tt; none = λ s holds. tt; some = tt };
    does = λ faithful opened s holds. absurd (let wrong : Some another ≡ None = opened in cc);
    found = λ faithful opened s found. absurd (let wrong : Some another ≡ None = opened in cc);
    stands = λ faithful unfailed. tt;
    whole = λ faithful refused. looks.same faithful;
    survives = λ faithful s holds stopped. absurd (stopped (λ wrong. cc));
    endures = λ faithful s found stopped. absurd (stopped (λ wrong. cc));
    spares = λ faithful refused. record { before = λ is. looks.before; settled = λ other. absurd (other tt) };
  }

  -- a task behind a look
  pub ran_behind : (old mid : Devices D T) (task : Task R) (ended : Ended D T) → LookAt d t old mid → RunsTask d t remaining mid task ended
      → RunsTask d t remaining old task ended
  ran_behind old mid task ended first ran =
      let begun : AreFaithful d t old → AreFaithful d t mid = faithful_on d t old mid first in
      record {
        accepted = λ faithful. subst (λ (c : Contents). IfSome ended.how (λ _. IsAccepted (shown c.journal))) (first.same faithful) (ran.accepted (begun faithful));
        how_is = λ faithful. subst (λ c. TellsUnfinished c ended.how (stands_by ended.reply)) (first.same faithful) (ran.how_is (begun faithful));
        does = λ faithful opened s holds. ran.does (begun faithful) opened s (subst (λ c. Holds c s) (sym (first.same faithful)) holds);
        found = λ faithful opened s found. ran.found (begun faithful) opened s (subst (λ c. FoundIn c s) (sym (first.same faithful)) found);
        stands = λ faithful unfailed. read_between remaining task ended.how ended.reply _ _ _ _ (first.same faithful) refl (ran.stands (begun faithful) unfailed);
        whole = λ faithful refused. subst (λ c. Spared ended.how c (held_by d t ended.devices)) (first.same faithful) (ran.whole (begun faithful) refused);
        survives = λ faithful s holds stopped. ran.survives (begun faithful) s (subst (λ c. Holds c s) (sym (first.same faithful)) holds) stopped;
        endures = λ faithful s found stopped. ran.endures (begun faithful) s (subst (λ c. FoundIn c s) (sym (first.same faithful)) found) stopped;
        spares = λ faithful refused.
            let sparing = ran.spares (begun faithful) refused in
            record {
              before = λ is. record {
                image_before = λ h c there. first.before.image_before h c ((sparing.before is).image_before (first.faith.0.1 h) c there);
                journal_before = λ h c there. first.before.journal_before h c ((sparing.before is).journal_before (first.faith.1.1 h) c there);
                redo_before = λ h c there. first.before.redo_before h c ((sparing.before is).redo_before (first.faith.2.1 h) c there);
              };
              settled = sparing.settled;
            };
      }

  -- and before one
  pub ran_before : (old last : Devices D T) (task : Task R) (ended : Ended D T) → StayFaithful d t old ended.devices
      → RunsTask d t remaining old task ended → LookAt d t ended.devices last
      → RunsTask d t remaining old task (record { devices = last; reply = ended.reply; how = ended.how; unopened = ended.unopened })
  ran_before old last task ended keeps ran second =
      let done : AreFaithful d t old → AreFaithful d t ended.devices = λ faithful. (keeps.0.1 faithful.0, keeps.1.1 faithful.1, keeps.2.1 faithful.2) in
      record {
        accepted = ran.accepted;
        how_is = ran.how_is;
        does = λ faithful opened s holds. subst (λ c. Does remaining s task ended.reply c) (sym (second.same (done faithful))) (ran.does faithful opened s holds);
        found = λ faithful opened s found. subst (λ c. DoesFound remaining s task ended.how ended.reply c) (sym (second.same (done faithful)))
            (ran.found faithful opened s found);
        stands = λ faithful unfailed. read_between remaining task ended.how ended.reply _ _ _ _ refl (second.same (done faithful)) (ran.stands faithful unfailed);
        whole = λ faithful refused. subst (λ c. Spared ended.how (held_by d t old) c) (sym (second.same (done faithful))) (ran.whole faithful refused);
        survives = λ faithful s holds stopped x text redo there text_there redo_there.
            ran.survives faithful s holds stopped x text redo (second.before.image_before (done faithful).0 x there)
            (second.before.journal_before (done faithful).1 text text_there) (second.before.redo_before (done faithful).2 redo redo_there);
        endures = λ faithful s found stopped.
            endures_less remaining s task ended.how ended.reply _ _ _ _ _ _ (second.before.image_before (done faithful).0)
            (second.before.journal_before (done faithful).1) (second.before.redo_before (done faithful).2) (ran.endures faithful s found stopped);
        spares = λ faithful refused.
            let sparing = ran.spares faithful refused in
            record {
              before = λ is. record {
                image_before = λ h c there. (sparing.before is).image_before h c (second.before.image_before (done faithful).0 c there);
                journal_before = λ h c there. (sparing.before is).journal_before h c (second.before.journal_before (done faithful).1 c there);
                redo_before = λ h c there. (sparing.before is).redo_before h c (second.before.redo_before (done faithful).2 c there);
              };
              settled = λ other.
                  let settled = sparing.settled other in
                  record {
                    image = λ x there. settled.image x (second.before.image_before (done faithful).0 x there)
                        ∙ sym (ap (λ (c : Contents). c.image) (second.same (done faithful)));
                    journal = λ x there. settled.journal x (second.before.journal_before (done faithful).1 x there)
                        ∙ sym (ap (λ (c : Contents). c.journal) (second.same (done faithful)));
                    redo = λ x there. settled.redo x (second.before.redo_before (done faithful).2 x there)
                        ∙ sym (ap (λ (c : Contents). c.redo) (second.same (done faithful)));
                  };
            };
      }

if_some : {A : Type 0} (o : Option A) (P Q : Type 0) → (Q → P) → IfSome o (λ _. Q) → IfSome o (λ _. P)
if_some None P Q f q = tt
if_some (Some a) P Q f q = f q

-- what a task did, by what was found before
pub judged_by : {R : Type 0} (guard : Guard) (missing : Bool) (note : List ℕ) (old : Contents) (task : Task R) (terms : Terms)
    → AreTermsOf guard missing note terms → (looked : Looked) (u : Option OpenError) (how : Option RecoveryOutcome) → IsLookedAt terms old task looked → EndsAs looked u how
    → IfSome how (λ _. IsAccepted (shown old.journal)) → WasJudged guard missing note old task u how
judged_by guard missing note old task terms told Another u how is ends accepted = record {
  terms = terms;
  told = told;
  opened = rw ends.1 tt;
  refused = λ same. is;
}
judged_by guard missing note old task terms told (Goes ready) u how is ends accepted = record {
  terms = terms;
  told = told;
  opened = if_some how (IsSure terms old) (IsAccepted (shown old.journal)) is.0 accepted;
  refused = λ same. absurd (let wrong : None ≡ Some another = sym ends ∙ same in cc);
}

-- one that a fault refused before
pub unjudged : {R : Type 0} (guard : Guard) (missing : Bool) (note : List ℕ) (old : Contents) (task : Task R) (terms : Terms)
    → AreTermsOf guard missing note terms → (u : Option OpenError) (how : Option RecoveryOutcome) → u ≡ None → how ≡ None → WasJudged guard missing note old task u how
unjudged guard missing note old task terms told u how is none = record {
  terms = terms;
  told = told;
  opened = rw none tt;
  refused = λ same. absurd (let wrong : None ≡ Some another = sym is ∙ same in cc);
}
