use Rattle.std.proofs.Common.{rules, ◌≡◌, List, ℕ, sym, ◌∙◌, subst, inl, inr, ◌⊎◌, Result, Ok, Err}
use Rattle.std.specs.Prelude.{IfErr, OnErr}
use Rattle.bx_image.proofs.Changes.{OnErr-known}
use Rattle.bx_journal_model.specs.Calls.{AfterFault}
use Rattle.bx_journal_model.specs.Power.{Found as FoundOnDisk}
use Rattle.bx_image.proofs.Survivors.{NoMore_then}
use Rattle.bx_journal_read.proofs.OpenLemmas.{after_same}
use Rattle.bx_journal_model.specs.Phase.{IsAtRest}
use Rattle.bx_journal_model.specs.Stack.{Recovers}
use Rattle.bx_journal_format.specs.Shown.{shown}
use Rattle.bx_journal_format.proofs.CleanLemmas.{clean_shown}
use Rattle.bx_journal_format.specs.Text.{Between, IsAccepted, Reads}
use Rattle.bx_journal.proofs.OpenedLemmas.{emptied_keeps, emptied_undone, find_silent, finished_silent, unfinished_matches, err_then, find_opens, find_redo, find_refuses, finished_accepted, finished_faults, finished_kept, finished_opened, finished_other, finished_stack, finished_unfit, found_counted, found_few, found_torn, found_unclean, recover_kind, unfinished_finds, finished_none, finished_same, unfinished_holds, unfinished_same}
use Rattle.bx_journal.proofs.LeftLemmas.{left_whole}
use Rattle.bx_journal.proofs.CountedLemmas.{counted_rest, ok_always}
use Rattle.bx_journal.proofs.recovery.recover.Goals as goal

pub returns-in-Err-clause-fault : goal.returns-in-Err-clause-fault
returns-in-Err-clause-fault g c =
    record {
      faults = λ dh th r reads. find_opens (g.T.TextStore.faithful c.args.devices.now.journal) (shown (g.T.TextStore.text c.args.devices.now.journal)) r th reads (g.D.Device.image c.args.devices.now.image) c.in-Err.fault c.in-Err.ensures.fault;
      kind = search rules;
      unfinished = search rules;
      differs = λ dh th r n reads differs. find_refuses (g.T.TextStore.faithful c.args.devices.now.journal) (shown (g.T.TextStore.text c.args.devices.now.journal)) r th reads n c.in-Err.fault c.in-Err.ensures.fault;
    }

pub returns-in-Err-clause-redo_fault : goal.returns-in-Err-clause-redo_fault
returns-in-Err-clause-redo_fault g c =
    record {
      redo_refused = search rules;
      redo_unfit = λ dh th rh line r. find_redo (g.T.TextStore.faithful c.args.devices.now.journal) (shown (g.T.TextStore.text c.args.devices.now.journal)) (record { entries = r.entries; stage = Between }) th (subst (λ t. Reads t (record { entries = r.entries; stage = Between })) (sym (clean_shown (g.T.TextStore.text c.args.devices.now.journal) r.entries r.finished)) r.finished.reads) line c.in-Err.fault c.in-Err.ensures.fault;
      redo_kept = search rules;
    }

pub returns-in-Finished-clause-opened : goal.returns-in-Finished-clause-opened
returns-in-Finished-clause-opened g c dh th r reads =
    let text : List ℕ = g.T.TextStore.text c.args.devices.now.journal in
    let is = found_counted (g.T.TextStore.faithful c.args.devices.now.journal) text c.in-Ok.found c.in-Finished.counted c.in-Ok.ensures.found c.in-Finished.is th in
    finished_opened text (g.D.Device.image c.args.devices.now.image) c.in-Finished.counted.count c.in-Finished.counted.told is c.open_finished.result _ _ r (subst (λ t. Reads t r) (clean_shown text is.entries is.finished) reads)
    (c.read_text.ensures.looks.same th) (c.open_finished.ensures.image dh) c.open_finished.ensures.clean (c.open_finished.ensures.same_length dh)

pub returns-in-Finished-clause-left : goal.returns-in-Finished-clause-left
returns-in-Finished-clause-left g c th r reads =
    let text : List ℕ = g.T.TextStore.text c.args.devices.now.journal in
    let is = found_counted (g.T.TextStore.faithful c.args.devices.now.journal) text c.in-Ok.found c.in-Finished.counted c.in-Ok.ensures.found c.in-Finished.is th in
    ok_always c.open_finished.result (left_whole text _ c.in-Finished.counted.count c.in-Finished.counted.told r is (subst (λ t. Reads t r) (clean_shown text is.entries is.finished) reads) (c.read_text.ensures.looks.same th))

pub returns-in-Finished-clause-spares : goal.returns-in-Finished-clause-spares
returns-in-Finished-clause-spares g c =
    record {
      clean = search rules;
      refused = search rules;
      redo_same = search rules;
      keeps = λ dh th stack rec.
          let text : List ℕ = g.T.TextStore.text c.args.devices.now.journal in
          let y : List ℕ = g.D.Device.image c.open_finished.new.image in
          let same = sym (c.read_text.ensures.looks.same th) in
          let is = found_counted (g.T.TextStore.faithful c.args.devices.now.journal) text c.in-Ok.found c.in-Finished.counted c.in-Ok.ensures.found c.in-Finished.is th in (
            ok_always c.open_finished.result
                (subst (λ t. IsAtRest t y stack) same
                (counted_rest text (g.D.Device.image c.args.devices.now.image) c.in-Finished.counted.count c.in-Finished.counted.told is y stack (subst (λ t. Recovers t (g.D.Device.image c.args.devices.now.image) stack) (clean_shown text is.entries is.finished) rec) (c.open_finished.ensures.image dh))),
            OnErr-known c.open_finished.result (subst (λ t. Recovers (shown t) y stack) same (subst (λ z. Recovers (shown text) z stack) (sym (c.open_finished.ensures.image dh)) rec)),
          );
      finds_err = search rules;
    }

pub returns-in-Err-clause-spares : goal.returns-in-Err-clause-spares
returns-in-Err-clause-spares g c =
    record {
      clean = search rules;
      refused = search rules;
      redo_same = search rules;
      keeps = λ dh th stack rec. (tt, subst (λ t. Recovers (shown t) (g.D.Device.image c.args.devices.now.image) stack) (sym (c.read_text.ensures.looks.same th)) rec);
      finds_err = search rules;
    }

journal_text : {S T E : Type 0} → (Q : Type 0) (text : S → List ℕ) (o : Result T E) (new mid old : S) → text mid ≡ text old → OnErr o ((text new ≡ text mid) ⊎ Q) → OnErr o ((text new ≡ text old) ⊎ Q)
journal_text Q text (Ok v) new mid old same h = tt
journal_text Q text (Err e) new mid old same h = elim h [ inl is ↦ inl (is ∙ same) | inr q ↦ inr q ]

pub returns-in-Unfinished-clause-spares : goal.returns-in-Unfinished-clause-spares
returns-in-Unfinished-clause-spares g c =
    record {
      clean = search rules;
      refused = search rules;
      redo_same = search rules;
      keeps = λ dh th stack rec.
          c.recover_read.ensures.keeps dh (c.read_text.ensures.looks.faith.1 th) stack
          (subst (λ t. Recovers (shown t) (g.D.Device.image c.args.devices.now.image) stack) (sym (c.read_text.ensures.looks.same th)) rec);
      finds_err = λ dh th rh s finds.
          let text : List ℕ = g.T.TextStore.text c.args.devices.now.journal in
          let x : List ℕ = g.D.Device.image c.args.devices.now.image in
          let same = c.read_text.ensures.looks.same th in
          let mid = c.read_text.ensures.looks.faith.1 th in
          let i = found_torn (g.T.TextStore.faithful c.args.devices.now.journal) text c.in-Ok.found c.in-Unfinished.torn c.in-Ok.ensures.found c.in-Unfinished.is in
          unfinished_finds text x (g.T.TextStore.text c.args.devices.now.redo) _ _ _ s finds
          (found_unclean (g.T.TextStore.faithful c.args.devices.now.journal) text c.in-Unfinished.torn i th)
          (found_few (g.T.TextStore.faithful c.args.devices.now.journal) text x s.stack c.in-Unfinished.torn i th finds.recovers)
          c.recover_read.result
          (c.recover_read.ensures.keeps dh mid s.stack (subst (λ t. Recovers (shown t) x s.stack) (sym same) finds.recovers)).1
          (journal_text _ g.T.TextStore.text c.recover_read.result _ _ _ same (c.recover_read.ensures.empties.emptied_first mid rh))
          (subst (λ t. IfErr c.recover_read.result (λ e. AfterFault e (Unit {0}) ((g.T.TextStore.text c.recover_read.new.devices.journal ≡ t) × (g.D.Device.image c.recover_read.new.devices.image ≡ x)))) same
          (c.recover_read.ensures.refused dh mid))
          (c.recover_read.ensures.redo_same rh);
    }

pub returns-in-Finished-clause-counted : goal.returns-in-Finished-clause-counted
returns-in-Finished-clause-counted g c dh th stack rec =
    let text : List ℕ = g.T.TextStore.text c.args.devices.now.journal in
    let is = found_counted (g.T.TextStore.faithful c.args.devices.now.journal) text c.in-Ok.found c.in-Finished.counted c.in-Ok.ensures.found c.in-Finished.is th in
    finished_stack text (g.D.Device.image c.args.devices.now.image) c.in-Finished.counted.count c.in-Finished.counted.told is c.open_finished.result stack (subst (λ t. Recovers t (g.D.Device.image c.args.devices.now.image) stack) (clean_shown text is.entries is.finished) rec) c.open_finished.ensures.clean

pub returns-in-Finished-clause-redo_fault : goal.returns-in-Finished-clause-redo_fault
returns-in-Finished-clause-redo_fault g c =
    record {
      redo_refused = search rules;
      redo_unfit = λ dh th rh line r.
          let text : List ℕ = g.T.TextStore.text c.args.devices.now.journal in
          let is = found_counted (g.T.TextStore.faithful c.args.devices.now.journal) text c.in-Ok.found c.in-Finished.counted c.in-Ok.ensures.found c.in-Finished.is th in
          finished_unfit text (g.D.Device.image c.args.devices.now.image) c.in-Finished.counted.count c.in-Finished.counted.told is c.open_finished.result (g.T.TextStore.text c.args.devices.now.redo) line r
          (c.open_finished.ensures.unfit dh rh line);
      redo_kept = λ dh th rh s finds.
          let text : List ℕ = g.T.TextStore.text c.args.devices.now.journal in
          let is = found_counted (g.T.TextStore.faithful c.args.devices.now.journal) text c.in-Ok.found c.in-Finished.counted c.in-Ok.ensures.found c.in-Finished.is th in
          finished_kept text (g.D.Device.image c.args.devices.now.image) c.in-Finished.counted.count c.in-Finished.counted.told is c.open_finished.result _ _ (g.T.TextStore.text c.args.devices.now.redo) s finds
          (dh, rh) c.open_finished.ensures.fault;
    }

pub returns-in-Unfinished-clause-fault : goal.returns-in-Unfinished-clause-fault
returns-in-Unfinished-clause-fault g c =
    record {
      faults = search rules;
      kind = search rules;
      unfinished = λ th.
          let text : List ℕ = g.T.TextStore.text c.args.devices.now.journal in
          let i = found_torn (g.T.TextStore.faithful c.args.devices.now.journal) text c.in-Ok.found c.in-Unfinished.torn c.in-Ok.ensures.found c.in-Unfinished.is in
          err_then _ c.recover_read.result (found_unclean (g.T.TextStore.faithful c.args.devices.now.journal) text c.in-Unfinished.torn i th);
      differs = search rules;
    }

pub returns-in-Unfinished-clause-redo : goal.returns-in-Unfinished-clause-redo
returns-in-Unfinished-clause-redo g c =
    record {
      clean_redo = search rules;
      emptied = search rules;
      undone = λ dh th rh. emptied_undone _ _ c.recover_read.result (c.recover_read.ensures.empties.emptied rh) c.recover_read.ensures.unclean c.recover_read.ensures.sum;
      keeps_undone = λ dh th rh s finds. emptied_keeps _ _ s.undone c.recover_read.result (c.recover_read.ensures.empties.emptied rh) c.recover_read.ensures.unclean c.recover_read.ensures.sum;
    }

pub returns-in-Unfinished-clause-redo_fault : goal.returns-in-Unfinished-clause-redo_fault
returns-in-Unfinished-clause-redo_fault g c =
    record {
      redo_refused = search rules;
      redo_unfit = λ dh th rh line r.
          let text : List ℕ = g.T.TextStore.text c.args.devices.now.journal in
          let i = found_torn (g.T.TextStore.faithful c.args.devices.now.journal) text c.in-Ok.found c.in-Unfinished.torn c.in-Ok.ensures.found c.in-Unfinished.is in
          absurd (found_unclean (g.T.TextStore.faithful c.args.devices.now.journal) text c.in-Unfinished.torn i th (r.entries, r.finished));
      redo_kept = λ dh th rh s finds. recover_kind c.recover_read.result c.recover_read.ensures.kind;
    }

pub returns-in-Finished-clause-text : goal.returns-in-Finished-clause-text
returns-in-Finished-clause-text g c =
    record {
      accepted = λ th.
          let text : List ℕ = g.T.TextStore.text c.args.devices.now.journal in
          let is = found_counted (g.T.TextStore.faithful c.args.devices.now.journal) text c.in-Ok.found c.in-Finished.counted c.in-Ok.ensures.found c.in-Finished.is th in
          ok_always c.open_finished.result (subst (λ t. IsAccepted t) (sym (clean_shown text is.entries is.finished)) (finished_accepted text (g.D.Device.image c.args.devices.now.image) c.in-Finished.counted.count c.in-Finished.counted.told is c.open_finished.result));
      damaged = search rules;
      unaccepted = λ th none.
          let text : List ℕ = g.T.TextStore.text c.args.devices.now.journal in
          let is = found_counted (g.T.TextStore.faithful c.args.devices.now.journal) text c.in-Ok.found c.in-Finished.counted c.in-Ok.ensures.found c.in-Finished.is th in
          absurd (none (subst (λ t. IsAccepted t) (sym (clean_shown text is.entries is.finished)) (finished_accepted text (g.D.Device.image c.args.devices.now.image) c.in-Finished.counted.count c.in-Finished.counted.told is c.open_finished.result)));
    }

pub returns-in-Finished-clause-fault : goal.returns-in-Finished-clause-fault
returns-in-Finished-clause-fault g c =
    record {
      faults = λ dh th r reads.
          let text : List ℕ = g.T.TextStore.text c.args.devices.now.journal in
          let is = found_counted (g.T.TextStore.faithful c.args.devices.now.journal) text c.in-Ok.found c.in-Finished.counted c.in-Ok.ensures.found c.in-Finished.is th in
          finished_faults text (g.D.Device.image c.args.devices.now.image) c.in-Finished.counted.count c.in-Finished.counted.told is c.open_finished.result _ _ _ r (subst (λ t. Reads t r) (clean_shown text is.entries is.finished) reads) dh c.open_finished.ensures.fault;
      kind = search rules;
      unfinished = search rules;
      differs = λ dh th r n reads differs.
          let text : List ℕ = g.T.TextStore.text c.args.devices.now.journal in
          let is = found_counted (g.T.TextStore.faithful c.args.devices.now.journal) text c.in-Ok.found c.in-Finished.counted c.in-Ok.ensures.found c.in-Finished.is th in
          c.open_finished.ensures.differs dh n (finished_other text (g.D.Device.image c.args.devices.now.image) c.in-Finished.counted.count c.in-Finished.counted.told is c.open_finished.result r n (subst (λ t. Reads t r) (clean_shown text is.entries is.finished) reads) differs);
    }

pub returns-in-Unfinished-clause-text : goal.returns-in-Unfinished-clause-text
returns-in-Unfinished-clause-text g c =
    record {
      accepted = λ th.
          let text : List ℕ = g.T.TextStore.text c.args.devices.now.journal in
          let i = found_torn (g.T.TextStore.faithful c.args.devices.now.journal) text c.in-Ok.found c.in-Unfinished.torn c.in-Ok.ensures.found c.in-Unfinished.is in
          ok_always c.recover_read.result ((i.torn th).reading, (i.torn th).torn.reads);
      damaged = search rules;
      unaccepted = λ th none.
          let text : List ℕ = g.T.TextStore.text c.args.devices.now.journal in
          let i = found_torn (g.T.TextStore.faithful c.args.devices.now.journal) text c.in-Ok.found c.in-Unfinished.torn c.in-Ok.ensures.found c.in-Unfinished.is in
          absurd (none ((i.torn th).reading, (i.torn th).torn.reads));
    }

pub returns-in-Err-clause-survives : goal.returns-in-Err-clause-survives
returns-in-Err-clause-survives g c dh th rh s found = find_silent _ _ _ c.in-Err.fault c.in-Err.ensures.fault

pub returns-in-Finished-clause-survives : goal.returns-in-Finished-clause-survives
returns-in-Finished-clause-survives g c dh th rh s found = finished_silent _ c.open_finished.result _ _ _ _ _ _ c.open_finished.ensures.clean c.open_finished.ensures.fault

pub returns-in-Unfinished-clause-survives : goal.returns-in-Unfinished-clause-survives
returns-in-Unfinished-clause-survives g c dh th rh s found =
    unfinished_matches c.recover_read.result _
    (c.recover_read.ensures.survives dh (c.read_text.ensures.looks.faith.1 th) rh s
    (subst (λ t. FoundOnDisk t (g.D.Device.image c.args.devices.now.image) (g.T.TextStore.text c.args.devices.now.redo) s) (sym (c.read_text.ensures.looks.same th)) found))

pub returns-in-Err-clause-found_before : goal.returns-in-Err-clause-found_before
returns-in-Err-clause-found_before g c =
    after_same c.in-Err.fault _ (record { image_before = λ h k there. there; journal_before = c.read_text.ensures.found_before; redo_before = λ h k there. there })

pub returns-in-Finished-clause-found_before : goal.returns-in-Finished-clause-found_before
returns-in-Finished-clause-found_before g c = finished_same c.open_finished.result (record {
  image_before = c.open_finished.ensures.image_before;
  journal_before = c.read_text.ensures.found_before;
  redo_before = c.open_finished.ensures.redo_before;
})

pub returns-in-Unfinished-clause-found_before : goal.returns-in-Unfinished-clause-found_before
returns-in-Unfinished-clause-found_before g c = unfinished_same c.recover_read.result c.recover_read.ensures.unclean
    (λ before. record {
      image_before = before.image_before;
      journal_before = λ h. NoMore_then _ _ _ (c.read_text.ensures.found_before h) (before.journal_before (c.read_text.ensures.looks.faith.1 h));
      redo_before = before.redo_before;
    })
    c.recover_read.ensures.found_before

pub returns-in-Finished-clause-settled : goal.returns-in-Finished-clause-settled
returns-in-Finished-clause-settled g c dh th rh = finished_none _ c.open_finished.result c.in-Finished.counted.count c.open_finished.ensures.clean

pub returns-in-Unfinished-clause-settled : goal.returns-in-Unfinished-clause-settled
returns-in-Unfinished-clause-settled g c dh th rh = unfinished_holds _ c.recover_read.result (c.recover_read.ensures.settled dh (c.read_text.ensures.looks.faith.1 th) rh)
