use Rattle.std.proofs.Common.{ℕ, List, refl, ap, suc, sym, ◌∙◌}
use Rattle.bx_journal_format.specs.Shown.{shown}
use Rattle.bx_journal_model.specs.Stack.{image_at}
use Rattle.bx_journal_model.proofs.Phases.{length-stack_of}
use Rattle.bx_journal_read.proofs.OpenLemmas.{recovers_same}
use Rattle.bx_journal.proofs.Reopening.{kept_undone, rest_clean, rest_fault, rest_found, rest_reads, rest_recovers_shown}
use Rattle.bx_journal.proofs.session.Session.open_devices.Goals as goal

pub returns-in-Ok : goal.returns-in-Ok
returns-in-Ok g c =
    let o = c.in-Ok.ensures in
    let text : List ℕ = g.T.TextStore.text c.args.devices.journal in
    let x : List ℕ = g.D.Device.image c.args.devices.image in
    let redo : List ℕ = g.T.TextStore.text c.args.devices.redo in
    record {
      found = record {
        opened = o.opened;
        standing = λ dh th r reads.
            let opened = o.opened dh th r reads in
            record { stands = opened.stands; count = length-stack_of r.entries (image_at r.stage x) ∙ ap suc (sym opened.changes_are); whole = refl };
        left = o.left;
        fresh = (refl, refl, refl);
      };
      text = record { accepted = o.text.accepted; damaged = λ th. tt; unaccepted = o.text.unaccepted };
      fault = record { faults = λ dh th r reads. tt; differs = o.fault.differs; lengths_kept = λ dh th stack rec. tt; unfinished = λ th. tt; kind = tt };
      keeps = λ dh th stack rec. record { rest = (o.spares.keeps dh th stack rec).0; count = o.counted dh th stack rec; whole = refl };
      spares = record { clean = o.spares.clean; refused = λ dh th. tt; redo_same = λ rh. tt; keeps = o.spares.keeps; finds_err = λ dh th rh i found. tt };
      redo = record {
        clean_redo = o.redo.clean_redo;
        emptied = o.redo.emptied;
        undone = λ dh th rh. let found = o.redo.undone dh th rh in (found.0, record { redo = found.1; counted = found.2 });
        keeps_undone = λ dh th rh s finds. let found = o.redo.keeps_undone dh th rh s finds in record { redo = found.0; counted = found.1 };
      };
      redo_fault = record { redo_refused = λ dh th rh. tt; redo_unfit = o.redo_fault.redo_unfit; redo_kept = λ dh th rh s found. tt };
      reopens = λ dh th rh s rests.
          let clean = rest_clean text x redo s rests.0 c.in-Ok.recovered.how (o.opened dh th _ (rest_reads text x redo s rests.0)).how_is in
          let found = o.redo.keeps_undone dh th rh s (rest_found text x redo s rests.0 rests.1) in
          let kept = kept_undone _ _ _ _ c.in-Ok.recovered.how s.undone clean found.0 found.1 in
          let recovers = rest_recovers_shown text x redo s rests.0 in
          record {
            clean = clean;
            pair_same = o.spares.clean dh th clean;
            redo_same = o.redo.clean_redo rh clean;
            ready = record { rest = (o.spares.keeps dh th s.stack recovers).0; count = o.counted dh th s.stack recovers; whole = refl };
            undone = record { redo = kept.0; counted = kept.1 };
          };
      survives = o.survives;
      settled = λ dh th rh unclean. let on = o.settled dh th rh unclean in record { image = on.image; journal = on.journal; redo = on.redo };
      found_before = λ clean. let before = o.found_before clean in record { image_before = before.image_before; journal_before = before.journal_before; redo_before = before.redo_before };
      devices = record {
        image_faith = o.calls.image_faith;
        journal_faith = o.calls.journal_faith;
        redo_faith = o.calls.redo_faith;
        faith_err = tt;
        image_failures = o.calls.no_failure.0;
        journal_failures = o.calls.no_failure.1;
        redo_failures = o.calls.no_failure.2;
        counts = tt;
      };
    }

pub returns-in-Err : goal.returns-in-Err
returns-in-Err g c =
    let e = c.in-Err.ensures in
    let text : List ℕ = g.T.TextStore.text c.args.devices.journal in
    let x : List ℕ = g.D.Device.image c.args.devices.image in
    let redo : List ℕ = g.T.TextStore.text c.args.devices.redo in
    record {
      found = record { opened = λ dh th r reads. tt; standing = λ dh th r reads. tt; left = λ th r reads. tt; fresh = tt };
      text = record { accepted = λ th. tt; damaged = e.text.damaged; unaccepted = e.text.unaccepted };
      fault = record {
        faults = e.fault.faults;
        differs = e.fault.differs;
        lengths_kept = λ dh th stack rec n is. recovers_same (shown text) x stack c.in-Err.fault n rec (e.fault.faults dh th rec.reading rec.reads) is;
        unfinished = e.fault.unfinished;
        kind = e.fault.kind;
      };
      keeps = λ dh th stack rec. tt;
      spares = record { clean = λ dh th. tt; refused = e.spares.refused; redo_same = e.spares.redo_same; keeps = e.spares.keeps; finds_err = e.spares.finds_err };
      redo = record { clean_redo = λ rh. tt; emptied = λ rh. tt; undone = λ dh th rh. tt; keeps_undone = λ dh th rh s finds. tt };
      redo_fault = record { redo_refused = e.redo_fault.redo_refused; redo_unfit = e.redo_fault.redo_unfit; redo_kept = e.redo_fault.redo_kept };
      reopens = λ dh th rh s rests.
          let recovers = rest_recovers_shown text x redo s rests.0 in
          rest_fault text x redo s rests.0 c.in-Err.fault e.fault.kind (e.text.damaged th)
          (λ n is. recovers_same (shown text) x s.stack c.in-Err.fault n recovers (e.fault.faults dh th recovers.reading recovers.reads) is)
          (e.fault.unfinished th) (e.redo_fault.redo_kept dh th rh s (rest_found text x redo s rests.0 rests.1));
      survives = e.survives;
      settled = λ dh th rh. tt;
      found_before = e.found_before;
      devices = record {
        image_faith = tt;
        journal_faith = tt;
        redo_faith = tt;
        faith_err = (e.calls.image_faith, e.calls.journal_faith, e.calls.redo_faith);
        image_failures = tt;
        journal_failures = tt;
        redo_failures = tt;
        counts = e.calls.counts;
      };
    }
