use Rattle.std.proofs.Common.{◌≡◌, ◌-◌, ◌∙◌, List, length, ap, subst, sym, arith}
use Rattle.std.specs.Prelude.{reverse}
use Rattle.bx_journal_format.specs.declared.read.types.EntryRead.{EntryRead}
use Rattle.bx_journal_protocol.specs.protocol.Placed.{ArePlaced}
use Rattle.bx_journal_protocol.specs.protocol.Takens.{AreReady}
use Rattle.bx_journal_protocol.proofs.LookedLemmas.{found_then, stayed_then}
use Rattle.bx_journal_protocol.proofs.PlanLemmas.{fit_more, marked_ordered, placed_last, places_many}
use Rattle.bx_journal_protocol.proofs.before.records.prepare_takens.Goals as goal

pub take_records-requires-clause-order : goal.take_records-requires-clause-order
take_records-requires-clause-order g c =
    let read = c.requires.read in marked_ordered read.text read.older 0 (length read.text) c.args.read.entries.items read.marked

pub returns-clause-prepared : goal.returns-clause-prepared
returns-clause-prepared g c =
    let es : List (EntryRead g.row.A.Denot) = c.args.read.entries.items in
    let n = length es - c.args.k in
    let read = c.requires.read in
    let first = c.take_records.ensures.stayed in
    let last = c.settle.ensures in
    let back = λ (h : g.T.TextStore.faithful c.settle.new.devices.journal). first.journal_faith.0 (last.steps_on.journal_faith.0 h) in
    let same = λ (h : g.T.TextStore.faithful c.settle.new.devices.journal). last.stayed.text_same (first.journal_faith.1 (back h)) ∙ first.text_same (back h) in
    let is = λ (h : g.T.TextStore.faithful c.settle.new.devices.journal). same h ∙ read.is (back h) in
    record {
      entries = es;
      read = record { text = read.text; older = read.older; is = is; mark = read.mark; marked = read.marked };
      few = omega (arith, c.in-Ok.ensures.count, c.requires.few);
      placed = subst (λ ps. ArePlaced (g.T.TextStore.faithful c.settle.new.devices.journal) (g.T.TextStore.text c.settle.new.devices.journal) (reverse es) (reverse ps)) (sym c.in-Ok.ensures.places)
          (placed_last (g.T.TextStore.faithful c.settle.new.devices.journal) (g.T.TextStore.text c.settle.new.devices.journal) read.text read.older 0 (length read.text) es n is read.marked);
      ready = λ h.
          let here = first.image_faith.0 (last.steps_on.image_faith.0 h) in
          subst (λ x. AreReady x (reverse es) (reverse c.in-Ok.taking.takens.items)) (sym (last.stayed.image_same (first.image_faith.1 here) ∙ first.image_same here)) (c.in-Ok.ensures.filled here);
    }

pub returns-clause-fit : goal.returns-clause-fit
returns-clause-fit g c = fit_more (g.D.Device.room c.take_records.new.devices.image) (g.D.Device.room c.settle.new.devices.image) (length c.in-Ok.taking.buffers.window.items) c.in-Ok.taking.placed.items c.settle.ensures.room c.in-Ok.ensures.fit

pub returns-clause-same : goal.returns-clause-same
returns-clause-same g c = places_many c.args.read.entries.items c.args.k c.in-Ok.taking.placed.items c.requires.few c.in-Ok.ensures.places ∙ sym c.in-Ok.ensures.count

pub returns-clause-roomed : goal.returns-clause-roomed
returns-clause-roomed g c th =
    let still = c.take_records.ensures.stayed.redo_faith.1 th in
    let text : length (g.T.TextStore.text c.settle.new.devices.redo) ≡ length (g.T.TextStore.text c.take_records.new.devices.redo) = ap length (c.settle.ensures.stayed.redo_same still) in
    omega (arith, text, c.in-Ok.ensures.roomed th, c.settle.ensures.redo_room)

pub returns-clause-stayed : goal.returns-clause-stayed
returns-clause-stayed g c = stayed_then c.take_records.ensures.stayed c.settle.ensures.stayed

pub returns-clause-found_before : goal.returns-clause-found_before
returns-clause-found_before g c = found_then c.take_records.ensures.stayed c.take_records.ensures.found_before c.settle.ensures.found_before

-- and where that is stopped
pub returns-in_err-settle-clause-stayed : goal.returns-in_err-settle-clause-stayed
returns-in_err-settle-clause-stayed g c = stayed_then c.take_records.ensures.stayed c.settle.ensures.stayed

pub returns-in_err-settle-clause-found_before : goal.returns-in_err-settle-clause-found_before
returns-in_err-settle-clause-found_before g c = found_then c.take_records.ensures.stayed c.take_records.ensures.found_before c.settle.ensures.found_before

pub returns-clause-settled : goal.returns-clause-settled
returns-clause-settled g c dh th rh =
    let first = c.take_records.ensures.stayed in c.in_ok-settle.ensures.settled (first.image_faith.1 dh) (first.journal_faith.1 th) (first.redo_faith.1 rh)
