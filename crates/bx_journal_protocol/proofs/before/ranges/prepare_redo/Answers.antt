use Rattle.std.proofs.Common.{◌≡◌, ◌-◌, length, drop, ap, arith}
use Rattle.bx_journal_protocol.proofs.LookedLemmas.{found_then, stayed_then}
use Rattle.bx_journal_model.proofs.UndoLoop.{kept_more}
use Rattle.bx_journal_protocol.proofs.before.ranges.prepare_redo.Goals as goal

pub returns-clause-kept : goal.returns-clause-kept
returns-clause-kept g c text count read =
    let es = c.args.read.now.entries.items in
    kept_more (g.D.Device.room c.take_ranges.new.devices.image) (g.D.Device.room c.settle.new.devices.image) (drop (length es - c.args.k) es) (c.in-Ok.ensures.kept text count read) c.settle.ensures.room

pub returns-clause-roomed : goal.returns-clause-roomed
returns-clause-roomed g c th =
    let still = c.take_ranges.ensures.stayed.journal_faith.1 th in
    let text : length (g.T.TextStore.text c.settle.new.devices.journal) ≡ length (g.T.TextStore.text c.take_ranges.new.devices.journal) = ap length (c.settle.ensures.stayed.text_same still) in
    omega (arith, text, c.in-Ok.ensures.roomed th, c.settle.ensures.journal_room)

pub returns-clause-stayed : goal.returns-clause-stayed
returns-clause-stayed g c = stayed_then c.take_ranges.ensures.stayed c.settle.ensures.stayed

pub returns-clause-found_before : goal.returns-clause-found_before
returns-clause-found_before g c = found_then c.take_ranges.ensures.stayed c.take_ranges.ensures.found_before c.settle.ensures.found_before
