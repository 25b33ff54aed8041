use Rattle.std.proofs.Common.{length, length-take, ap, subst, arith}
use Rattle.std.specs.Io.KnownBytes.{Appends}
use Rattle.bx_journal_read.specs.show.Differences.{diff_line}
use Rattle.bx_journal_read.specs.show.Stopping.{CountsBytes, StopsPrefix}
use Rattle.bx_journal_read.proofs.CutLemmas.{cut_counted, cut_stopped, cut_written, diff_alike}
use Rattle.bx_journal_model.proofs.LongLines.{passed_on}
use Rattle.bx_journal_read.proofs.StopLemmas.{handed_on, stops_before, stops_none}
use Rattle.bx_journal_model.specs.declared.fault.SessionFault.TheVariants.{NoMemory}
use Rattle.bx_journal_read.specs.show.Differences.{shown_between}
use Rattle.bx_journal_read.proofs.show.differences.put_window.Goals as goal

pub returns-clause-put : goal.returns-clause-put
returns-clause-put g c h k =
    let T = g.T.TextStore in
    let put = subst (Appends (g.W.Write.contents c.args.out.now) (g.W.Write.contents c.put.new.out)) c.as_slice.ensures.value c.in_ok-writing.ensures.put in
    cut_written (T.faithful c.args.store.now) (T.text c.args.store.now) c.read_cut.new.window c.split_at.result.0.now c.args.now.done.at c.args.now.mark.to c.in_ok-cut.cut c.in_ok-cut.ensures.cut c.split_at.ensures.front
    (diff_line (g.D.Device.image c.args.device.now) c.args.now.mark.len) (diff_alike (g.D.Device.image c.args.device.now) c.args.now.mark.len) c.in_ok-lines.lines.taken c.clear.new.self.items c.push_lines.new.text.items c.in_ok-lines.ensures.within c.clear.ensures.items
    (c.in_ok-lines.ensures.added h)
    c.passed.result (g.W.Write.contents c.args.out.now) (g.W.Write.contents c.put.new.out) c.passed.ensures k put

pub returns-clause-counted : goal.returns-clause-counted
returns-clause-counted g c h k =
    let T = g.T.TextStore in
    cut_counted (T.faithful c.args.store.now) (T.text c.args.store.now) c.read_cut.new.window c.split_at.result.0.now c.args.now.done.at c.args.now.mark.to c.in_ok-cut.cut c.in_ok-cut.ensures.cut c.split_at.ensures.front
    (diff_line (g.D.Device.image c.args.device.now) c.args.now.mark.len) (diff_alike (g.D.Device.image c.args.device.now) c.args.now.mark.len) c.in_ok-lines.lines.taken c.clear.new.self.items c.push_lines.new.text.items c.in_ok-lines.ensures.within c.clear.ensures.items
    (c.in_ok-lines.ensures.added h)
    c.passed.result c.args.writing.now.written c.in_ok-writing.field-0 c.passed.ensures k
    (subst (λ b. CountsBytes c.args.writing.now.written b c.in_ok-writing.field-0) c.as_slice.ensures.value c.in_ok-writing.ensures.counted)

pub returns-in_err-writing-clause-stops : goal.returns-in_err-writing-clause-stops
returns-in_err-writing-clause-stops g c h k =
    let T = g.T.TextStore in
    let w0 = g.W.Write.contents c.args.out.now in
    let w1 = g.W.Write.contents c.put.new.out in
    handed_on c.from_residual-in_err-writing.result _ _ c.from_residual-in_err-writing.ensures.1
    (cut_stopped (T.faithful c.args.store.now) (T.text c.args.store.now) c.read_cut.new.window c.split_at.result.0.now c.args.now.done.at c.args.now.mark.to c.in_ok-cut.cut c.in_ok-cut.ensures.cut c.split_at.ensures.front
    (diff_line (g.D.Device.image c.args.device.now) c.args.now.mark.len) (diff_alike (g.D.Device.image c.args.device.now) c.args.now.mark.len) c.in_ok-lines.lines.taken c.clear.new.self.items c.push_lines.new.text.items c.in_ok-lines.ensures.within c.clear.ensures.items
    (c.in_ok-lines.ensures.added h)
    c.args.writing.now.written w0 w1 c.in_err-writing.field-0.0 k (subst (λ b. StopsPrefix c.args.writing.now.written b w0 w1 c.in_err-writing.field-0.0) c.as_slice.ensures.value c.in_err-writing.ensures.stops))

pub returns-then-lines-eq0-clause-stops : goal.returns-then-lines-eq0-clause-stops
returns-then-lines-eq0-clause-stops g c h k =
    stops_none c.args.writing.now.written (shown_between (diff_line (g.D.Device.image c.args.device.now) c.args.now.mark.len) (g.T.TextStore.text c.args.store.now) c.args.now.done.at c.args.now.mark.to)
    (g.W.Write.contents c.args.out.now) NoMemory

pub returns-in_err-lines-clause-stops : goal.returns-in_err-lines-clause-stops
returns-in_err-lines-clause-stops g c h k =
    handed_on c.from_residual-in_err-lines.result _ c.in_err-lines.field-0.0 c.from_residual-in_err-lines.ensures.1
    (stops_before c.args.writing.now.written (shown_between (diff_line (g.D.Device.image c.args.device.now) c.args.now.mark.len) (g.T.TextStore.text c.args.store.now) c.args.now.done.at c.args.now.mark.to)
    (g.W.Write.contents c.args.out.now) c.in_err-lines.field-0.0 c.in_err-lines.ensures.read)

pub returns-clause-on : goal.returns-clause-on
returns-clause-on g c =
    let cut = c.in_ok-cut.ensures.cut in
    passed_on c.in_ok-cut.cut c.in_ok-lines.lines.taken c.passed.result c.args.now.done.at c.args.now.mark.to c.passed.ensures
    (omega (arith, c.in_ok-lines.ensures.within, ap length c.split_at.ensures.front, length-take c.in_ok-cut.cut.count c.read_cut.new.window)) cut.below (omega (arith, c.if-lines-eq0.false))
