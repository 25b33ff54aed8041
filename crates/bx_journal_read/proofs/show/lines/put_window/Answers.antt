use Rattle.std.proofs.Common.{length, length-take, ap, subst, arith}
use Rattle.std.specs.Io.KnownBytes.{Appends}
use Rattle.bx_journal_read.specs.show.Differences.{made_line}
use Rattle.bx_journal_read.specs.show.Stopping.{CountsBytes, StopsPrefix}
use Rattle.bx_journal_read.proofs.CutLemmas.{cut_counted, cut_stopped, cut_written, made_alike}
use Rattle.bx_journal_model.proofs.LongLines.{passed_on}
use Rattle.bx_journal_read.proofs.StopLemmas.{handed_on, stops_none}
use Rattle.bx_journal_model.specs.declared.fault.SessionFault.TheVariants.{NoMemory}
use Rattle.bx_journal_read.specs.show.Differences.{shown_between}
use Rattle.bx_journal_read.proofs.show.lines.put_window.Goals as goal

pub returns-clause-put : goal.returns-clause-put
returns-clause-put g c h =
    let T = g.T.TextStore in
    let put = subst (Appends (g.W.Write.contents c.args.out.now) (g.W.Write.contents c.put.new.out)) c.as_slice.ensures.value c.in_ok-writing.ensures.put in
    cut_written (T.faithful c.args.store.now) (T.text c.args.store.now) c.read_cut.new.window c.split_at.result.0.now c.args.at c.args.mark.to c.in_ok-cut.cut c.in_ok-cut.ensures.cut c.split_at.ensures.front
    (made_line c.args.mark.len) (made_alike c.args.mark.len) c.in_ok-taken.taken c.clear.new.self.items c.push_lines.new.text.items c.in_ok-taken.ensures.within c.clear.ensures.items c.in_ok-taken.ensures.added
    c.passed.result (g.W.Write.contents c.args.out.now) (g.W.Write.contents c.put.new.out) c.passed.ensures h put

pub returns-clause-counted : goal.returns-clause-counted
returns-clause-counted g c h =
    let T = g.T.TextStore in
    cut_counted (T.faithful c.args.store.now) (T.text c.args.store.now) c.read_cut.new.window c.split_at.result.0.now c.args.at c.args.mark.to c.in_ok-cut.cut c.in_ok-cut.ensures.cut c.split_at.ensures.front
    (made_line c.args.mark.len) (made_alike c.args.mark.len) c.in_ok-taken.taken c.clear.new.self.items c.push_lines.new.text.items c.in_ok-taken.ensures.within c.clear.ensures.items c.in_ok-taken.ensures.added
    c.passed.result c.args.writing.now.written c.in_ok-writing.field-0 c.passed.ensures h
    (subst (λ b. CountsBytes c.args.writing.now.written b c.in_ok-writing.field-0) c.as_slice.ensures.value c.in_ok-writing.ensures.counted)

pub returns-clause-on : goal.returns-clause-on
returns-clause-on g c =
    let cut = c.in_ok-cut.ensures.cut in
    passed_on c.in_ok-cut.cut c.in_ok-taken.taken c.passed.result c.args.at c.args.mark.to c.passed.ensures
    (omega (arith, c.in_ok-taken.ensures.within, ap length c.split_at.ensures.front, length-take c.in_ok-cut.cut.count c.read_cut.new.window)) cut.below (omega (arith, c.if-taken-eq0.false))

pub returns-in_err-writing-clause-stops : goal.returns-in_err-writing-clause-stops
returns-in_err-writing-clause-stops g c h =
    let T = g.T.TextStore in
    let w0 = g.W.Write.contents c.args.out.now in
    let w1 = g.W.Write.contents c.put.new.out in
    handed_on c.from_residual-in_err-writing.result _ _ c.from_residual-in_err-writing.ensures.1
    (cut_stopped (T.faithful c.args.store.now) (T.text c.args.store.now) c.read_cut.new.window c.split_at.result.0.now c.args.at c.args.mark.to c.in_ok-cut.cut c.in_ok-cut.ensures.cut c.split_at.ensures.front
    (made_line c.args.mark.len) (made_alike c.args.mark.len) c.in_ok-taken.taken c.clear.new.self.items c.push_lines.new.text.items c.in_ok-taken.ensures.within c.clear.ensures.items c.in_ok-taken.ensures.added
    c.args.writing.now.written w0 w1 c.in_err-writing.field-0.0 h (subst (λ b. StopsPrefix c.args.writing.now.written b w0 w1 c.in_err-writing.field-0.0) c.as_slice.ensures.value c.in_err-writing.ensures.stops))

pub returns-then-taken-eq0-clause-stops : goal.returns-then-taken-eq0-clause-stops
returns-then-taken-eq0-clause-stops g c h =
    stops_none c.args.writing.now.written (shown_between (made_line c.args.mark.len) (g.T.TextStore.text c.args.store.now) c.args.at c.args.mark.to) (g.W.Write.contents c.args.out.now) NoMemory
