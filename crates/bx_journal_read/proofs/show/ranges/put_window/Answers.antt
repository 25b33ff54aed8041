use Rattle.std.proofs.Common.{◌≡◌, ◌+◌, ◌-◌, ◌∙◌, length, length-take, take, drop, ap, subst, arith, string_bytes}
use Rattle.std.specs.Io.KnownBytes.{Appends}
use Rattle.std.proofs.lemmas.List.{take_all}
use Rattle.bx_journal_format.specs.Ranges.{RangesOn}
use Rattle.bx_journal_format.specs.Text.{split}
use Rattle.bx_journal_model.specs.Long.{passed_of}
use Rattle.bx_journal_read.specs.show.Stopping.{CountsBytes, StopsPrefix}
use Rattle.bx_journal_read.proofs.CutLemmas.{all_ranged, stands_of}
use Rattle.bx_journal_model.proofs.LongLines.{passed_on}
use Rattle.bx_journal_model.specs.declared.fault.SessionFault.TheVariants.{NoMemory, DeviceFailed}
use Rattle.bx_journal_read.specs.declared.show.fault.ShowFault.TheVariants.{Text}
use Rattle.bx_journal_read.proofs.PutLemmas.{ranges_stopped, window_refused}
use Rattle.bx_journal_read.proofs.StopLemmas.{handed_on}
use Rattle.bx_journal_read.proofs.show.ranges.put_window.Goals as goal

pub returns-in_err-written-clause-stops : goal.returns-in_err-written-clause-stops
returns-in_err-written-clause-stops g c h =
    let T = g.T.TextStore in
    let w0 = g.W.Write.contents c.args.out.now in
    let w1 = g.W.Write.contents c.put.new.out in
    let r = stands_of (T.faithful c.args.store.now) (T.text c.args.store.now) c.read_cut.new.window c.split_at.result.0.now c.args.done.at c.args.mark.to c.in_ok-cut.cut c.in_ok-cut.ensures.cut c.split_at.ensures.front
    c.args.mark.len c.args.done.ranging (string_bytes c.new-text.result) (string_bytes c.range_lines.new.text) c.in_ok-lines.lines c.in_ok-lines.ensures.added in
    let ranged = all_ranged (T.faithful c.args.store.now) (T.text c.args.store.now) c.read_cut.new.window c.split_at.result.0.now c.args.done.at c.args.mark.to c.in_ok-cut.cut c.in_ok-cut.ensures.cut c.split_at.ensures.front
    c.args.mark.len c.args.done.ranging (string_bytes c.new-text.result) (string_bytes c.range_lines.new.text) c.in_ok-lines.lines c.in_ok-lines.ensures.added in
    handed_on c.from_residual-in_err-written.result _ _ c.from_residual-in_err-written.ensures.1
    (ranges_stopped (T.text c.args.store.now) r.text c.args.mark c.args.done (record { ranging = c.in_ok-lines.lines.ranging; taken = length r.text }) _ (string_bytes c.new-text.result) (string_bytes c.range_lines.new.text) w0 w1
    c.in_err-written.field-0.0 (r.is h) (omega (arith, r.long, r.within)) c.new-text.ensures.bytes ranged
    (subst (λ b. StopsPrefix c.args.done.written b w0 w1 c.in_err-written.field-0.0) c.as_bytes.ensures.value c.in_err-written.ensures.stops))

pub returns-clause-put : goal.returns-clause-put
returns-clause-put g c =
    let T = g.T.TextStore in
    let w0 = g.W.Write.contents c.args.out.now in
    let w1 = g.W.Write.contents c.put.new.out in
    let cut = c.in_ok-cut.ensures.cut in
    let r = stands_of (T.faithful c.args.store.now) (T.text c.args.store.now) c.read_cut.new.window c.split_at.result.0.now c.args.done.at c.args.mark.to c.in_ok-cut.cut c.in_ok-cut.ensures.cut c.split_at.ensures.front
    c.args.mark.len c.args.done.ranging (string_bytes c.new-text.result) (string_bytes c.range_lines.new.text) c.in_ok-lines.lines c.in_ok-lines.ensures.added in
    let ranged = all_ranged (T.faithful c.args.store.now) (T.text c.args.store.now) c.read_cut.new.window c.split_at.result.0.now c.args.done.at c.args.mark.to c.in_ok-cut.cut c.in_ok-cut.ensures.cut c.split_at.ensures.front
    c.args.mark.len c.args.done.ranging (string_bytes c.new-text.result) (string_bytes c.range_lines.new.text) c.in_ok-lines.lines c.in_ok-lines.ensures.added in
    let all : take (length r.text) r.text ≡ r.text = take_all (length r.text) r.text (omega arith) in
    let added = string_bytes c.range_lines.new.text in
    let on = passed_on c.in_ok-cut.cut c.in_ok-lines.lines.taken c.passed.result c.args.done.at c.args.mark.to c.passed.ensures
    (omega (arith, c.in_ok-lines.ensures.added.within, ap length c.split_at.ensures.front, length-take c.in_ok-cut.cut.count c.read_cut.new.window)) cut.below (omega (arith, c.if-lines-eq0.false)) in
    let count : passed_of c.in_ok-cut.cut c.in_ok-lines.lines.taken ≡ c.args.done.at + c.passed.result - c.args.done.at = omega (arith, c.passed.ensures) in
    record {
      bytes = r.text;
      is = λ h. r.is h ∙ ap (λ n. take n (drop c.args.done.at (T.text c.args.store.now))) count;
      whole = r.whole;
      text = added;
      leads = subst (λ o. RangesOn c.args.mark.len (split r.text).lines c.args.done.ranging o added c.in_ok-lines.lines.ranging) c.new-text.ensures.bytes
          (subst (λ u. RangesOn c.args.mark.len (split u).lines c.args.done.ranging (string_bytes c.new-text.result) added c.in_ok-lines.lines.ranging) all ranged.leads);
      appended = subst (Appends w0 w1) c.as_bytes.ensures.value c.in_ok-written.ensures.put;
      counted = subst (λ b. CountsBytes c.args.done.written b c.in_ok-written.written) c.as_bytes.ensures.value c.in_ok-written.ensures.counted;
      some = on.0;
      within = on.1;
      below = c.in_ok-lines.ensures.within;
    }

pub returns-in_err-cut-clause-stops : goal.returns-in_err-cut-clause-stops
returns-in_err-cut-clause-stops g c h =
    handed_on c.from_residual.result _ (Text DeviceFailed) c.from_residual.ensures.1
    (window_refused (g.T.TextStore.text c.args.store.now) c.args.mark c.args.done (g.W.Write.contents c.args.out.now) DeviceFailed)

pub returns-in_err-clone-clause-stops : goal.returns-in_err-clone-clause-stops
returns-in_err-clone-clause-stops g c h =
    handed_on c.from_residual-in_err-clone.result _ (Text NoMemory) c.from_residual-in_err-clone.ensures.1
    (window_refused (g.T.TextStore.text c.args.store.now) c.args.mark c.args.done (g.W.Write.contents c.args.out.now) NoMemory)

pub returns-in_err-lines-clause-stops : goal.returns-in_err-lines-clause-stops
returns-in_err-lines-clause-stops g c h =
    handed_on c.from_residual-in_err-lines.result _ (Text NoMemory) c.from_residual-in_err-lines.ensures.1
    (window_refused (g.T.TextStore.text c.args.store.now) c.args.mark c.args.done (g.W.Write.contents c.args.out.now) NoMemory)

pub returns-then-lines-eq0-clause-stops : goal.returns-then-lines-eq0-clause-stops
returns-then-lines-eq0-clause-stops g c h = window_refused (g.T.TextStore.text c.args.store.now) c.args.mark c.args.done (g.W.Write.contents c.args.out.now) NoMemory
