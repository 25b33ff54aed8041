use Rattle.std.proofs.Common.{rules, length, refl, ap, sym, ◌∙◌, subst, arith}
use Rattle.std.specs.Io.KnownBytes.{Appends}
use Rattle.bx_image.proofs.Survivors.{NoMore_then}
use Rattle.bx_journal_format.specs.Text.{split}
use Rattle.std.specs.Prelude.{IfErr, OnOk}
use Rattle.bx_journal_read.specs.show.Differences.{diff_text}
use Rattle.bx_journal_read.specs.show.Stopping.{CountsBytes, StopsPrefix}
use Rattle.bx_journal_read.specs.show.Showing.{lines_at}
use Rattle.bx_journal_read.proofs.BesideLemmas.{counts_behind, stays_behind}
use Rattle.bx_journal_read.proofs.RowTexts.{ok_weaker}
use Rattle.bx_journal_read.proofs.StopLemmas.{refused_on}
use Rattle.bx_journal_model.specs.declared.fault.SessionFault.TheVariants.{NoMemory, DeviceFailed}
use Rattle.bx_journal_read.proofs.show.differences.put_differences.Goals as goal

pub put_windows-requires-clause-cache : goal.put_windows-requires-clause-cache
put_windows-requires-clause-cache g c =
    let faith = c.len.ensures.goes_on.faith in
    record {
      long = λ h. c.in_ok-len.ensures.len (faith.0 h) ∙ sym (ap length (c.len.ensures.image (faith.0 h)));
      are = λ h. refl;
      inside = omega arith;
    }

pub put_windows-requires-clause-room : goal.put_windows-requires-clause-room
put_windows-requires-clause-room g c = omega (arith, ap length c.as_mut_slice.ensures.value, c.in_ok-page.ensures.len)

pub returns-clause-put : goal.returns-clause-put
returns-clause-put g c h k =
    ok_weaker c.put_windows.result
    (λ compared. subst (λ im. Appends (g.W.Write.contents c.args.out.now) (g.W.Write.contents c.put_windows.new.out) (diff_text im c.args.mark.len (split (lines_at (g.T.TextStore.text c.args.store.now) c.args.mark)).lines))
    (c.len.ensures.image h) compared.written)
    (c.put_windows.ensures.put (c.len.ensures.goes_on.faith.1 h) k)

pub returns-in_err-len-clause-puts : goal.returns-in_err-len-clause-puts
returns-in_err-len-clause-puts g c = record {
  kind = search rules;
  image = record { same = λ h. c.len.ensures.image h; faith = c.len.ensures.goes_on.faith; no_failure = search rules };
  text = search rules;
  image_survives = λ h. c.len.ensures.survives h;
  text_survives = λ h y there. there;
  counts = search rules;
}

pub returns-clause-puts : goal.returns-clause-puts
returns-clause-puts g c =
    let last = c.put_windows.ensures.puts in
    record {
      kind = last.kind;
      image = stays_behind (λ h. c.len.ensures.image h) c.len.ensures.goes_on.faith c.in_ok-len.ensures.goes_on.counted last.image;
      text = last.text;
      image_survives = λ h. NoMore_then _ _ _ (c.len.ensures.survives h) (last.image_survives (c.len.ensures.goes_on.faith.1 h));
      text_survives = last.text_survives;
      counts = counts_behind _ _ c.put_windows.result c.in_ok-len.ensures.goes_on.counted refl last.counts;
    }

pub returns-clause-counted : goal.returns-clause-counted
returns-clause-counted g c h k =
    subst (λ im. OnOk c.put_windows.result (CountsBytes c.args.writing.now.written (diff_text im c.args.mark.len (split (lines_at (g.T.TextStore.text c.args.store.now) c.args.mark)).lines) c.put_windows.new.writing.written))
    (c.len.ensures.image h) (c.put_windows.ensures.counted (c.len.ensures.goes_on.faith.1 h) k)

pub returns-clause-stops : goal.returns-clause-stops
returns-clause-stops g c h k =
    subst (λ im. IfErr c.put_windows.result (StopsPrefix c.args.writing.now.written (diff_text im c.args.mark.len (split (lines_at (g.T.TextStore.text c.args.store.now) c.args.mark)).lines)
    (g.W.Write.contents c.args.out.now) (g.W.Write.contents c.put_windows.new.out)))
    (c.len.ensures.image h) (c.put_windows.ensures.stops (c.len.ensures.goes_on.faith.1 h) k)

pub returns-in_err-clone-clause-stops : goal.returns-in_err-clone-clause-stops
returns-in_err-clone-clause-stops g c h k =
    refused_on c.from_residual.result c.args.writing.now.written (diff_text (g.D.Device.image c.args.device.now) c.args.mark.len (split (lines_at (g.T.TextStore.text c.args.store.now) c.args.mark)).lines)
    (g.W.Write.contents c.args.out.now) NoMemory c.from_residual.ensures.1

pub returns-in_err-page-clause-stops : goal.returns-in_err-page-clause-stops
returns-in_err-page-clause-stops g c h k =
    refused_on c.from_residual-in_err-page.result c.args.writing.now.written (diff_text (g.D.Device.image c.args.device.now) c.args.mark.len (split (lines_at (g.T.TextStore.text c.args.store.now) c.args.mark)).lines)
    (g.W.Write.contents c.args.out.now) NoMemory c.from_residual-in_err-page.ensures.1

pub returns-in_err-len-clause-stops : goal.returns-in_err-len-clause-stops
returns-in_err-len-clause-stops g c h k =
    refused_on c.from_residual-in_err-len.result c.args.writing.now.written (diff_text (g.D.Device.image c.args.device.now) c.args.mark.len (split (lines_at (g.T.TextStore.text c.args.store.now) c.args.mark)).lines)
    (g.W.Write.contents c.args.out.now) DeviceFailed c.from_residual-in_err-len.ensures.1
