use Rattle.std.proofs.Common.{◌≡◌, length, ap, subst, arith}
use Rattle.bx_journal_read.specs.show.Differences.{made_line, shown_between, AreWritten}
use Rattle.bx_journal_read.specs.show.Stopping.{CountsBytes}
use Rattle.bx_journal_read.proofs.AddedLemmas.{counted_more, counted_none, stopped_more, written_from, written_more, written_none}
use Rattle.bx_journal_read.proofs.StopLemmas.{handed_on}
use Rattle.bx_journal_read.proofs.BesideLemmas.{stayed_none, stayed_on}
use Rattle.bx_journal_read.proofs.show.lines.put_lines.Goals as goal

pub loop-at-init : goal.loop-at-init
loop-at-init g c = record {
  written = λ h. written_none (made_line c.args.mark.len) (g.T.TextStore.text c.args.store.now) c.args.mark.from (g.W.Write.contents c.args.out.now);
  counted = λ h. counted_none (made_line c.args.mark.len) (g.T.TextStore.text c.args.store.now) c.args.mark.from _;
  behind = omega arith;
  within = c.requires.order;
  text = stayed_none g.T.TextStore.faithful g.T.TextStore.text g.T.TextStore.survives g.T.TextStore.failures c.args.store.now;
}

pub put_window-requires-clause-within : goal.put_window-requires-clause-within
put_window-requires-clause-within g c =
    let inv = c.loop-at.invariant in
    λ h. omega (arith, c.requires.within (inv.text.faith.0 h), ap length (inv.text.same (inv.text.faith.0 h)))

pub loop-at-preserved : goal.loop-at-preserved
loop-at-preserved g c =
    let inv = c.loop-at.invariant in
    let now = c.in_ok-at.ensures in
    let w0 = g.W.Write.contents c.args.out.now in
    let w1 = g.W.Write.contents c.loop-at.out in
    let w2 = g.W.Write.contents c.put_window.new.out in
    record {
      written = λ h. written_more (made_line c.args.mark.len) (g.T.TextStore.text c.args.store.now) c.args.mark.from c.loop-at.at c.in_ok-at.at w0 w1 w2 inv.behind (omega (arith, now.on.0)) (inv.written h)
          (written_from (made_line c.args.mark.len) (g.T.TextStore.text c.args.store.now) (g.T.TextStore.text c.loop-at.store) c.loop-at.at c.in_ok-at.at w1 w2 (inv.text.same h) (now.put (inv.text.faith.1 h)));
      counted = λ h. counted_more (made_line c.args.mark.len) (g.T.TextStore.text c.args.store.now) (g.T.TextStore.text c.loop-at.store) c.args.mark.from c.loop-at.at c.in_ok-at.at _ _ _ w0 w1
          inv.behind (omega (arith, now.on.0)) (inv.text.same h) (inv.written h) (inv.counted h) (now.counted (inv.text.faith.1 h));
      behind = omega (arith, inv.behind, now.on.0);
      within = now.on.1;
      text = stayed_on inv.text now.puts.stays.same now.puts.survives now.puts.stays.faith now.puts.stays.no_failure;
    }

pub returns-clause-put : goal.returns-clause-put
returns-clause-put g c h =
    let inv = c.loop-at.invariant in
    let all : c.loop-at.at ≡ c.args.mark.to = omega (arith, inv.within) in
    let written = subst (λ n. AreWritten (made_line c.args.mark.len) (g.T.TextStore.text c.args.store.now) c.args.mark.from n (g.W.Write.contents c.args.out.now) (g.W.Write.contents c.loop-at.out)) all (inv.written h) in
    written.written

pub returns-clause-counted : goal.returns-clause-counted
returns-clause-counted g c h =
    let inv = c.loop-at.invariant in
    let all : c.loop-at.at ≡ c.args.mark.to = omega (arith, inv.within) in
    subst (λ n. CountsBytes c.args.writing.now.written (shown_between (made_line c.args.mark.len) (g.T.TextStore.text c.args.store.now) c.args.mark.from n) c.loop-at.writing.written) all (inv.counted h)

pub returns-in_err-at-clause-stops : goal.returns-in_err-at-clause-stops
returns-in_err-at-clause-stops g c h =
    let inv = c.loop-at.invariant in
    handed_on c.from_residual.result _ _ c.from_residual.ensures.1
    (stopped_more (made_line c.args.mark.len) (g.T.TextStore.text c.args.store.now) (g.T.TextStore.text c.loop-at.store) c.args.mark.from c.loop-at.at c.args.mark.to _ _ (g.W.Write.contents c.args.out.now)
    (g.W.Write.contents c.loop-at.out) (g.W.Write.contents c.put_window.new.out) _ inv.behind inv.within (inv.text.same h) (inv.written h) (inv.counted h)
    (c.in_err-at.ensures.stops (inv.text.faith.1 h)))
