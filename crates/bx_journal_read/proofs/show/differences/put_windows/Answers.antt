use Rattle.std.proofs.Common.{◌≡◌, length, refl, ap, sym, ◌∙◌, subst, arith}
use Rattle.bx_image.proofs.CacheLemmas.{cache_again}
use Rattle.bx_journal_read.specs.show.Differences.{diff_line, shown_between, AreWritten}
use Rattle.bx_journal_read.specs.show.Stopping.{CountsBytes, StopsPrefix}
use Rattle.bx_journal_read.proofs.AddedLemmas.{counted_more, counted_none, stopped_more, written_from, written_more, written_none}
use Rattle.bx_journal_read.proofs.StopLemmas.{handed_on}
use Rattle.bx_journal_read.proofs.BesideLemmas.{stayed_none, stayed_on}
use Rattle.bx_journal_read.proofs.show.differences.put_windows.Goals as goal

pub loop-done-init : goal.loop-done-init
loop-done-init g c = record {
  written = λ h k. written_none (diff_line (g.D.Device.image c.args.device.now) c.args.from.mark.len) (g.T.TextStore.text c.args.store.now) c.args.from.done.at (g.W.Write.contents c.args.out.now);
  counted = λ h k. counted_none (diff_line (g.D.Device.image c.args.device.now) c.args.from.mark.len) (g.T.TextStore.text c.args.store.now) c.args.from.done.at _;
  cache = c.requires.cache;
  room = refl;
  behind = omega arith;
  within = c.requires.at;
  image = stayed_none g.D.Device.faithful g.D.Device.image g.D.Device.survives g.D.Device.failures c.args.device.now;
  text = stayed_none g.T.TextStore.faithful g.T.TextStore.text g.T.TextStore.survives g.T.TextStore.failures c.args.store.now;
}

pub put_window-requires-clause-cache : goal.put_window-requires-clause-cache
put_window-requires-clause-cache g c =
    let inv = c.loop-done.invariant in
    cache_again (g.D.Device.faithful c.args.device.now) (g.D.Device.faithful c.loop-done.device) (g.D.Device.image c.args.device.now) (g.D.Device.image c.loop-done.device) c.loop-done.page c.loop-done.done.cached
    inv.image.faith.0 (λ h. inv.image.same (inv.image.faith.0 h)) inv.cache

pub put_window-requires-clause-within : goal.put_window-requires-clause-within
put_window-requires-clause-within g c =
    let inv = c.loop-done.invariant in
    λ h. omega (arith, c.requires.within (inv.text.faith.0 h), ap length (inv.text.same (inv.text.faith.0 h)))

pub loop-done-preserved : goal.loop-done-preserved
loop-done-preserved g c =
    let inv = c.loop-done.invariant in
    let now = c.in_ok-done.ensures in
    let w0 = g.W.Write.contents c.args.out.now in
    let w1 = g.W.Write.contents c.loop-done.out in
    let w2 = g.W.Write.contents c.put_window.new.out in
    record {
      written = λ h k. written_more (diff_line (g.D.Device.image c.args.device.now) c.args.from.mark.len) (g.T.TextStore.text c.args.store.now) c.args.from.done.at c.loop-done.done.at c.in_ok-done.done.at w0 w1 w2
          inv.behind (omega (arith, now.on.0)) (inv.written h k)
          (written_from (diff_line (g.D.Device.image c.args.device.now) c.args.from.mark.len) (g.T.TextStore.text c.args.store.now) (g.T.TextStore.text c.loop-done.store) c.loop-done.done.at c.in_ok-done.done.at w1 w2 (inv.text.same k)
          (subst (λ im. AreWritten (diff_line im c.args.from.mark.len) (g.T.TextStore.text c.loop-done.store) c.loop-done.done.at c.in_ok-done.done.at w1 w2) (inv.image.same h)
          (now.put (inv.image.faith.1 h) (inv.text.faith.1 k))));
      counted = λ h k. counted_more (diff_line (g.D.Device.image c.args.device.now) c.args.from.mark.len) (g.T.TextStore.text c.args.store.now) (g.T.TextStore.text c.loop-done.store) c.args.from.done.at c.loop-done.done.at
          c.in_ok-done.done.at c.args.writing.now.written c.loop-done.writing.written c.put_window.new.writing.written w0 w1 inv.behind (omega (arith, now.on.0)) (inv.text.same k) (inv.written h k) (inv.counted h k)
          (subst (λ im. CountsBytes c.loop-done.writing.written (shown_between (diff_line im c.args.from.mark.len) (g.T.TextStore.text c.loop-done.store) c.loop-done.done.at c.in_ok-done.done.at) c.put_window.new.writing.written)
          (inv.image.same h) (now.counted (inv.image.faith.1 h) (inv.text.faith.1 k)));
      cache = cache_again (g.D.Device.faithful c.loop-done.device) (g.D.Device.faithful c.args.device.now) (g.D.Device.image c.loop-done.device) (g.D.Device.image c.args.device.now) c.put_window.new.page
          c.in_ok-done.done.cached inv.image.faith.1 (λ h. sym (inv.image.same h)) now.cache;
      room = now.room ∙ inv.room;
      behind = omega (arith, inv.behind, now.on.0);
      within = now.on.1;
      image = stayed_on inv.image now.puts.image.same now.puts.image_survives now.puts.image.faith now.puts.image.no_failure;
      text = stayed_on inv.text now.puts.text.same now.puts.text_survives now.puts.text.faith now.puts.text.no_failure;
    }

pub returns-clause-put : goal.returns-clause-put
returns-clause-put g c h k =
    let inv = c.loop-done.invariant in
    let all : c.loop-done.done.at ≡ c.args.from.mark.to = omega (arith, inv.within) in
    subst (λ n. AreWritten (diff_line (g.D.Device.image c.args.device.now) c.args.from.mark.len) (g.T.TextStore.text c.args.store.now) c.args.from.done.at n (g.W.Write.contents c.args.out.now)
    (g.W.Write.contents c.loop-done.out)) all (inv.written h k)

pub returns-clause-counted : goal.returns-clause-counted
returns-clause-counted g c h k =
    let inv = c.loop-done.invariant in
    let all : c.loop-done.done.at ≡ c.args.from.mark.to = omega (arith, inv.within) in
    subst (λ n. CountsBytes c.args.writing.now.written (shown_between (diff_line (g.D.Device.image c.args.device.now) c.args.from.mark.len) (g.T.TextStore.text c.args.store.now) c.args.from.done.at n) c.loop-done.writing.written) all
    (inv.counted h k)

pub returns-in_err-done-clause-stops : goal.returns-in_err-done-clause-stops
returns-in_err-done-clause-stops g c h k =
    let inv = c.loop-done.invariant in
    let w1 = g.W.Write.contents c.loop-done.out in
    let w2 = g.W.Write.contents c.put_window.new.out in
    handed_on c.from_residual.result _ _ c.from_residual.ensures.1
    (stopped_more (diff_line (g.D.Device.image c.args.device.now) c.args.from.mark.len) (g.T.TextStore.text c.args.store.now) (g.T.TextStore.text c.loop-done.store) c.args.from.done.at c.loop-done.done.at c.args.from.mark.to
    c.args.writing.now.written c.loop-done.writing.written (g.W.Write.contents c.args.out.now) w1 w2 _ inv.behind inv.within (inv.text.same k) (inv.written h k) (inv.counted h k)
    (subst (λ im. StopsPrefix c.loop-done.writing.written (shown_between (diff_line im c.args.from.mark.len) (g.T.TextStore.text c.loop-done.store) c.loop-done.done.at c.args.from.mark.to) w1 w2 c.in_err-done.field-0.0)
    (inv.image.same h) (c.in_err-done.ensures.stops (inv.image.faith.1 h) (inv.text.faith.1 k))))
