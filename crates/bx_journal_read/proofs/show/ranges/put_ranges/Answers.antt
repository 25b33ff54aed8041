use Rattle.std.proofs.Common.{List, ℕ, [], refl, subst, arith, string_bytes}
use Rattle.std.specs.Prelude.{IfErr, IfOk, OnOk}
use Rattle.std.specs.Io.KnownBytes.{Appends}
use Rattle.bx_journal_format.specs.Ranges.{EndsRanges}
use Rattle.bx_journal_read.proofs.BesideLemmas.{stayed_none, stayed_on}
use Rattle.std.proofs.lemmas.Result.{IfErr-weaker, IfOk-weaker}
use Rattle.bx_journal_read.specs.declared.show.fault.ShowFault.TheVariants.{Text}
use Rattle.bx_journal_model.specs.declared.fault.SessionFault.TheVariants.{NoMemory}
use Rattle.bx_journal_read.specs.show.Stopping.{CountsBytes, StopsPrefix}
use Rattle.bx_journal_read.specs.show.Showing.{ranges_at}
use Rattle.bx_journal_read.proofs.PutLemmas.{put_none, put_more, puts_from, put_all, put_all_counted, put_all_stopped, put_stopped, window_refused}
use Rattle.bx_journal_read.proofs.StopLemmas.{handed_on}
use Rattle.bx_journal_read.proofs.RowTexts.{ok_weaker}
use Rattle.bx_journal_read.proofs.show.ranges.put_ranges.Goals as goal

pub loop-done-init : goal.loop-done-init
loop-done-init g c = record {
  put = put_none (g.T.TextStore.faithful c.args.store.now) (g.T.TextStore.text c.args.store.now) c.args.mark _ (g.W.Write.contents c.args.out.now) refl c.nothing_ranged.ensures.ranged;
  behind = omega arith;
  within = c.requires.order;
  below = omega (arith, c.nothing_ranged.ensures.within);
  text = stayed_none g.T.TextStore.faithful g.T.TextStore.text g.T.TextStore.survives g.T.TextStore.failures c.args.store.now;
}

pub loop-done-preserved : goal.loop-done-preserved
loop-done-preserved g c =
    let inv = c.loop-done.invariant in
    let now = c.in_ok-done.ensures in
    let faithful = g.T.TextStore.faithful c.args.store.now in
    let stored : List ℕ = g.T.TextStore.text c.args.store.now in
    let w0 = g.W.Write.contents c.args.out.now in
    let w1 = g.W.Write.contents c.loop-done.out in
    let w2 = g.W.Write.contents c.put_window.new.out in
    let more = puts_from faithful (g.T.TextStore.faithful c.loop-done.store) stored (g.T.TextStore.text c.loop-done.store) c.args.mark c.loop-done.done c.in_ok-done.done w1 w2 inv.text.faith.1 inv.text.same now.put in
    record {
      put = put_more faithful stored c.args.mark c.args.written c.loop-done.done c.in_ok-done.done w0 w1 w2 inv.behind inv.put more;
      behind = omega (arith, inv.behind, more.some);
      within = more.within;
      below = more.below;
      text = stayed_on inv.text now.puts.stays.same now.puts.survives now.puts.stays.faith now.puts.stays.no_failure;
    }

pub returns-clause-put : goal.returns-clause-put
returns-clause-put g c h =
    let inv = c.loop-done.invariant in
    let last : List ℕ = string_bytes c.range_last.new.text in
    let ends : EndsRanges c.loop-done.done.ranging [] last = subst (λ t. EndsRanges c.loop-done.done.ranging t last) c.new-text.ensures.bytes c.in_ok-range_last.ensures in
    ok_weaker c.put.result
    (λ put. put_all (g.T.TextStore.faithful c.args.store.now) (g.T.TextStore.text c.args.store.now) c.args.mark c.args.written c.loop-done.done (g.W.Write.contents c.args.out.now) (g.W.Write.contents c.loop-done.out)
    (g.W.Write.contents c.put.new.out) last (omega (arith, inv.within)) inv.put ends put h)
    (subst (λ b. OnOk c.put.result (Appends (g.W.Write.contents c.loop-done.out) (g.W.Write.contents c.put.new.out) b)) c.as_bytes.ensures.value c.put.ensures.put)

pub returns-clause-counted : goal.returns-clause-counted
returns-clause-counted g c h =
    let inv = c.loop-done.invariant in
    let last : List ℕ = string_bytes c.range_last.new.text in
    let ends : EndsRanges c.loop-done.done.ranging [] last = subst (λ t. EndsRanges c.loop-done.done.ranging t last) c.new-text.ensures.bytes c.in_ok-range_last.ensures in
    IfOk-weaker c.put.result (CountsBytes c.loop-done.done.written last) (CountsBytes c.args.written (ranges_at (g.T.TextStore.text c.args.store.now) c.args.mark))
    (λ after counted. put_all_counted (g.T.TextStore.faithful c.args.store.now) (g.T.TextStore.text c.args.store.now) c.args.mark c.args.written after c.loop-done.done (g.W.Write.contents c.args.out.now)
    (g.W.Write.contents c.loop-done.out) last (omega (arith, inv.within)) inv.put ends counted h)
    (subst (λ b. IfOk c.put.result (CountsBytes c.loop-done.done.written b)) c.as_bytes.ensures.value c.put.ensures.counted)

pub returns-clause-stops : goal.returns-clause-stops
returns-clause-stops g c h =
    let inv = c.loop-done.invariant in
    let last : List ℕ = string_bytes c.range_last.new.text in
    let w0 = g.W.Write.contents c.args.out.now in
    let w1 = g.W.Write.contents c.loop-done.out in
    let w2 = g.W.Write.contents c.put.new.out in
    let ends : EndsRanges c.loop-done.done.ranging [] last = subst (λ t. EndsRanges c.loop-done.done.ranging t last) c.new-text.ensures.bytes c.in_ok-range_last.ensures in
    IfErr-weaker c.put.result (StopsPrefix c.loop-done.done.written last w1 w2) (StopsPrefix c.args.written (ranges_at (g.T.TextStore.text c.args.store.now) c.args.mark) w0 w2)
    (λ f stop. put_all_stopped (g.T.TextStore.faithful c.args.store.now) (g.T.TextStore.text c.args.store.now) c.args.mark c.args.written c.loop-done.done w0 w1 w2 last f
    (omega (arith, inv.within)) inv.put ends stop h)
    (subst (λ b. IfErr c.put.result (StopsPrefix c.loop-done.done.written b w1 w2)) c.as_bytes.ensures.value c.put.ensures.stops)

pub returns-in_err-done-clause-stops : goal.returns-in_err-done-clause-stops
returns-in_err-done-clause-stops g c h =
    let inv = c.loop-done.invariant in
    handed_on c.from_residual.result _ _ c.from_residual.ensures.1
    (put_stopped (g.T.TextStore.faithful c.args.store.now) (g.T.TextStore.text c.args.store.now) (g.T.TextStore.text c.loop-done.store) c.args.mark c.args.written c.loop-done.done (g.W.Write.contents c.args.out.now)
    (g.W.Write.contents c.loop-done.out) (g.W.Write.contents c.put_window.new.out) _ inv.behind inv.within (inv.text.same h) inv.put (c.in_err-done.ensures.stops (inv.text.faith.1 h)) h)

pub returns-in_err-range_last-clause-stops : goal.returns-in_err-range_last-clause-stops
returns-in_err-range_last-clause-stops g c h =
    let inv = c.loop-done.invariant in
    let stored : List ℕ = g.T.TextStore.text c.args.store.now in
    let w1 = g.W.Write.contents c.loop-done.out in
    handed_on c.from_residual-in_err-range_last.result _ (Text NoMemory) c.from_residual-in_err-range_last.ensures.1
    (put_stopped (g.T.TextStore.faithful c.args.store.now) stored stored c.args.mark c.args.written c.loop-done.done (g.W.Write.contents c.args.out.now)
    w1 w1 (Text NoMemory) inv.behind inv.within refl inv.put (window_refused stored c.args.mark c.loop-done.done w1 NoMemory) h)

pub returns-in_err-clone-clause-stops : goal.returns-in_err-clone-clause-stops
returns-in_err-clone-clause-stops g c h =
    let inv = c.loop-done.invariant in
    let stored : List ℕ = g.T.TextStore.text c.args.store.now in
    let w1 = g.W.Write.contents c.loop-done.out in
    handed_on c.from_residual-in_err-clone.result _ (Text NoMemory) c.from_residual-in_err-clone.ensures.1
    (put_stopped (g.T.TextStore.faithful c.args.store.now) stored stored c.args.mark c.args.written c.loop-done.done (g.W.Write.contents c.args.out.now)
    w1 w1 (Text NoMemory) inv.behind inv.within refl inv.put (window_refused stored c.args.mark c.loop-done.done w1 NoMemory) h)
