use Rattle.std.proofs.Common.{◌≡◌, ◌-◌, ◌≤◌, ◌∙◌, ℕ, [], length, take, drop, min, ap, refl, subst, sym, arith}
use Rattle.bx_journal_format.specs.Text.{split}
use Rattle.bx_journal_model.proofs.TextReads.{read_bytes, read_none, read_then}
use Rattle.bx_journal_read.specs.scan.Windows.{rest_to}
use Rattle.bx_journal_image.specs.Blocks.{HasLongLine}
use Rattle.bx_journal_image.specs.Seal.{IsStepsSpan, Widens}
use Rattle.bx_journal_image.proofs.BlockLemmas.{none_taken, window_ends}
use Rattle.bx_journal_image.proofs.SpanLemmas.{one_length, steps_all, steps_any, widens_start, widens_window}
use Rattle.bx_journal_image.proofs.sealing.lengths.span_to.Goals as goal

pub loop-at-init : goal.loop-at-init
unfolding split
loop-at-init g c = record {
  below = omega arith;
  widened = λ h. one_length c.args.total c.between-span.result _ c.between-span.ensures (widens_start (g.T.TextStore.text c.args.store.now) _);
  whole = λ h. refl;
  window = c.requires.room;
  reads = read_none g.T.TextStore c.args.store.now;
}

pub loop-at-preserved : goal.loop-at-preserved
loop-at-preserved g c =
    let inv = c.loop-at.invariant in
    let now = c.in_ok-read_at.ensures in
    let text = g.T.TextStore.text c.args.store.now in
    let n : ℕ = c.min-size.result in
    let is : length c.split_at_mut-now.result.0.now ≡ n = omega (arith, c.split_at_mut-now.ensures.front_len) in
    let read = read_bytes g.T.TextStore inv.reads c.read_at.new.buf c.loop-at.at _ n is now.bytes in
    let took = c.widen-taken.ensures in
    let few : c.widen-taken.result ≤ n = omega (arith, took.within, c.read_at.auto.buf, is) in
    record {
      below = omega (arith, inv.below, few, c.min-size.ensures, c.loop-at-test.true);
      widened = λ h. widens_window text c.read_at.new.buf c.loop-at.at n c.widen-taken.result _ c.loop-at.span c.widen-taken.new.span (read h) few (inv.whole h) took.lines (inv.widened h) took.widened;
      whole = λ h. window_ends 0 0 c.loop-at.at n c.widen-taken.result text c.read_at.new.buf [] [] [] (omega arith) (read h) few (inv.whole h) took.whole;
      window = omega (arith, inv.window, c.read_at.auto.buf);
      reads = read_then g.T.TextStore inv.reads now.text now.survives now.goes_on;
    }

pub returns-then-taken-eq0-clause-span : goal.returns-then-taken-eq0-clause-span
returns-then-taken-eq0-clause-span g c = λ h.
    let inv = c.loop-at.invariant in
    let now = c.in_ok-read_at.ensures in
    let text = g.T.TextStore.text c.args.store.now in
    let n : ℕ = c.min-size.result in
    let is : length c.split_at_mut-now.result.0.now ≡ n = omega (arith, c.split_at_mut-now.ensures.front_len) in
    let read = read_bytes g.T.TextStore inv.reads c.read_at.new.buf c.loop-at.at _ n is now.bytes in
    let size : n ≡ min 65536 (c.args.len - c.loop-at.at) = c.min-size.ensures ∙ ap (λ k. min k (c.args.len - c.loop-at.at)) inv.window in
    let long : HasLongLine 65536 0 c.args.len text = record {
      at = c.loop-at.at;
      low = omega arith;
      below = c.loop-at-test.true;
      long = ap (λ k. (split (take k (drop c.loop-at.at text))).lines) (sym size) ∙ sym (ap (λ t. (split t).lines) (read h))
          ∙ none_taken c.read_at.new.buf c.widen-taken.result c.if-taken-eq0.true c.widen-taken.ensures.lines;
    } in
    let fits = c.well_formed in
    subst (IsStepsSpan c.args.total text) (sym c.any.ensures) (steps_any text c.args.total c.args.len (omega arith) (c.requires.long h) long)

pub returns-clause-span : goal.returns-clause-span
returns-clause-span g c = λ h.
    let inv = c.loop-at.invariant in
    let text = g.T.TextStore.text c.args.store.now in
    let end : c.loop-at.at ≡ c.args.len = omega (arith, inv.below, c.loop-at-test.false) in
    steps_all text c.args.total c.loop-at.at c.loop-at.span (end ∙ c.requires.long h) (inv.widened h)
