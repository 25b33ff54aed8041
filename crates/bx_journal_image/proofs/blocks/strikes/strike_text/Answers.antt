use Rattle.std.proofs.Common.{◌≡◌, ◌-◌, ◌≤◌, ◌∙◌, ℕ, length, take, drop, min, ap, refl, sym, arith}
use Rattle.bx_journal_format.specs.Text.{split}
use Rattle.bx_journal_model.proofs.TextReads.{read_bytes, read_none, read_then}
use Rattle.bx_journal_image.proofs.BlockLemmas.{none_taken, nothing_struck, nothing_to, window_ends, window_struck}
use Rattle.bx_journal_image.proofs.blocks.strikes.strike_text.Goals as goal

pub loop-at-init : goal.loop-at-init
unfolding split
loop-at-init g c = record {
  low = omega arith;
  below = c.requires.order;
  struck = λ h. nothing_struck c.args.total c.args.from (g.T.TextStore.text c.args.store.now) c.args.marks.now;
  whole = λ h. ap (λ t. (split t).rest) (nothing_to c.args.from (g.T.TextStore.text c.args.store.now));
  window = refl;
  reads = read_none g.T.TextStore c.args.store.now;
}

pub loop-at-preserved : goal.loop-at-preserved
loop-at-preserved g c =
    let inv = c.loop-at.invariant in
    let now = c.in_ok-read_at.ensures in
    let n : ℕ = c.min-size.result in
    let is : length c.split_at_mut-now.result.0.now ≡ n = omega (arith, c.split_at_mut-now.ensures.front_len) in
    let read = read_bytes g.T.TextStore inv.reads c.read_at.new.buf c.loop-at.at _ n is now.bytes in
    let took = c.strike_lines-taken.ensures in
    let few : c.strike_lines-taken.result ≤ n = omega (arith, took.within, c.read_at.auto.buf, is) in
    record {
      low = omega (arith, inv.low);
      below = omega (arith, inv.below, few, c.min-size.ensures, c.loop-at-test.true);
      struck = λ h. window_struck c.args.total c.args.from c.loop-at.at n c.strike_lines-taken.result (g.T.TextStore.text c.args.store.now) c.read_at.new.buf c.args.marks.now c.loop-at.marks c.strike_lines-taken.new.marks
          inv.low (read h) few (inv.whole h) took.whole (inv.struck h) took.struck took.lines;
      whole = λ h. window_ends c.args.total c.args.from c.loop-at.at n c.strike_lines-taken.result (g.T.TextStore.text c.args.store.now) c.read_at.new.buf c.args.marks.now c.loop-at.marks c.strike_lines-taken.new.marks
          inv.low (read h) few (inv.whole h) took.whole;
      window = omega (arith, inv.window, c.read_at.auto.buf);
      reads = read_then g.T.TextStore inv.reads now.text now.survives now.goes_on;
    }

pub returns-then-taken-eq0-clause-long : goal.returns-then-taken-eq0-clause-long
returns-then-taken-eq0-clause-long g c = λ h no.
    let inv = c.loop-at.invariant in
    let now = c.in_ok-read_at.ensures in
    let n : ℕ = c.min-size.result in
    let is : length c.split_at_mut-now.result.0.now ≡ n = omega (arith, c.split_at_mut-now.ensures.front_len) in
    let read = read_bytes g.T.TextStore inv.reads c.read_at.new.buf c.loop-at.at _ n is now.bytes in
    let size : n ≡ min (length c.args.window.now) (c.args.to - c.loop-at.at) = c.min-size.ensures ∙ ap (λ k. min k (c.args.to - c.loop-at.at)) inv.window in
    record {
      at = c.loop-at.at;
      low = inv.low;
      below = c.loop-at-test.true;
      long = ap (λ k. (split (take k (drop c.loop-at.at (g.T.TextStore.text c.args.store.now)))).lines) (sym size) ∙ sym (ap (λ t. (split t).lines) (read h))
          ∙ none_taken c.read_at.new.buf c.strike_lines-taken.result c.if-taken-eq0.true c.strike_lines-taken.ensures.lines;
    }
