use Rattle.std.proofs.Common.{◌≡◌, ◌+◌, ◌∙◌, ℕ, List, length, take, ap, refl, subst, arith}
use Rattle.bx_journal_format.specs.Text.{split}
use Rattle.bx_journal_read.proofs.NewlineLemmas.{newlines_on}
use Rattle.bx_journal_model.proofs.TextReads.{read_bytes, read_none, read_then}
use Rattle.bx_journal_read.proofs.scan.newlines.newlines_to.Goals as goal

pub loop-at-init : goal.loop-at-init
unfolding split
loop-at-init g c = record {
  below = omega arith;
  counted = λ h. refl;
  most = omega arith;
  window = refl;
  reads = read_none g.T.TextStore c.args.store.now;
}

pub loop-at-preserved : goal.loop-at-preserved
loop-at-preserved g c =
    let inv = c.loop-at.invariant in
    let now = c.in_ok-read_at.ensures in
    let stored : List ℕ = g.T.TextStore.text c.args.store.now in
    let n : ℕ = c.min-size.result in
    let is : length c.split_at_mut-part.result.0.now ≡ n = omega (arith, c.split_at_mut-part.ensures.front_len) in
    let read = read_bytes g.T.TextStore inv.reads c.read_at.new.buf c.loop-at.at _ n is now.bytes in
    record {
      below = omega (arith, inv.below, c.min-size.ensures);
      counted = λ h. ap (λ m. c.loop-at.count + m) c.newlines-count.ensures.lines ∙ newlines_on stored c.read_at.new.buf c.loop-at.at n c.loop-at.count (read h) (inv.counted h);
      most = omega (arith, inv.most, c.newlines-count.ensures.most, c.read_at.auto.buf, is);
      window = omega (arith, inv.window, c.read_at.auto.buf);
      reads = read_then g.T.TextStore inv.reads now.text now.survives now.goes_on;
    }

pub returns-clause-lines : goal.returns-clause-lines
returns-clause-lines g c h =
    let inv = c.loop-at.invariant in
    let end : c.loop-at.at ≡ c.args.len = omega (arith, inv.below, c.loop-at-test.false) in
    subst (λ n. c.loop-at.count ≡ length (split (take n (g.T.TextStore.text c.args.store.now))).lines) end (inv.counted h)
