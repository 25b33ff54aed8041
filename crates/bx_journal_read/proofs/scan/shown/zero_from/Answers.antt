use Rattle.std.proofs.Common.{◌≡◌, ℕ, List, length, refl, arith}
use Rattle.bx_journal_model.proofs.TextReads.{read_bytes, read_none, read_then}
use Rattle.bx_journal_read.proofs.ZeroLemmas.{zero_at_end, zero_behind, zero_within}
use Rattle.bx_journal_read.proofs.scan.shown.zero_from.Goals as goal

pub loop-at-init : goal.loop-at-init
loop-at-init g c = record {
  below = c.requires.below;
  zero = λ h. refl;
  window = refl;
  reads = read_none g.T.TextStore c.args.store.now;
}

pub loop-at-preserved : goal.loop-at-preserved
loop-at-preserved g c =
    let inv = c.loop-at.invariant in
    let now = c.in_ok-read_at.ensures in
    let stored : List ℕ = g.T.TextStore.text c.args.store.now in
    let n : ℕ = c.min-count.result in
    let is : length c.split_at_mut-part.result.0.now ≡ n = omega (arith, c.split_at_mut-part.ensures.front_len) in
    record {
      below = omega (arith, inv.below, c.min-count.ensures);
      zero = λ h.
          let part = read_bytes g.T.TextStore inv.reads c.read_at.new.buf c.loop-at.at _ n is now.bytes h in
          let more = zero_behind stored c.read_at.new.buf c.loop-at.at n part (omega (arith, c.read_at.auto.buf, is)) (omega (arith, c.if-zero-count.false, c.zero_at-zero.ensures)) in
          omega (arith, inv.zero h, more);
      window = omega (arith, inv.window, c.read_at.auto.buf);
      reads = read_then g.T.TextStore inv.reads now.text now.survives now.goes_on;
    }

pub returns-clause-zero : goal.returns-clause-zero
returns-clause-zero g c h =
    let inv = c.loop-at.invariant in
    let stored : List ℕ = g.T.TextStore.text c.args.store.now in
    omega (arith, inv.zero h, inv.below, c.loop-at-test.false, zero_at_end stored c.loop-at.at (omega (arith, c.requires.long h, c.loop-at-test.false)))

pub returns-then-zero-count-clause-zero : goal.returns-then-zero-count-clause-zero
returns-then-zero-count-clause-zero g c h =
    let inv = c.loop-at.invariant in
    let now = c.in_ok-read_at.ensures in
    let stored : List ℕ = g.T.TextStore.text c.args.store.now in
    let n : ℕ = c.min-count.result in
    let is : length c.split_at_mut-part.result.0.now ≡ n = omega (arith, c.split_at_mut-part.ensures.front_len) in
    let part = read_bytes g.T.TextStore inv.reads c.read_at.new.buf c.loop-at.at _ n is now.bytes h in
    let here = zero_within stored c.read_at.new.buf c.loop-at.at n part (omega (arith, c.read_at.auto.buf, is)) (omega (arith, c.if-zero-count.true, c.zero_at-zero.ensures)) in
    omega (arith, inv.zero h, here, c.zero_at-zero.ensures)
