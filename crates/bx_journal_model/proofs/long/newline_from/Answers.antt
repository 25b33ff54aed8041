use Rattle.std.proofs.Common.{◌≡◌, ◌+◌, ◌≤◌, ℕ, List, length, length-take, take, drop, refl, subst, arith}
use Rattle.bx_journal_model.specs.Long.{IsPlainTo}
use Rattle.bx_journal_model.proofs.WindowBytes.{plain_none, plain_on}
use Rattle.bx_journal_model.proofs.LongLines.{newline_at}
use Rattle.bx_journal_model.proofs.TextReads.{read_bytes, read_none, read_then}
use Rattle.bx_journal_model.proofs.WindowBytes.{front_of}
use Rattle.bx_journal_model.proofs.long.newline_from.Goals as goal

pub loop-at-init : goal.loop-at-init
loop-at-init g c = record {
  below = c.requires.below;
  plain = plain_none (g.T.TextStore.faithful c.args.store.now) (g.T.TextStore.text c.args.store.now) c.args.from;
  window = refl;
  reads = read_none g.T.TextStore c.args.store.now;
}

pub loop-at-preserved : goal.loop-at-preserved
loop-at-preserved g c =
    let inv = c.loop-at.invariant in
    let now = c.in_ok-read_at.ensures in
    let stored : List ℕ = g.T.TextStore.text c.args.store.now in
    let n : ℕ = c.min-count.result in
    let is : length c.split_at_mut-part.result.0.now ≡ n = omega (arith, c.split_at_mut-part.ensures.front_len) in
    record {
      below = omega (arith, inv.below, c.min-count.ensures);
      plain = plain_on (g.T.TextStore.faithful c.args.store.now) stored c.read_at.new.buf c.args.from c.loop-at.at n inv.plain
          (read_bytes g.T.TextStore inv.reads c.read_at.new.buf c.loop-at.at _ n is now.bytes)
          (omega (arith, c.read_at.auto.buf, is)) c.in_default.ensures.none;
      window = omega (arith, inv.window, c.read_at.auto.buf);
      reads = read_then g.T.TextStore inv.reads now.text now.survives now.goes_on;
    }

pub returns-clause-newline : goal.returns-clause-newline
returns-clause-newline g c =
    let inv = c.loop-at.invariant in
    let end : c.loop-at.at ≡ c.args.len = omega (arith, inv.below, c.loop-at-test.false) in
    record {
      plain = subst (IsPlainTo (g.T.TextStore.faithful c.args.store.now) (g.T.TextStore.text c.args.store.now) c.args.from) end inv.plain;
      within = omega arith;
      newline = λ h less. absurd (omega (arith, less));
    }

pub returns-in-Some-clause-newline : goal.returns-in-Some-clause-newline
returns-in-Some-clause-newline g c =
    let inv = c.loop-at.invariant in
    let now = c.in_ok-read_at.ensures in
    let stored : List ℕ = g.T.TextStore.text c.args.store.now in
    let n : ℕ = c.min-count.result in
    let is : length c.split_at_mut-part.result.0.now ≡ n = omega (arith, c.split_at_mut-part.ensures.front_len) in
    let part : List ℕ = c.read_at.new.buf in
    let i : ℕ = c.in-Some.i in
    let f = c.in-Some.ensures.found in
    let read = read_bytes g.T.TextStore inv.reads part c.loop-at.at _ n is now.bytes in
    let less : i ≤ length part = omega (arith, f.0) in
    record {
      plain = plain_on (g.T.TextStore.faithful c.args.store.now) stored (take i part) c.args.from c.loop-at.at i inv.plain
          (λ h. front_of i n part (drop c.loop-at.at stored) less (read h)) (omega (arith, length-take i part, less)) f.1;
      within = omega (arith, f.0, c.read_at.auto.buf, is, c.min-count.ensures, inv.below);
      newline = λ h below. newline_at stored part c.loop-at.at n i (read h) f.0 f.2;
    }
