use Rattle.std.proofs.Common.{◌≡◌, ◌∙◌, ℕ, List, ◌++◌, Some, None, length, refl, sym, subst, arith}
use Rattle.bx_journal_format.specs.read.Left.{IsTornAs, is_torn}
use Rattle.bx_journal_model.proofs.TextReads.{read_bytes, read_none, read_then}
use Rattle.bx_journal_read.proofs.ZeroLemmas.{torn_at_end, torn_behind}
use Rattle.bx_journal_read.proofs.scan.shown.is_torn_from.Goals as goal

pub loop-at-init : goal.loop-at-init
loop-at-init g c = record {
  below = c.requires.below;
  torn = λ h. refl;
  window = refl;
  reads = read_none g.T.TextStore c.args.store.now;
}

pub loop-at-preserved : goal.loop-at-preserved
loop-at-preserved g c =
    let inv = c.loop-at.invariant in
    let now = c.in_ok-read_at.ensures in
    let stored : List ℕ = g.T.TextStore.text c.args.store.now in
    let n : ℕ = c.min-count.result in
    let is : length c.split_at_mut-part.result.0.now ≡ n = omega (arith, c.split_at_mut-part.ensures.front_len) in
    record {
      below = omega (arith, inv.below, c.min-count.ensures);
      torn = λ h.
          let part = read_bytes g.T.TextStore inv.reads c.read_at.new.buf c.loop-at.at _ n is now.bytes h in
          inv.torn h ∙ torn_behind stored c.read_at.new.buf c.loop-at.at n c.loop-at.line (Some c.in-Some.next) part c.in-Some.ensures;
      window = omega (arith, inv.window, c.read_at.auto.buf);
      reads = read_then g.T.TextStore inv.reads now.text now.survives now.goes_on;
    }

pub returns-in_default-clause-torn : goal.returns-in_default-clause-torn
returns-in_default-clause-torn g c h =
    let inv = c.loop-at.invariant in
    let now = c.in_ok-read_at.ensures in
    let stored : List ℕ = g.T.TextStore.text c.args.store.now in
    let n : ℕ = c.min-count.result in
    let is : length c.split_at_mut-part.result.0.now ≡ n = omega (arith, c.split_at_mut-part.ensures.front_len) in
    let part = read_bytes g.T.TextStore inv.reads c.read_at.new.buf c.loop-at.at _ n is now.bytes h in
    sym (inv.torn h ∙ torn_behind stored c.read_at.new.buf c.loop-at.at n c.loop-at.line None part
    (λ rest. subst (λ o. IsTornAs o (is_torn c.loop-at.line (c.read_at.new.buf ++ rest)) rest) c.in_default.is (c.follow_zero.ensures rest)))

pub returns-clause-torn : goal.returns-clause-torn
returns-clause-torn g c h =
    let inv = c.loop-at.invariant in
    sym (inv.torn h ∙ torn_at_end (g.T.TextStore.text c.args.store.now) c.loop-at.at c.loop-at.line (omega (arith, c.requires.long h, c.loop-at-test.false)))
