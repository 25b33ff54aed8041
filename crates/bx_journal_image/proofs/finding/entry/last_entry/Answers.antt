use Rattle.std.proofs.Common.{◌≡◌, ◌+◌, ◌-◌, ◌≤◌, ℕ, arith, length}
use Rattle.bx_journal_model.proofs.TextReads.{read_bytes, read_then}
use Rattle.bx_journal_image.specs.Entry.{BeginsBehind}
use Rattle.bx_journal_image.proofs.EntryLemmas.{last_in, none_at, none_in}
use Rattle.bx_journal_image.proofs.finding.entry.last_entry.Goals as goal

pub returns-in-Some-clause-entry : goal.returns-in-Some-clause-entry
returns-in-Some-clause-entry g c = λ h.
    let inv = c.loop-end.invariant in
    let n : ℕ = c.min-size.result in
    let from : ℕ = c.loop-end.end - n in
    let text = g.T.TextStore.text c.args.store.now in
    let is : length c.split_at_mut-now.result.0.now ≡ n = omega (arith, c.split_at_mut-now.ensures.front_len) in
    let sum : from + n ≡ c.loop-end.end = omega (arith, c.min-size.ensures) in
    let none : (k : ℕ) → BeginsBehind text k → k + 7 ≤ from + n = λ k there. omega (arith, sum, inv.none h k there) in
    last_in text c.read_at.new.buf from n (read_bytes g.T.TextStore inv.reads c.read_at.new.buf from _ n is c.in_ok-read_at.ensures.bytes h)
    (omega (arith, sum, inv.below, c.requires.long h)) none c.in-Some.i c.in-Some.ensures.0 c.in-Some.ensures.1

pub loop-end-preserved : goal.loop-end-preserved
loop-end-preserved g c =
    let inv = c.loop-end.invariant in
    let now = c.in_ok-read_at.ensures in
    let n : ℕ = c.min-size.result in
    let from : ℕ = c.loop-end.end - n in
    let text = g.T.TextStore.text c.args.store.now in
    let is : length c.split_at_mut-now.result.0.now ≡ n = omega (arith, c.split_at_mut-now.ensures.front_len) in
    let sum : from + n ≡ c.loop-end.end = omega (arith, c.min-size.ensures) in
    record {
      below = omega (arith, sum, inv.below, inv.window, c.min-size.ensures, c.loop-end-test.true);
      none = λ h k there.
          let none : (j : ℕ) → BeginsBehind text j → j + 7 ≤ from + n = λ j begins. omega (arith, sum, inv.none h j begins) in
          let before = none_in text c.read_at.new.buf from n (read_bytes g.T.TextStore inv.reads c.read_at.new.buf from _ n is now.bytes h)
          (omega (arith, sum, inv.below, c.requires.long h)) none c.in_default.ensures k there in
          omega (arith, before);
      window = omega (arith, inv.window, c.read_at.auto.buf);
      reads = read_then g.T.TextStore inv.reads now.text now.survives now.goes_on;
    }

pub returns-clause-entry : goal.returns-clause-entry
returns-clause-entry g c = λ h. none_at (g.T.TextStore.text c.args.store.now) c.loop-end.end (c.loop-end.invariant.none h) (omega (arith, c.loop-end-test.false))
