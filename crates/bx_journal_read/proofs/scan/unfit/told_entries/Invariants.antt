use Rattle.std.proofs.Common.{◌≡◌, ◌-◌, ◌≤◌, length, false}
use Rattle.bx_journal_model.specs.Looking.{OnlyReadsText}
use Rattle.bx_journal_read.proofs.scan.unfit.told_entries.Given as goal

-- the number that is looked for lies between the two
abbrev pub invariant-loop-told : goal.invariant-loop-told
invariant-loop-told g l =
    let T = g.T.TextStore in
    record {
      below : l.told ≤ l.most;
      within : l.most ≤ l.count;
      window : length l.window ≡ length l.fn.window;
      reads : OnlyReadsText T false l.fn.store l.store;
    }

abbrev pub decreases-loop-told : goal.decreases-loop-told
decreases-loop-told g l = l.most - l.told
