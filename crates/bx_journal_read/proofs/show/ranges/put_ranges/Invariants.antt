use Rattle.std.proofs.Common.{◌+◌, ◌≤◌, ◌-◌}
use Rattle.bx_journal_read.specs.show.Showing.{ArePutTo}
use Rattle.bx_journal_read.proofs.BesideLemmas.{HasStayed}
use Rattle.bx_journal_read.proofs.show.ranges.put_ranges.Given as goal

-- the ranges up to a place are put
abbrev pub invariant-loop-done : goal.invariant-loop-done
invariant-loop-done g l = record {
  put : ArePutTo (g.T.TextStore.faithful l.fn.store) (g.T.TextStore.text l.fn.store) l.mark l.written l.done (g.W.Write.contents l.fn.out) (g.W.Write.contents l.out);
  behind : l.mark.from ≤ l.done.at;
  within : l.done.at ≤ l.mark.to;
  below : l.done.ranging.at + l.done.ranging.count ≤ l.mark.len;
  text : HasStayed g.T.TextStore.faithful g.T.TextStore.text g.T.TextStore.survives g.T.TextStore.failures l.fn.store l.store;
}

abbrev pub decreases-loop-done : goal.decreases-loop-done
decreases-loop-done g l = l.mark.to - l.done.at
