use Rattle.std.proofs.Common.{◌≤◌, ◌-◌}
use Rattle.bx_journal_read.specs.show.Differences.{made_line, shown_between, AreWritten}
use Rattle.bx_journal_read.specs.show.Stopping.{CountsBytes}
use Rattle.bx_journal_read.proofs.BesideLemmas.{HasStayed}
use Rattle.bx_journal_read.proofs.show.lines.put_lines.Given as goal

-- the lines up to a place were written
abbrev pub invariant-loop-at : goal.invariant-loop-at
invariant-loop-at g l = record {
  written : g.T.TextStore.faithful l.fn.store → AreWritten (made_line l.mark.len) (g.T.TextStore.text l.fn.store) l.mark.from l.at (g.W.Write.contents l.fn.out) (g.W.Write.contents l.out);
  counted : g.T.TextStore.faithful l.fn.store → CountsBytes l.fn.writing.written (shown_between (made_line l.mark.len) (g.T.TextStore.text l.fn.store) l.mark.from l.at) l.writing.written;
  behind : l.mark.from ≤ l.at;
  within : l.at ≤ l.mark.to;
  text : HasStayed g.T.TextStore.faithful g.T.TextStore.text g.T.TextStore.survives g.T.TextStore.failures l.fn.store l.store;
}

abbrev pub decreases-loop-at : goal.decreases-loop-at
decreases-loop-at g l = l.mark.to - l.at
