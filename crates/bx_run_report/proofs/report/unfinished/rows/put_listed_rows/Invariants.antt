use Rattle.std.proofs.Common.{◌≡◌, take}
use Rattle.std.specs.Prelude.{◌↔◌}
use Rattle.std.specs.Io.KnownBytes.{Appends}
use Rattle.bx_journal_read.specs.show.Stopping.{CountsBytes}
use Rattle.bx_run_report.specs.report.Unfinished.{rows_at}
use Rattle.bx_run_report.proofs.report.unfinished.rows.put_listed_rows.Given as goal

-- the rows of the marks so far were written
abbrev pub invariant-loop-i : goal.invariant-loop-i
invariant-loop-i g l = record {
  rows : g.T.TextStore.faithful l.fn.journal → Appends (g.O.Write.contents l.fn.out) (g.O.Write.contents l.out) (rows_at l.fn.verbose (g.T.TextStore.text l.fn.journal) 1 (take l.i l.marks));
  counted : g.T.TextStore.faithful l.fn.journal → CountsBytes l.fn.before (rows_at l.fn.verbose (g.T.TextStore.text l.fn.journal) 1 (take l.i l.marks)) l.written;
  text : g.T.TextStore.faithful l.fn.journal → g.T.TextStore.text l.journal ≡ g.T.TextStore.text l.fn.journal;
  faith : g.T.TextStore.faithful l.journal ↔ g.T.TextStore.faithful l.fn.journal;
  failures : g.T.TextStore.failures l.journal ≡ g.T.TextStore.failures l.fn.journal;
}
