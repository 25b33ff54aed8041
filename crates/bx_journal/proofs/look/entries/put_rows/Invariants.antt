use Rattle.std.proofs.Common.{◌≡◌, take}
use Rattle.std.specs.Prelude.{◌↔◌}
use Rattle.std.specs.Io.KnownBytes.{Appends}
use Rattle.bx_image.specs.Power.{NoMore}
use Rattle.bx_journal_read.specs.show.Showing.{mark_rows}
use Rattle.bx_journal_read.specs.show.Stopping.{CountsBytes}
use Rattle.bx_journal.proofs.look.entries.put_rows.Given as goal

-- the rows of the marks so far were written
abbrev pub invariant-loop-i : goal.invariant-loop-i
invariant-loop-i g l = record {
  rows : g.T.TextStore.faithful l.fn.journal → Appends (g.W.Write.contents l.fn.out) (g.W.Write.contents l.out) (mark_rows (g.T.TextStore.text l.fn.journal) 1 (take l.i l.marks));
  counted : g.T.TextStore.faithful l.fn.journal → CountsBytes 0 (mark_rows (g.T.TextStore.text l.fn.journal) 1 (take l.i l.marks)) l.written;
  text : g.T.TextStore.faithful l.fn.journal → g.T.TextStore.text l.journal ≡ g.T.TextStore.text l.fn.journal;
  survives : g.T.TextStore.faithful l.fn.journal → NoMore (g.T.TextStore.survives l.fn.journal) (g.T.TextStore.survives l.journal);
  faith : g.T.TextStore.faithful l.journal ↔ g.T.TextStore.faithful l.fn.journal;
  failures : g.T.TextStore.failures l.journal ≡ g.T.TextStore.failures l.fn.journal;
}
