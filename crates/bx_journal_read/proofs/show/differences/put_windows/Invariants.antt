use Rattle.std.proofs.Common.{◌≡◌, ◌-◌, ◌≤◌, length}
use Rattle.bx_image.specs.Cached.{IsCache}
use Rattle.bx_journal_read.specs.show.Differences.{diff_line, shown_between, AreWritten}
use Rattle.bx_journal_read.specs.show.Stopping.{CountsBytes}
use Rattle.bx_journal_read.proofs.BesideLemmas.{HasStayed}
use Rattle.bx_journal_read.proofs.show.differences.put_windows.Given as goal

-- the lines up to a place are written beside the image
abbrev pub invariant-loop-done : goal.invariant-loop-done
invariant-loop-done g l = record {
  written : g.D.Device.faithful l.fn.device → g.T.TextStore.faithful l.fn.store → AreWritten (diff_line (g.D.Device.image l.fn.device) l.from.mark.len)
      (g.T.TextStore.text l.fn.store) l.fn.from.done.at l.done.at (g.W.Write.contents l.fn.out) (g.W.Write.contents l.out);
  counted : g.D.Device.faithful l.fn.device → g.T.TextStore.faithful l.fn.store → CountsBytes l.fn.writing.written
      (shown_between (diff_line (g.D.Device.image l.fn.device) l.from.mark.len) (g.T.TextStore.text l.fn.store) l.fn.from.done.at l.done.at) l.writing.written;
  cache : IsCache (g.D.Device.faithful l.fn.device) (g.D.Device.image l.fn.device) l.page l.done.cached;
  room : length l.page ≡ length l.fn.page;
  behind : l.fn.from.done.at ≤ l.done.at;
  within : l.done.at ≤ l.from.mark.to;
  image : HasStayed g.D.Device.faithful g.D.Device.image g.D.Device.survives g.D.Device.failures l.fn.device l.device;
  text : HasStayed g.T.TextStore.faithful g.T.TextStore.text g.T.TextStore.survives g.T.TextStore.failures l.fn.store l.store;
}

abbrev pub decreases-loop-done : goal.decreases-loop-done
decreases-loop-done g l = l.from.mark.to - l.done.at
