use Rattle.std.proofs.Common.{◌≡◌, ◌≤◌, length, drop}
use Rattle.bx_image.specs.Cached.{IsCache}
use Rattle.bx_journal_read.specs.show.Differences.{diff_line, AreAdded}
use Rattle.bx_journal_read.proofs.BesideLemmas.{HasStayed}
use Rattle.bx_journal_read.proofs.show.differences.push_lines.Given as goal

-- the lines that were taken are added
abbrev pub invariant-loop-rest : goal.invariant-loop-rest
invariant-loop-rest g l = record {
  added : g.D.Device.faithful l.fn.device → AreAdded (diff_line (g.D.Device.image l.fn.device) l.before) l.window l.taken l.fn.text.items l.text.items;
  cache : IsCache (g.D.Device.faithful l.fn.device) (g.D.Device.image l.fn.device) l.page l.now;
  room : length l.page ≡ length l.fn.page;
  left : l.rest ≡ drop l.taken l.window;
  within : l.taken ≤ length l.window;
  image : HasStayed g.D.Device.faithful g.D.Device.image g.D.Device.survives g.D.Device.failures l.fn.device l.device;
}

abbrev pub decreases-loop-rest : goal.decreases-loop-rest
decreases-loop-rest g l = length l.rest
