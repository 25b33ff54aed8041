use Rattle.std.proofs.Common.{◌≡◌, ◌↔◌, ◌≤◌, ◌-◌, length, take, drop}
use Rattle.bx_image.proofs.device.file.read_full.Given as goal
use Rattle.bx_image.specs.Power.{NoMore}

-- a front was read
abbrev pub invariant-loop-done : goal.invariant-loop-done
invariant-loop-done g l = record {
  within : l.done ≤ length l.buf;
  bytes : g.F.RandomAccess.faithful l.initial.file → take l.done l.buf ≡ take l.done (drop l.at (g.F.RandomAccess.content l.initial.file));
  content : g.F.RandomAccess.faithful l.initial.file → g.F.RandomAccess.content l.file ≡ g.F.RandomAccess.content l.initial.file;
  survives : g.F.RandomAccess.faithful l.initial.file → NoMore (g.F.RandomAccess.survives l.initial.file) (g.F.RandomAccess.survives l.file);
  faith : g.F.RandomAccess.faithful l.file ↔ g.F.RandomAccess.faithful l.initial.file;
}

abbrev pub decreases-loop-done : goal.decreases-loop-done
decreases-loop-done g l = length l.buf - l.done
