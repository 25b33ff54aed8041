use Rattle.std.proofs.Common.{◌≡◌, ◌↔◌}
use Rattle.bx_image.proofs.device.file.sync_full.Given as goal
use Rattle.bx_image.specs.Power.{NoMore}

-- interruptions change nothing
abbrev pub invariant-loop : goal.invariant-loop
invariant-loop g l = record {
  content : g.F.RandomAccess.faithful l.initial.file → g.F.RandomAccess.content l.file ≡ g.F.RandomAccess.content l.initial.file;
  survives : g.F.RandomAccess.faithful l.initial.file → NoMore (g.F.RandomAccess.survives l.initial.file) (g.F.RandomAccess.survives l.file);
  faith : g.F.RandomAccess.faithful l.file ↔ g.F.RandomAccess.faithful l.initial.file;
}
