use Rattle.std.proofs.Common.{◌≡◌, ◌↔◌, ◌≤◌, length, min}
use Rattle.bx_image.specs.Power.{Follows, KeepsBelow, FadesFrom}
use Rattle.bx_image.proofs.device.file.resize_to.Given as goal

-- interruptions change nothing
abbrev pub invariant-loop : goal.invariant-loop
invariant-loop g l = record {
  content : g.F.RandomAccess.faithful l.initial.file → g.F.RandomAccess.content l.file ≡ g.F.RandomAccess.content l.initial.file;
  survives : g.F.RandomAccess.faithful l.initial.file → Follows (KeepsBelow (min l.n (length (g.F.RandomAccess.content l.initial.file)))) (g.F.RandomAccess.survives l.initial.file) (g.F.RandomAccess.survives l.file);
  fades : g.F.RandomAccess.faithful l.initial.file → l.n ≤ length (g.F.RandomAccess.content l.initial.file) → FadesFrom l.n (g.F.RandomAccess.survives l.initial.file) (g.F.RandomAccess.survives l.file);
  faith : g.F.RandomAccess.faithful l.file ↔ g.F.RandomAccess.faithful l.initial.file;
}
