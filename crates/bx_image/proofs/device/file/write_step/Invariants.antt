use Rattle.std.proofs.Common.{◌≡◌, ◌↔◌, length}
use Rattle.bx_image.specs.Power.{Follows, KeepsOutside, FadesBehind}
use Rattle.bx_image.proofs.device.file.write_step.Given as goal

-- interruptions change nothing
abbrev pub invariant-loop : goal.invariant-loop
invariant-loop g l = record {
  content : g.F.RandomAccess.faithful l.initial.file → g.F.RandomAccess.content l.file ≡ g.F.RandomAccess.content l.initial.file;
  survives : g.F.RandomAccess.faithful l.initial.file → Follows (KeepsOutside l.at (length l.bytes)) (g.F.RandomAccess.survives l.initial.file) (g.F.RandomAccess.survives l.file);
  fades : g.F.RandomAccess.faithful l.initial.file → l.at ≡ length (g.F.RandomAccess.content l.initial.file)
      → FadesBehind (g.F.RandomAccess.content l.initial.file) l.bytes (g.F.RandomAccess.survives l.initial.file) (g.F.RandomAccess.survives l.file);
  faith : g.F.RandomAccess.faithful l.file ↔ g.F.RandomAccess.faithful l.initial.file;
}
