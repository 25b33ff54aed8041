use Rattle.std.proofs.Common.{◌≡◌, ◌↔◌, ◌≤◌, ◌-◌, length, take}
use Rattle.bx_image.specs.Image.{place}
use Rattle.bx_image.specs.Power.{Follows, KeepsOutside, FadesBehind}
use Rattle.bx_image.proofs.device.file.write_full.Given as goal

-- a front was written
abbrev pub invariant-loop-done : goal.invariant-loop-done
invariant-loop-done g l = record {
  within : l.done ≤ length l.bytes;
  content : g.F.RandomAccess.faithful l.initial.file → g.F.RandomAccess.content l.file ≡ place (g.F.RandomAccess.content l.initial.file) l.at (take l.done l.bytes);
  survives : g.F.RandomAccess.faithful l.initial.file → Follows (KeepsOutside l.at (length l.bytes)) (g.F.RandomAccess.survives l.initial.file) (g.F.RandomAccess.survives l.file);
  fades : g.F.RandomAccess.faithful l.initial.file → l.at ≡ length (g.F.RandomAccess.content l.initial.file)
      → FadesBehind (g.F.RandomAccess.content l.initial.file) l.bytes (g.F.RandomAccess.survives l.initial.file) (g.F.RandomAccess.survives l.file);
  faith : g.F.RandomAccess.faithful l.file ↔ g.F.RandomAccess.faithful l.initial.file;
}

abbrev pub decreases-loop-done : goal.decreases-loop-done
decreases-loop-done g l = length l.bytes - l.done
