use Rattle.std.proofs.Common.{◌≡◌, ◌-◌, ◌+◌, ◌<◌, ◌≤◌, ◌^◌, false, length}
use Rattle.bx_image.specs.Cached.{IsCache}
use Rattle.bx_patch.specs.Diff.{OnlyReads}
use Rattle.bx_patch.specs.Other.{HasFirstBytes}
use Rattle.bx_patch.proofs.other.piece.count_in_piece.Given as goal

abbrev pub invariant-loop-done : goal.invariant-loop-done
invariant-loop-done g l = record {
  within : l.done ≤ length l.bytes;
  below : l.at + l.done < 2 ^ 64;
  has : g.D.Device.faithful l.fn.device → HasFirstBytes (g.D.Device.image l.fn.device) (l.at, l.bytes) l.done;
  cache : IsCache (g.D.Device.faithful l.fn.device) (g.D.Device.image l.fn.device) l.page l.kept;
  room : length l.page ≡ length l.fn.page;
  reads : OnlyReads g.D.Device.faithful g.D.Device.image g.D.Device.room g.D.Device.failures g.D.Device.survives false l.fn.device l.device;
}

abbrev pub decreases-loop-done : goal.decreases-loop-done
decreases-loop-done g l = length l.bytes - l.done
