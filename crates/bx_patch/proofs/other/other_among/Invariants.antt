use Rattle.std.proofs.Common.{◌≡◌, ℕ, false, Option, length, drop}
use Rattle.bx_image.specs.Cached.{IsCache}
use Rattle.bx_read.specs.Text.{contents}
use Rattle.bx_patch.specs.Diff.{OnlyReads}
use Rattle.bx_patch.specs.private.Other.{FindsAmong}
use Rattle.bx_patch.proofs.other.other_among.Given as goal

abbrev pub invariant-loop-i : goal.invariant-loop-i
invariant-loop-i g l = record {
  leads : g.D.Device.faithful l.fn.device → (a : Option ℕ) → FindsAmong (g.D.Device.image l.fn.device) (contents (drop l.i l.pieces)) a
      → FindsAmong (g.D.Device.image l.fn.device) (contents l.pieces) a;
  cache : IsCache (g.D.Device.faithful l.fn.device) (g.D.Device.image l.fn.device) l.page l.kept;
  room : length l.page ≡ 4096;
  reads : OnlyReads g.D.Device.faithful g.D.Device.image g.D.Device.room g.D.Device.failures g.D.Device.survives false l.fn.device l.device;
}
