use Rattle.std.proofs.Common.{◌≡◌, drop, map, false}
use Rattle.bx_image.specs.Change.{placed, KeepsUnmapped}
use Rattle.bx_image.specs.Device.{GoesOn}
use Rattle.bx_image.specs.Power.{Follows}
use Rattle.bx_journal_format.specs.Kept.{Kept}
use Rattle.bx_journal_format.specs.count.Parts.{part_run}
use Rattle.bx_journal_model.specs.Restoring.{AreNamed}
use Rattle.bx_journal_protocol.proofs.protocol.restore.restore_parts.Given as goal

-- the parts before this one are written
abbrev pub invariant-loop-part : goal.invariant-loop-part
invariant-loop-part g l =
    let device = g.D.Device in
    record {
      ok : device.faithful l.fn.image → placed (drop l.part-index (map (part_run l.window) l.parts)) (device.image l.image) ≡ placed (map (part_run l.window) l.parts) (device.image l.fn.image);
      keeps : device.faithful l.fn.image → (r : Kept) → AreNamed r (map (part_run l.window) l.parts) → KeepsUnmapped r (device.image l.fn.image) (device.image l.image);
      survives : device.faithful l.fn.image → (r : Kept) → AreNamed r (map (part_run l.window) l.parts) → Follows (KeepsUnmapped r) (device.survives l.fn.image) (device.survives l.image);
      goes_on : GoesOn device.faithful device.room device.failures false l.fn.image l.image;
    }
