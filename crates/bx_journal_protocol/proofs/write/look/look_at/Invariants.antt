use Rattle.std.proofs.Common.{◌≡◌, length, take, false}
use Rattle.bx_image.specs.Change.{HaveBytes}
use Rattle.bx_image.specs.Device.{GoesOn}
use Rattle.bx_image.specs.Power.{NoMore}
use Rattle.bx_journal_protocol.specs.write.Ranges.{kept_over}
use Rattle.bx_journal_protocol.proofs.write.look.look_at.Given as goal

-- the bytes in the first ranges were read
abbrev pub invariant-loop-range : goal.invariant-loop-range
invariant-loop-range g l =
    let device = g.D.Device in
    record {
      bytes : device.faithful l.fn.image → HaveBytes (kept_over (device.image l.fn.image) (take l.range-index l.ranges)).runs;
      window : length l.window ≡ length l.fn.window;
      image : device.faithful l.fn.image → device.image l.image ≡ device.image l.fn.image;
      survives : device.faithful l.fn.image → NoMore (device.survives l.fn.image) (device.survives l.image);
      goes_on : GoesOn device.faithful device.room device.failures false l.fn.image l.image;
    }
