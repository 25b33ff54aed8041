use Rattle.std.proofs.Common.{◌≡◌, ◌-◌, ◌≤◌, length, take, drop, false}
use Rattle.bx_image.specs.Change.{AreBytes}
use Rattle.bx_image.specs.Device.{GoesOn}
use Rattle.bx_image.specs.Power.{NoMore}
use Rattle.bx_journal_protocol.proofs.write.look.look_range.Given as goal

-- the bytes up to here were read
abbrev pub invariant-loop-from : goal.invariant-loop-from
invariant-loop-from g l =
    let device = g.D.Device in
    record {
      order : l.at ≤ l.from;
      within : l.from ≤ l.end;
      bytes : device.faithful l.fn.image → AreBytes (take (l.from - l.at) (drop l.at (device.image l.fn.image)));
      window : length l.window ≡ length l.fn.window;
      image : device.faithful l.fn.image → device.image l.image ≡ device.image l.fn.image;
      survives : device.faithful l.fn.image → NoMore (device.survives l.fn.image) (device.survives l.image);
      goes_on : GoesOn device.faithful device.room device.failures false l.fn.image l.image;
    }

abbrev pub decreases-loop-from : goal.decreases-loop-from
decreases-loop-from g l = l.end - l.from
