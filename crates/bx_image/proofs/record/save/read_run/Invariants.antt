use Rattle.std.proofs.Common.{◌≡◌, ◌≤◌, ◌-◌, false, take, drop}
use Rattle.std.specs.Prelude.{vec_len}
use Rattle.bx_image.specs.Device.{GoesOn}
use Rattle.bx_image.specs.Power.{NoMore}
use Rattle.bx_image.proofs.record.save.read_run.Given as goal

-- a front was read
abbrev pub invariant-loop-bytes : goal.invariant-loop-bytes
invariant-loop-bytes g l =
    let device = g.D.Device in
    record {
      within : vec_len l.bytes ≤ l.len;
      bytes : device.faithful l.fn.device → l.bytes.items ≡ take (vec_len l.bytes) (drop l.at (device.image l.fn.device));
      image : device.faithful l.fn.device → device.image l.device ≡ device.image l.fn.device;
      survives : device.faithful l.fn.device → NoMore (device.survives l.fn.device) (device.survives l.device);
      goes_on : GoesOn device.faithful device.room device.failures false l.fn.device l.device;
    }

abbrev pub decreases-loop-bytes : goal.decreases-loop-bytes
decreases-loop-bytes g l = l.len - vec_len l.bytes
