use Rattle.std.proofs.Common.{◌≡◌, false, take}
use Rattle.bx_image.specs.Change.{HaveBytes}
use Rattle.bx_image.specs.Device.{GoesOn}
use Rattle.bx_image.specs.Power.{NoMore}
use Rattle.bx_image.specs.Runs.{AreRunsOf, HaveShape}
use Rattle.bx_image.proofs.record.fill.fill_runs.Given as goal

-- the runs so far have the image's bytes
abbrev pub invariant-loop-run : goal.invariant-loop-run
invariant-loop-run g l =
    let device = g.D.Device in
    record {
      shape : HaveShape l.fn.runs l.runs;
      bytes : HaveBytes (take l.run-index l.runs);
      read : device.faithful l.fn.device → AreRunsOf (device.image l.fn.device) (take l.run-index l.runs);
      image : device.faithful l.fn.device → device.image l.device ≡ device.image l.fn.device;
      survives : device.faithful l.fn.device → NoMore (device.survives l.fn.device) (device.survives l.device);
      goes_on : GoesOn device.faithful device.room device.failures false l.fn.device l.device;
    }
