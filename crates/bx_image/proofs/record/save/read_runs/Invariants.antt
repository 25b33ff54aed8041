use Rattle.std.proofs.Common.{◌≡◌, false, take}
use Rattle.bx_image.specs.Change.{HaveBytes}
use Rattle.bx_image.specs.Device.{GoesOn}
use Rattle.bx_image.specs.Power.{NoMore}
use Rattle.bx_image.specs.Runs.{AreRunsOf}
use Rattle.bx_image.specs.private.Spans.{StandOver}
use Rattle.bx_image.proofs.record.save.read_runs.Given as goal

-- the runs stand over the ranges so far, and have the image's bytes
abbrev pub invariant-loop-span : goal.invariant-loop-span
invariant-loop-span g l =
    let device = g.D.Device in
    record {
      over : StandOver (take l.span-index l.spans) l.runs.items;
      bytes : HaveBytes l.runs.items;
      runs : device.faithful l.fn.device → AreRunsOf (device.image l.fn.device) l.runs.items;
      image : device.faithful l.fn.device → device.image l.device ≡ device.image l.fn.device;
      survives : device.faithful l.fn.device → NoMore (device.survives l.fn.device) (device.survives l.device);
      goes_on : GoesOn device.faithful device.room device.failures false l.fn.device l.device;
    }
