use Rattle.std.proofs.Common.{◌≡◌, ◌<◌, ◌≤◌, ◌-◌, ◌||◌, ℕ, false, length}
use Rattle.bx_image.specs.Device.{GoesOn}
use Rattle.bx_image.specs.Over.{LieWithin}
use Rattle.bx_image.specs.Power.{NoMore}
use Rattle.bx_image.specs.private.Spans.{are_over, is_between, HasAllButZero}
use Rattle.bx_image.proofs.record.zeros.push_blocks.Given as goal

-- the ranges so far, and one that isn't ended, have what stands up to an address
abbrev pub invariant-loop-at : goal.invariant-loop-at
invariant-loop-at g l =
    let device = g.D.Device in
    record {
      over : device.faithful l.fn.device → (i : ℕ)
          → HasAllButZero (device.image l.fn.device) l.fn.base l.at i (are_over l.fn.spans.items i) (are_over l.spans.items i || is_between l.from l.at i);
      within : LieWithin l.fn.len l.spans.items;
      order : l.from ≤ l.at;
      begun : l.fn.base ≤ l.at;
      short : l.from < l.at → l.at ≤ l.fn.len;
      most : l.fn.base < l.at → l.at ≤ l.fn.len;
      window : 4096 ≤ length l.window;
      image : device.faithful l.fn.device → device.image l.device ≡ device.image l.fn.device;
      survives : device.faithful l.fn.device → NoMore (device.survives l.fn.device) (device.survives l.device);
      goes_on : GoesOn device.faithful device.room device.failures false l.fn.device l.device;
    }

abbrev pub decreases-loop-at : goal.decreases-loop-at
decreases-loop-at g l = l.len - l.at
