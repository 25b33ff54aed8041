use Rattle.std.proofs.Common.{◌≡◌, ◌⊎◌, ◌<◌, ◌+◌, ◌≤◌, ◌++◌, length, false}
use Rattle.std.specs.Prelude.{vec_capacity}
use Rattle.bx_image.specs.Device.{GoesOn}
use Rattle.bx_image.specs.Power.{NoMore}
use Rattle.bx_journal_protocol.specs.write.Ranges.{rest_text, rest_len, IsPlace}
use Rattle.bx_journal_protocol.proofs.write.ranges.fill_page.Given as goal

-- what was put, and what is left, are the lines
abbrev pub invariant-loop-now : goal.invariant-loop-now
invariant-loop-now g l =
    let device = g.D.Device in
    record {
      place : IsPlace l.ranges l.now;
      put : device.faithful l.fn.image → l.page.items ++ rest_text (device.image l.fn.image) l.ranges l.now ≡ l.fn.page.items ++ rest_text (device.image l.fn.image) l.ranges l.fn.place;
      long : length l.page.items + rest_len l.ranges l.now ≡ length l.fn.page.items + rest_len l.ranges l.fn.place;
      grown : ((l.now.range ≡ l.fn.place.range) × (length l.page.items ≡ length l.fn.page.items)) ⊎ (length l.fn.page.items < length l.page.items);
      room : vec_capacity l.fn.page ≤ vec_capacity l.page;
      window : length l.window ≡ length l.fn.window;
      image : device.faithful l.fn.image → device.image l.image ≡ device.image l.fn.image;
      survives : device.faithful l.fn.image → NoMore (device.survives l.fn.image) (device.survives l.image);
      goes_on : GoesOn device.faithful device.room device.failures false l.fn.image l.image;
    }

abbrev pub decreases-loop-now : goal.decreases-loop-now
decreases-loop-now g l = rest_len l.ranges l.now
