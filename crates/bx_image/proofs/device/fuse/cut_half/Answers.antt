use Rattle.std.proofs.Common.{arith, ◌≡◌, refl, length}
use Rattle.bx_image.proofs.Devices.{IsPartlyCut_either}
use Rattle.bx_image.proofs.device.fuse.cut_half.Goals as goal

pub returns-clause-cut : goal.returns-clause-cut
returns-clause-cut g c faithful =
    let len = c.in_ok-len.ensures in
    let same = len.image faithful in
    let still = len.goes_on.faith.1 faithful in
    let is : length (g.D.Device.image c.len.new.self) ≡ c.in_ok-len.len = rw (same, len.len faithful) refl in
    rw (← same) (IsPartlyCut_either c.set_len.result c.min-target.result c.args.n _ _
    (omega (arith, is, len.goes_on.no_less_room)) (omega (arith, is, len.goes_on.no_less_room))
    (c.set_len.ensures.ok still) (c.set_len.ensures.failed still))
