use Rattle.std.proofs.Common.{rules}
use Rattle.bx_image.proofs.device.fuse.FuseImageDevice.reserve.Goals as goal

pub returns-clause-ok : goal.returns-clause-ok
returns-clause-ok g c = search rules
