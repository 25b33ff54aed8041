use Rattle.std.proofs.Common.{rules}
use Rattle.bx_image.proofs.device.fuse.FuseImageDevice.write_at.Goals as goal

pub returns-in-Ok-clause-ok : goal.returns-in-Ok-clause-ok
returns-in-Ok-clause-ok g c = search rules
