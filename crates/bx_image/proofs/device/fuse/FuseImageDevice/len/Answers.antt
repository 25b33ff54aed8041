use Rattle.std.proofs.Common.{rules}
use Rattle.bx_image.proofs.device.fuse.FuseImageDevice.len.Goals as goal

pub returns-in-Ok-clause-len : goal.returns-in-Ok-clause-len
returns-in-Ok-clause-len g c = search rules
