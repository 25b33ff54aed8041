use Rattle.std.proofs.Common.{rules}
use Rattle.bx_image.proofs.device.fuse.FuseImageDevice.set_len.Goals as goal

pub returns-in-Ok-clause-ok : goal.returns-in-Ok-clause-ok
returns-in-Ok-clause-ok g c = search rules

pub returns-clause-failed : goal.returns-clause-failed
returns-clause-failed g c = search rules
