use Rattle.std.proofs.Common.{rules}
use Rattle.bx_image.proofs.device.fuse.FuseImage.into_inner.Goals as goal

pub returns-clause-within : goal.returns-clause-within
returns-clause-within g c = search rules

pub returns-clause-image : goal.returns-clause-image
returns-clause-image g c = search rules

pub returns-clause-room : goal.returns-clause-room
returns-clause-room g c = search rules
