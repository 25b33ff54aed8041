use Rattle.std.proofs.Common.{rules}
use Rattle.bx_image.proofs.device.memory.MemImage.as_slice.Goals as goal

pub returns : goal.returns
returns g c = search rules
