use Rattle.std.proofs.Common.{rules}
use Rattle.bx_image.proofs.device.memory.MemImageDevice.faults.Goals as goal

pub returns : goal.returns
returns g c = search rules
