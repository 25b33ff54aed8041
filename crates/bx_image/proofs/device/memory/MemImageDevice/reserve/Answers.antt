use Rattle.std.proofs.Common.{rules}
use Rattle.bx_image.proofs.device.memory.MemImageDevice.reserve.Goals as goal

pub returns-in_ok-map_err-clause-ok : goal.returns-in_ok-map_err-clause-ok
returns-in_ok-map_err-clause-ok g c = search rules
