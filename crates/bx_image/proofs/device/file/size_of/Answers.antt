use Rattle.std.proofs.Common.{rules}
use Rattle.bx_image.proofs.device.file.size_of.Goals as goal

pub returns-in-Ok-clause-size : goal.returns-in-Ok-clause-size
returns-in-Ok-clause-size g c = search rules
