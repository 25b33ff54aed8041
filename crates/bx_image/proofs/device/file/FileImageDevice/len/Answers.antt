use Rattle.std.proofs.Common.{rules}
use Rattle.bx_image.proofs.device.file.FileImageDevice.len.Goals as goal

pub returns-clause-len : goal.returns-clause-len
returns-clause-len g c = search rules
