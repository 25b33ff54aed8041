use Rattle.std.proofs.Common.{rules}
use Rattle.bx_image.proofs.device.file.FileImage.new.Goals as goal

pub returns-clause-failures : goal.returns-clause-failures
returns-clause-failures g c = search rules
