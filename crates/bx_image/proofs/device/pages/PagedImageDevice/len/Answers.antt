use Rattle.std.proofs.Common.{sym}
use Rattle.bx_image.proofs.Images.{length-image_of}
use Rattle.bx_image.proofs.device.pages.PagedImageDevice.len.Goals as goal

pub returns-clause-len : goal.returns-clause-len
returns-clause-len g c _ = sym (length-image_of _ _)
