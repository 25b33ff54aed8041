use Rattle.std.proofs.Common.{rules}
use Rattle.bx_image.proofs.device.pages.PagedImageDevice.reserve.Goals as goal

pub invariant_of-self : goal.invariant_of-self
invariant_of-self g c = search rules

pub returns-then-is_err-clause-err : goal.returns-then-is_err-clause-err
returns-then-is_err-clause-err g c = search rules

pub returns-then-is_err-clause-image : goal.returns-then-is_err-clause-image
returns-then-is_err-clause-image g c = search rules
