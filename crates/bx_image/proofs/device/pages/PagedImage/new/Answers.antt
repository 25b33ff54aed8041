use Rattle.std.proofs.Common.{rules}
use Rattle.bx_image.proofs.Paging.{byte_at-none, image_none}
use Rattle.bx_image.proofs.device.pages.PagedImage.new.Goals as goal

pub invariant_of-result : goal.invariant_of-result
invariant_of-result g c = record { within = search rules; small = search rules; zeros = λ i _. byte_at-none c.new.result.items (λ p. p.value) i c.new.ensures.items }

pub returns : goal.returns
returns g c = image_none _
