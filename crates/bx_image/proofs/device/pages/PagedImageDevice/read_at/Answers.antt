use Rattle.std.proofs.Common.{length, arith}
use Rattle.bx_image.proofs.Images.{length-image_of}
use Rattle.bx_image.specs.Pages.{byte_at}
use Rattle.bx_image.proofs.Paging.{image_read}
use Rattle.bx_image.proofs.device.pages.PagedImageDevice.read_at.Goals as goal

pub read_from-requires-clause-range : goal.read_from-requires-clause-range
read_from-requires-clause-range g c =
    let self = c.args.self.now in
    omega (arith, c.requires.range tt, self.within, length-image_of self.len (byte_at self.pages.items (λ p. p.value)))

pub read_from-requires-clause-small : goal.read_from-requires-clause-small
read_from-requires-clause-small g c =
    let self = c.args.self.now in
    omega (arith, c.requires.range tt, self.within, self.small, length-image_of self.len (byte_at self.pages.items (λ p. p.value)))

pub returns-clause-bytes : goal.returns-clause-bytes
returns-clause-bytes g c _ =
    let self = c.args.self.now in
    image_read self.len c.args.at (length c.args.buf.now) _ _ (omega (arith, c.requires.range tt, length-image_of self.len (byte_at self.pages.items (λ p. p.value)))) c.read_from.auto.buf c.read_from.ensures
