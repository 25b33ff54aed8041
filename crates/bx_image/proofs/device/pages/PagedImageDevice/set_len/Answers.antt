use Rattle.bx_image.proofs.Paging.{image_resized}
use Rattle.bx_image.proofs.Survivors.{Follows_cut}
use Rattle.bx_image.proofs.device.pages.PagedImageDevice.set_len.Goals as goal

pub returns-clause-ok : goal.returns-clause-ok
returns-clause-ok g c _ =
    image_resized c.args.self.now.len c.args.n c.max.result _ _ c.max.ensures c.args.self.now.zeros c.clear.ensures.bytes

pub returns-clause-survives : goal.returns-clause-survives
returns-clause-survives g c _ = Follows_cut _ _ c.args.n (returns-clause-ok g c tt)
