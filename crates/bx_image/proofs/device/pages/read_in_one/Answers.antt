use Rattle.std.proofs.Common.{◌<◌, ◌/◌, length, rules}
use Rattle.bx_image.proofs.Paging.{read_at_page}
use Rattle.bx_image.proofs.device.pages.read_in_one.Goals as goal

pub returns : goal.returns
returns g c =
    let some : c.args.at / 4096 < length c.args.pages.now.items = search rules in
    read_at_page c.args.pages.now.items (λ p. p.value) c.args.at _ c.index-page.result.now _ _ c.index-page.ensures c.deref.ensures c.read_in_page.ensures some c.requires.one
