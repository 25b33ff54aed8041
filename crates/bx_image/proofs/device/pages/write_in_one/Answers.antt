use Rattle.std.proofs.Common.{◌≡◌, ◌<◌, ◌/◌, length, rules}
use Rattle.bx_image.proofs.Paging.{written_at}
use Rattle.bx_image.proofs.device.pages.write_in_one.Goals as goal

pub returns-clause-bytes : goal.returns-clause-bytes
returns-clause-bytes g c =
    let len : length c.write_part.new.pages.items ≡ length c.args.pages.now.items = search rules in
    let some : c.args.at / 4096 < length c.args.pages.now.items = search rules in
    written_at _ _ (λ p. p.value) c.args.at c.args.bytes.now len some c.requires.one c.write_part.ensures.size c.write_part.ensures.others c.write_part.ensures.page
