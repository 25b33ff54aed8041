use Rattle.std.proofs.Common.{◌≡◌, length, subst}
use Rattle.bx_image.specs.Over.{LieWithin}
use Rattle.bx_journal_protocol.proofs.Behind.{zeros_between}
use Rattle.bx_journal_protocol.proofs.before.overwritten.blocks_from.Goals as goal

pub returns-in-Ok-touched_but_zeros-clause-zeros : goal.returns-in-Ok-touched_but_zeros-clause-zeros
returns-in-Ok-touched_but_zeros-clause-zeros g c faithful =
    let x = g.D.Device.image c.args.image.now in
    let looked = c.in-Ok-touched_but_zeros.ensures in
    let blocks = c.in-Ok-touched_but_zeros.blocks.items in
    zeros_between c.args.base x blocks c.in_ok-none.none c.in_ok-none.ensures.zeros (subst (λ n. LieWithin n blocks) (c.requires.long faithful) looked.within)
    (λ change base writes. looked.zeros faithful change (record { base = base; writes = writes }))
