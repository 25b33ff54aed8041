use Rattle.std.proofs.Common.{◌≡◌, subst, sym}
use Rattle.bx_journal_protocol.specs.before.Overwritten.{HasZerosBut}
use Rattle.bx_journal_protocol.proofs.Lacking.{fails_alike, lacks_before, takes_behind}
use Rattle.bx_journal_protocol.proofs.before.overwritten.overwritten_from.Goals as goal

pub returns-clause-overwritten : goal.returns-clause-overwritten
returns-clause-overwritten g c faithful =
    let x = g.D.Device.image c.args.image.now in
    let base = c.least_of-base.result in
    c.all_overwritten.ensures.overwritten base x c.least_of-base.ensures.least (sym (c.requires.long faithful)) (subst (HasZerosBut base x) (sym c.as_slice.ensures.value) (c.in_ok-blocks.ensures.zeros faithful))

pub returns-clause-looks : goal.returns-clause-looks
returns-clause-looks g c = takes_behind _ _ _ c.args.image.now c.blocks_from.new.image c.in_ok-blocks.blocks c.in_ok-blocks.ensures.looks c.all_overwritten.result c.all_overwritten.ensures.kind

-- what the `?` hand on
pub returns-in_err-clone-clause-looks : goal.returns-in_err-clone-clause-looks
returns-in_err-clone-clause-looks g c = lacks_before _ _ _ c.args.image.now c.from_residual.result c.from_residual.ensures.1

pub returns-in_err-blocks-clause-looks : goal.returns-in_err-blocks-clause-looks
returns-in_err-blocks-clause-looks g c =
    fails_alike _ _ _ c.args.image.now c.blocks_from.new.image _ c.in_err-blocks.ensures.looks c.from_residual-in_err-blocks.result c.from_residual-in_err-blocks.ensures.1
