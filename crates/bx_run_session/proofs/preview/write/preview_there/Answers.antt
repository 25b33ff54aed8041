use Rattle.std.proofs.Common.{arith, ◌<◌, ◌∙◌, sym, refl}
use Rattle.bx_run_session.specs.Edit.{asked}
use Rattle.bx_run_session.proofs.Previewing.{named}
use Rattle.bx_run_session.proofs.preview.write.preview_there.Goals as goal

pub returns-clause-previews : goal.returns-clause-previews
returns-clause-previews g c faithful =
    let bytes = c.in-Ok.ensures.bytes faithful in
    let new_is = c.in-Ok.ensures.faithful faithful in
    let counted = g.W.World.refusals c.args.world.now < g.W.World.refusals c.close_pair.new.world in
    named g.R.Read.remaining c.args.name.now (asked c.args.edit) counted (g.W.World.state c.args.world.now) (g.W.Image.Device.image c.in-Ok.pair.image) c.is_block.result
    (c.requires.may faithful) (rw (c.is_block.ensures, c.requires.found faithful) refl) bytes.0 _ _ c.preview_pair-pair.result.1
    (c.preview_pair-pair.ensures.previews new_is.0 new_is.1 (bytes.1 ∙ sym bytes.0))

pub returns-clause-failed : goal.returns-clause-failed
returns-clause-failed g c old is =
    let lent = c.lend_pair.ensures.faith.1 old in
    let new_is = c.in-Ok.ensures.faithful old in
    let some = c.preview_pair-pair.ensures.failed new_is.0 new_is.1 is in
    let calm = c.in-Ok.ensures.calm old in
    let closed = c.close_pair.ensures.counted lent in
    omega (arith, some, calm, closed)
