use Rattle.std.proofs.Common.{◌<◌, ◌∙◌, [], false, refl}
use Rattle.bx_run_session.specs.Edit.{asked}
use Rattle.bx_run_session.proofs.Previewing.{held_none, may_none, named}
use Rattle.bx_run_session.proofs.preview.write.write_preview.Goals as goal

pub returns-in-Ok-None-clause-previews : goal.returns-in-Ok-None-clause-previews
returns-in-Ok-None-clause-previews g c faithful =
    let w = g.W.World.state c.args.world.now in
    let name = c.args.name.now in
    let missing = c.in-Ok-None.ensures.found faithful ∙ c.in-Ok-None.field-0-is in
    let counted = g.W.World.refusals c.args.world.now < g.W.World.refusals c.look_if_there.new.world in
    named g.R.Read.remaining name (asked c.args.edit) counted w [] false (may_none w name missing) (rw missing refl) (held_none w name missing) _ _
    c.preview_missing.result c.preview_missing.ensures.previews
