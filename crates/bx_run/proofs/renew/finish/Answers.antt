use Rattle.std.proofs.Common.{◌∙◌, sym, ap, subst}
use Rattle.bx_world.specs.World.{SystemState, number_if}
use Rattle.bx_world.specs.files.Files.{LeavesFiles}
use Rattle.bx_run.specs.renew.Renewal.{ClearsImage}
use Rattle.bx_run.proofs.Cleared.{ended_note}
use Rattle.bx_run.proofs.renew.finish.Goals as goal

pub clear_image-requires-clause-made : goal.clear_image-requires-clause-made
clear_image-requires-clause-made g c mid =
    let old = c.take_note.ensures.faith.0 mid in
    rw (c.take_note.ensures.same old) (c.requires.made old)

pub clear_image-requires-clause-named : goal.clear_image-requires-clause-named
clear_image-requires-clause-named g c mid =
    let old = c.take_note.ensures.faith.0 mid in
    rw (c.take_note.ensures.same old) (c.requires.named old)

pub returns-clause-clears : goal.returns-clause-clears
returns-clause-clears g c old =
    let mid = c.take_note.ensures.faith.1 old in
    rw (c.take_note.ensures.same old) at (c.clear_image.ensures.clears mid)

pub returns-clause-left : goal.returns-clause-left
returns-clause-left g c old refused first begun within makes files =
    let mid = c.take_note.ensures.faith.1 old in
    c.clear_image.ensures.left mid refused first begun within makes (rw (c.take_note.ensures.same old) files)

pub returns-clause-note : goal.returns-clause-note
returns-clause-note g c old =
    let mid = c.take_note.ensures.faith.1 old in
    ended_note c.args.renewed.now c.is_refused_behind-is_behind.result _ _ _ _ _ _ c.is_refused_behind-is_behind.ensures.0
    c.is_refused_behind-is_behind.ensures.1 (sym (c.clear_image.ensures.counted mid)) (c.clear_image.ensures.note mid)
    (c.take_note.ensures.dropped old) (λ is. ap g.W.World.note (c.take_note.ensures.stays is))
