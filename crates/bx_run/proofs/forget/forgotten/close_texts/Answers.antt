use Rattle.std.proofs.Common.{◌∙◌, sym, ap, arith}
use Rattle.bx_world.specs.World.{SystemState}
use Rattle.bx_run.proofs.Emptied.{dropped_before}
use Rattle.bx_run.proofs.forget.forgotten.close_texts.Goals as goal

pub returns-clause-closed : goal.returns-clause-closed
returns-clause-closed g c old f is =
    let mid = c.take_note.ensures.faith.1 old in
    rw (c.take_note.ensures.same old) at (c.close_beside.ensures.closed mid f (c.take_note.ensures.beside old ∙ is))

pub returns-clause-texts_survive : goal.returns-clause-texts_survive
returns-clause-texts_survive g c old f is =
    let mid = c.take_note.ensures.faith.1 old in
    c.close_beside.ensures.texts_survive mid f (c.take_note.ensures.beside old ∙ is)

pub returns-clause-image_survives : goal.returns-clause-image_survives
returns-clause-image_survives g c old f is held =
    let mid = c.take_note.ensures.faith.1 old in
    c.close_beside.ensures.image_survives mid f (c.take_note.ensures.beside old ∙ is)
    (held ∙ ap (λ (w : SystemState). w.bytes f.image) (sym (c.take_note.ensures.same old)))

pub returns-clause-others : goal.returns-clause-others
returns-clause-others g c old f is n spared x left =
    let mid = c.take_note.ensures.faith.1 old in
    c.take_note.ensures.survives old n x (c.close_beside.ensures.others mid f (c.take_note.ensures.beside old ∙ is) n spared x left)

pub returns-clause-dropped : goal.returns-clause-dropped
returns-clause-dropped g c old is =
    let mid = c.take_note.ensures.faith.1 old in
    let counted = c.close_beside.ensures.counted mid in
    dropped_before _ _ _ _ _ _ (omega (arith, counted)) (c.close_beside.ensures.note mid) (c.take_note.ensures.dropped old is)

pub returns-clause-counted : goal.returns-clause-counted
returns-clause-counted g c old =
    let mid = c.take_note.ensures.faith.1 old in
    let first = c.take_note.ensures.counted old in
    let last = c.close_beside.ensures.counted mid in
    omega (arith, first, last)
