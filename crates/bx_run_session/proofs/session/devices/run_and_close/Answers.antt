use Rattle.std.proofs.Common.{refl}
use Rattle.bx_cli_commands.specs.Run.{is_failure}
use Rattle.bx_run_session.proofs.Obeyed.{failed_behind, few_behind, placed_behind, stands_of, steps_of, survives_of}
use Rattle.bx_run_session.proofs.session.devices.run_and_close.Goals as goal

pub returns-clause-order : goal.returns-clause-order
returns-clause-order g c =
    let behind = c.do_task-reply.new in
    let obeys = c.do_task-reply.ensures.obeys in
    rw (c.close-image.ensures.journal, c.close-image.ensures.redo)
    (placed_behind g.D.Device g.T.TextStore c.args.session behind.session (is_failure c.do_task-reply.result) obeys.counts c.requires.fresh)

pub returns-clause-faith : goal.returns-clause-faith
returns-clause-faith g c =
    let behind = c.do_task-reply.new in
    let obeys = c.do_task-reply.ensures.obeys in
    rw (c.close-image.ensures.image, c.close-image.ensures.journal, c.close-image.ensures.redo)
    (obeys.image_faith, obeys.journal_faith, obeys.redo_faith)

pub returns-clause-does : goal.returns-clause-does
returns-clause-does g c faithful s ready undone =
    let behind = c.do_task-reply.new in
    let obeys = c.do_task-reply.ensures.obeys in
    rw (c.close-image.ensures.image, c.close-image.ensures.journal, c.close-image.ensures.redo)
    (steps_of g.D.Device g.T.TextStore g.R.Read.remaining c.args.session behind.session c.args.task c.do_task-reply.result obeys
    faithful s ready undone)

pub returns-clause-whole : goal.returns-clause-whole
returns-clause-whole g c faithful whole =
    let behind = c.do_task-reply.new in
    let obeys = c.do_task-reply.ensures.obeys in
    let same = obeys.same whole faithful.0 faithful.1 in
    rw (c.close-image.ensures.image, c.close-image.ensures.journal, c.close-image.ensures.redo)
    (rw (same.image_same, same.text_same, (obeys.redo_same faithful.2 whole).text_same) refl)

pub returns-clause-survives : goal.returns-clause-survives
returns-clause-survives g c faithful s ready undone stopped =
    let behind = c.do_task-reply.new in
    let obeys = c.do_task-reply.ensures.obeys in
    rw (c.close-image.ensures.image, c.close-image.ensures.journal, c.close-image.ensures.redo)
    (survives_of g.D.Device g.T.TextStore g.R.Read.remaining c.args.session behind.session c.args.task c.do_task-reply.result obeys
    faithful s ready undone stopped)

pub returns-clause-before : goal.returns-clause-before
returns-clause-before g c whole =
    rw (c.close-image.ensures.image, c.close-image.ensures.journal, c.close-image.ensures.redo) (c.do_task-reply.ensures.obeys.found_before whole)

pub returns-clause-stands : goal.returns-clause-stands
returns-clause-stands g c faithful unfailed s shows =
    let behind = c.do_task-reply.new in
    rw (c.close-image.ensures.image, c.close-image.ensures.journal, c.close-image.ensures.redo)
    (stands_of g.D.Device g.T.TextStore g.R.Read.remaining c.args.session behind.session c.args.task c.do_task-reply.result
    c.do_task-reply.ensures.obeys faithful unfailed s shows)

pub returns-clause-few : goal.returns-clause-few
returns-clause-few g c =
    let behind = c.do_task-reply.new in
    let obeys = c.do_task-reply.ensures.obeys in
    rw (c.close-image.ensures.image, c.close-image.ensures.journal, c.close-image.ensures.redo)
    (few_behind g.D.Device g.T.TextStore c.args.session behind.session (is_failure c.do_task-reply.result) obeys.counts c.requires.fresh)

pub returns-clause-failed : goal.returns-clause-failed
returns-clause-failed g c is =
    let behind = c.do_task-reply.new in
    let obeys = c.do_task-reply.ensures.obeys in
    rw (c.close-image.ensures.image, c.close-image.ensures.journal, c.close-image.ensures.redo)
    (failed_behind g.D.Device g.T.TextStore c.args.session behind.session (is_failure c.do_task-reply.result) obeys.counts c.requires.fresh is)
