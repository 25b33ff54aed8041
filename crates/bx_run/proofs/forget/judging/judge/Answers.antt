use Rattle.bx_run.proofs.Judged.{found_through, judged_bytes, looked_at}
use Rattle.bx_run.proofs.forget.judging.judge.Goals as goal

pub returns-in-Ok-clause-hides : goal.returns-in-Ok-clause-hides
returns-in-Ok-clause-hides g c x text redo note holds is =
    let now = c.in-Ok.ensures in
    c.judge_told.ensures.hides x text redo note
    (looked_at g.D.Device g.T.TextStore c.args.devices x text redo holds _ _ now.image now.journal now.image_faith.1 now.journal_faith.1) is
    (judged_bytes g.D.Device g.T.TextStore c.args.devices x text redo holds c.args.known.line c.in-Ok.found (now.judged holds.image_faithful holds.journal_faithful))

pub returns-in-Ok-clause-may : goal.returns-in-Ok-clause-may
returns-in-Ok-clause-may g c x text redo note holds is =
    let now = c.in-Ok.ensures in
    c.judge_told.ensures.may x text redo note
    (looked_at g.D.Device g.T.TextStore c.args.devices x text redo holds _ _ now.image now.journal now.image_faith.1 now.journal_faith.1) is
    (judged_bytes g.D.Device g.T.TextStore c.args.devices x text redo holds c.args.known.line c.in-Ok.found (now.judged holds.image_faithful holds.journal_faithful))

pub returns-in-Ok-clause-image : goal.returns-in-Ok-clause-image
returns-in-Ok-clause-image g c x text redo holds =
    let now = c.in-Ok.ensures in
    c.judge_told.ensures.image x text redo
    (looked_at g.D.Device g.T.TextStore c.args.devices x text redo holds _ _ now.image now.journal now.image_faith.1 now.journal_faith.1)

pub returns-in-Ok-clause-found_before : goal.returns-in-Ok-clause-found_before
returns-in-Ok-clause-found_before g c x text redo holds =
    let now = c.in-Ok.ensures in
    found_through c.judge_told.result.outcome _ _ _ (now.image_before holds.image_faithful) (c.judge_told.ensures.found_before x text redo
    (looked_at g.D.Device g.T.TextStore c.args.devices x text redo holds _ _ now.image now.journal now.image_faith.1 now.journal_faith.1))
