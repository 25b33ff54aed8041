use Rattle.std.proofs.Common.{refl, inl, inr}
use Rattle.bx_journal.specs.SessionView.{devices_of}
use Rattle.bx_journal.specs.Redo.{recovered_as}
use Rattle.bx_run_session.specs.session.Contents.{AreFaithful, StepsRead, held_by}
use Rattle.bx_run_session.proofs.Obeyed.{failed_refused, few_refused, placed_refused}
use Rattle.bx_run_session.proofs.Opened.{read_opened, spared_opened, spares_opened, tells_opened}
use Rattle.bx_run_session.proofs.Refused.{spared, spared_whole, stopped_amid}
use Rattle.bx_run_session.proofs.session.devices.open_and_run.Goals as goal

pub returns-in-Ok-clause-does : goal.returns-in-Ok-clause-does
returns-in-Ok-clause-does g c faithful s holds =
    let opened = c.in-Ok.ensures.reopens faithful.0 faithful.1 faithful.2 s holds in
    let counts = c.in-Ok.ensures.devices in
    inr (c.run_and_close.ensures.does (counts.image_faith.1 faithful.0, counts.journal_faith.1 faithful.1, counts.redo_faith.1 faithful.2) s
    opened.ready opened.undone)

pub returns-in-Ok-clause-found : goal.returns-in-Ok-clause-found
returns-in-Ok-clause-found g c faithful s found =
    let counts = c.in-Ok.ensures.devices in
    rw c.run_and_close.ensures.how
    (c.run_and_close.ensures.does (counts.image_faith.1 faithful.0, counts.journal_faith.1 faithful.1, counts.redo_faith.1 faithful.2)
    (recovered_as c.in-Ok.found.how s) (c.in-Ok.ensures.keeps faithful.0 faithful.1 s.stack found.recovers)
    (c.in-Ok.ensures.redo.keeps_undone faithful.0 faithful.1 faithful.2 s found))

pub returns-in-Ok-clause-survives : goal.returns-in-Ok-clause-survives
returns-in-Ok-clause-survives g c faithful s holds stopped =
    let opened = c.in-Ok.ensures.reopens faithful.0 faithful.1 faithful.2 s holds in
    let counts = c.in-Ok.ensures.devices in
    c.run_and_close.ensures.survives (counts.image_faith.1 faithful.0, counts.journal_faith.1 faithful.1, counts.redo_faith.1 faithful.2) s
    opened.ready opened.undone stopped

pub returns-in-Err-clause-order : goal.returns-in-Err-clause-order
returns-in-Err-clause-order g c =
    placed_refused _ _ _ _ _ _ _ c.in-Err.ensures.devices.counts c.requires.fresh.0 c.requires.fresh.1 c.requires.fresh.2

pub returns-in-Err-clause-does : goal.returns-in-Err-clause-does
returns-in-Err-clause-does g c faithful s holds =
    let is = c.in-Err.ensures.reopens faithful.0 faithful.1 faithful.2 s holds in
    let pair = spared _ _ _ is (c.in-Err.ensures.spares.refused faithful.0 faithful.1) in
    let same = spared _ _ _ is (c.in-Err.ensures.spares.redo_same faithful.2) in
    inl ((c.in-Err.fault, refl, is), rw (pair.0, pair.1, same) holds)

pub returns-in-Err-clause-found : goal.returns-in-Err-clause-found
returns-in-Err-clause-found g c faithful s found =
    (c.in-Err.fault, refl, c.in-Err.ensures.spares.finds_err faithful.0 faithful.1 faithful.2 s found)

pub returns-in-Ok-clause-how : goal.returns-in-Ok-clause-how
returns-in-Ok-clause-how g c faithful =
    rw c.run_and_close.ensures.how (tells_opened g.D.Device g.T.TextStore c.args.devices c.in-Ok.session c.in-Ok.found faithful c.in-Ok.ensures _)

pub returns-in-Err-clause-how : goal.returns-in-Err-clause-how
returns-in-Err-clause-how g c faithful = record { told = λ reading reads. tt; none = λ s holds. tt; some = tt }

pub returns-in-Ok-clause-whole : goal.returns-in-Ok-clause-whole
returns-in-Ok-clause-whole g c faithful whole =
    let counts = c.in-Ok.ensures.devices in
    let same = c.run_and_close.ensures.whole (counts.image_faith.1 faithful.0, counts.journal_faith.1 faithful.1, counts.redo_faith.1 faithful.2) whole in
    rw (c.run_and_close.ensures.how, same)
    (spared_opened g.D.Device g.T.TextStore c.args.devices c.in-Ok.session c.in-Ok.found faithful c.in-Ok.ensures)

pub returns-in-Err-clause-whole : goal.returns-in-Err-clause-whole
returns-in-Err-clause-whole g c faithful whole =
    let pair = spared_whole _ _ c.in-Err.fault whole (c.in-Err.ensures.spares.refused faithful.0 faithful.1) in
    let same = spared_whole _ _ c.in-Err.fault whole (c.in-Err.ensures.spares.redo_same faithful.2) in
    rw (pair.0, pair.1, same) refl

pub returns-in-Ok-clause-endures : goal.returns-in-Ok-clause-endures
returns-in-Ok-clause-endures g c faithful s found stopped =
    let counts = c.in-Ok.ensures.devices in
    rw c.run_and_close.ensures.how
    (c.run_and_close.ensures.survives (counts.image_faith.1 faithful.0, counts.journal_faith.1 faithful.1, counts.redo_faith.1 faithful.2)
    (recovered_as c.in-Ok.found.how s) (c.in-Ok.ensures.keeps faithful.0 faithful.1 s.stack found.recovers)
    (c.in-Ok.ensures.redo.keeps_undone faithful.0 faithful.1 faithful.2 s found) stopped)

pub returns-in-Err-clause-endures : goal.returns-in-Err-clause-endures
returns-in-Err-clause-endures g c faithful s found stopped =
    stopped_amid _ _ c.in-Err.fault stopped (c.in-Err.ensures.survives faithful.0 faithful.1 faithful.2 s found)

pub returns-in-Ok-clause-spares : goal.returns-in-Ok-clause-spares
returns-in-Ok-clause-spares g c faithful whole =
    let counts = c.in-Ok.ensures.devices in
    let behind : AreFaithful g.D.Device g.T.TextStore (devices_of c.in-Ok.session) =
    (counts.image_faith.1 faithful.0, counts.journal_faith.1 faithful.1, counts.redo_faith.1 faithful.2) in
    rw c.run_and_close.ensures.how
    (spares_opened g.D.Device g.T.TextStore c.args.devices c.in-Ok.session c.in-Ok.found faithful c.in-Ok.ensures c.run_and_close.result.devices behind
    (c.run_and_close.ensures.before whole) (c.run_and_close.ensures.whole behind whole))

pub returns-in-Err-clause-spares : goal.returns-in-Err-clause-spares
returns-in-Err-clause-spares g c faithful whole = record {
  before = λ is. spared_whole _ _ c.in-Err.fault whole c.in-Err.ensures.found_before;
  settled = λ other. absurd (other tt);
}

pub returns-in-Ok-clause-stands : goal.returns-in-Ok-clause-stands
returns-in-Ok-clause-stands g c faithful unfailed =
    let counts = c.in-Ok.ensures.devices in
    let behind : AreFaithful g.D.Device g.T.TextStore (devices_of c.in-Ok.session) =
    (counts.image_faith.1 faithful.0, counts.journal_faith.1 faithful.1, counts.redo_faith.1 faithful.2) in
    let read = read_opened g.D.Device g.T.TextStore c.args.devices c.in-Ok.session c.in-Ok.found faithful c.in-Ok.ensures in
    let made = c.run_and_close.ensures.stands behind unfailed read.0 read.2 in
    let steps : StepsRead g.R.Read.remaining c.args.task c.in-Ok.found.how c.run_and_close.result.reply (held_by g.D.Device g.T.TextStore c.args.devices)
    (held_by g.D.Device g.T.TextStore c.run_and_close.result.devices) =
    record { before = read.0; next = made.0; read = read.1; step = made.1; ends = made.2 } in
    rw c.run_and_close.ensures.how steps

pub returns-in-Err-clause-stands : goal.returns-in-Err-clause-stands
returns-in-Err-clause-stands g c faithful unfailed = tt

pub returns-in-Err-clause-few : goal.returns-in-Err-clause-few
returns-in-Err-clause-few g c =
    few_refused _ _ _ _ _ _ _ c.in-Err.ensures.devices.counts c.requires.fresh.0 c.requires.fresh.1 c.requires.fresh.2

pub returns-in-Ok-clause-accepted : goal.returns-in-Ok-clause-accepted
returns-in-Ok-clause-accepted g c faithful = rw c.run_and_close.ensures.how (c.in-Ok.ensures.text.accepted faithful.1)

pub returns-in-Err-clause-failed : goal.returns-in-Err-clause-failed
returns-in-Err-clause-failed g c =
    failed_refused _ _ _ _ _ _ _ c.in-Err.ensures.devices.counts c.requires.fresh.0 c.requires.fresh.1 c.requires.fresh.2
