use Rattle.std.proofs.Common.{refl}
use Rattle.bx_journal.proofs.JudgeLemmas.{counted_redo, found_judged, found_off, judged_keeps, judged_refuses, length_judged, lines_off, text_counts, text_judged}
use Rattle.bx_journal.specs.private.RedoFound.{IsRedoFound}
use Rattle.bx_journal.proofs.Refused.{none_refused}
use Rattle.bx_journal.proofs.recovery.redo.judge_redo.Goals as goal

pub returns-in-Err-clause-fault : goal.returns-in-Err-clause-fault
returns-in-Err-clause-fault g c text =
    found_judged (g.D.Device.faithful c.args.image.now) (IsRedoFound text c.args.changes c.args.found) text (g.D.Device.image c.args.image.now) c.args.changes c.in-Err.fault c.in-Err.ensures.kind (c.in-Err.ensures.refused text)

pub returns-in-Err-clause-unfit : goal.returns-in-Err-clause-unfit
returns-in-Err-clause-unfit g c dh text found line refused =
    judged_refuses (g.D.Device.faithful c.args.image.now) text (g.D.Device.image c.args.image.now) c.args.changes line c.in-Err.fault dh
    (text_judged (g.D.Device.faithful c.args.image.now) text (g.D.Device.image c.args.image.now) c.args.changes c.in-Err.fault (c.in-Err.ensures.refused text found)) refused

pub returns-in-Err-clause-kept : goal.returns-in-Err-clause-kept
returns-in-Err-clause-kept g c dh text found undone redo =
    judged_keeps (g.D.Device.faithful c.args.image.now) text (g.D.Device.image c.args.image.now) c.args.changes undone c.in-Err.fault dh redo
    (text_judged (g.D.Device.faithful c.args.image.now) text (g.D.Device.image c.args.image.now) c.args.changes c.in-Err.fault (c.in-Err.ensures.refused text found))

pub returns-in-Err-check_redo_length-clause-fault : goal.returns-in-Err-check_redo_length-clause-fault
returns-in-Err-check_redo_length-clause-fault g c text =
    found_off (g.D.Device.faithful c.args.image.now) (IsRedoFound text c.args.changes c.args.found) text (g.D.Device.image c.args.image.now) c.args.changes c.in-Ok.counted.counted.count c.in-Ok.counted.lines c.in-Ok.counted.counted.told
    c.in-Err-check_redo_length.fault (c.in-Ok.ensures.ok text) (c.in-Ok.ensures.lines text) c.in-Err-check_redo_length.ensures.fault

pub returns-in-Err-check_redo_length-clause-unfit : goal.returns-in-Err-check_redo_length-clause-unfit
returns-in-Err-check_redo_length-clause-unfit g c dh text found line refused =
    judged_refuses (g.D.Device.faithful c.args.image.now) text (g.D.Device.image c.args.image.now) c.args.changes line c.in-Err-check_redo_length.fault dh
    (length_judged (g.D.Device.faithful c.args.image.now) text (g.D.Device.image c.args.image.now) c.args.changes c.in-Ok.counted.counted.count c.in-Ok.counted.counted.told c.in-Err-check_redo_length.fault (c.in-Ok.ensures.ok text found)
    (lines_off (g.D.Device.faithful c.args.image.now) text (g.D.Device.image c.args.image.now) c.in-Ok.counted.lines c.in-Ok.counted.counted.told c.in-Err-check_redo_length.fault (c.in-Ok.ensures.lines text found) c.in-Err-check_redo_length.ensures.fault)) refused

pub returns-in-Err-check_redo_length-clause-kept : goal.returns-in-Err-check_redo_length-clause-kept
returns-in-Err-check_redo_length-clause-kept g c dh text found undone redo =
    judged_keeps (g.D.Device.faithful c.args.image.now) text (g.D.Device.image c.args.image.now) c.args.changes undone c.in-Err-check_redo_length.fault dh redo
    (length_judged (g.D.Device.faithful c.args.image.now) text (g.D.Device.image c.args.image.now) c.args.changes c.in-Ok.counted.counted.count c.in-Ok.counted.counted.told c.in-Err-check_redo_length.fault (c.in-Ok.ensures.ok text found)
    (lines_off (g.D.Device.faithful c.args.image.now) text (g.D.Device.image c.args.image.now) c.in-Ok.counted.lines c.in-Ok.counted.counted.told c.in-Err-check_redo_length.fault (c.in-Ok.ensures.lines text found) c.in-Err-check_redo_length.ensures.fault))

pub returns-clause-undone : goal.returns-clause-undone
returns-clause-undone g c dh text found =
    counted_redo text (g.D.Device.image c.args.image.now) c.args.changes c.in-Ok.counted.counted.count c.in-Ok.counted.counted.told (c.in-Ok.ensures.ok text found) (c.in_default.ensures.same_length dh)

pub returns-clause-unfit : goal.returns-clause-unfit
returns-clause-unfit g c dh text found line refused =
    let redo = counted_redo text (g.D.Device.image c.args.image.now) c.args.changes c.in-Ok.counted.counted.count c.in-Ok.counted.counted.told (c.in-Ok.ensures.ok text found) (c.in_default.ensures.same_length dh) in
    none_refused text (g.D.Device.image c.args.image.now) c.args.changes line redo.0 redo.1 refused

pub returns-in-Err-clause-looks : goal.returns-in-Err-clause-looks
returns-in-Err-clause-looks g c = record {
  same = λ h. refl;
  faith = (λ h. h, λ h. h);
  no_failure = tt;
  counts = text_counts (g.D.Device.failures c.args.image.now) 0 c.in-Err.fault c.in-Err.ensures.kind;
}

pub returns-clause-sum : goal.returns-clause-sum
returns-clause-sum g c few = c.in-Ok.ensures.few few
