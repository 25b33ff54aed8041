use Rattle.std.proofs.Common.{List, ℕ, refl, sym, subst}
use Rattle.bx_image.proofs.Survivors.{NoMore_then}
use Rattle.bx_journal_read.specs.scan.Recovery.{HasUndoneCount}
use Rattle.bx_journal_read.proofs.RecoverLemmas.{judged_finished, refused_at}
use Rattle.bx_journal.specs.private.RedoFound.{IsRedoFound}
use Rattle.bx_journal.proofs.recovery.finished.open_finished.Goals as goal

pub returns-in-Err-judge_redo-clause-fault : goal.returns-in-Err-judge_redo-clause-fault
returns-in-Err-judge_redo-clause-fault g c =
    let text : List ℕ = g.T.TextStore.text c.args.redo.now in
    judged_finished (g.D.Device.faithful c.args.image.now) (g.D.Device.faithful c.check_length.new.image) (g.T.TextStore.faithful c.args.redo.now) (IsRedoFound text c.args.found.count c.in-Ok.text) text
    (g.D.Device.image c.args.image.now) (g.D.Device.image c.check_length.new.image) c.args.found.count c.args.found.told c.in-Err-judge_redo.fault
    c.check_length.ensures.looks.faith.1 c.in-Ok.ensures.found.found c.check_length.ensures.looks.same c.in_default.ensures.same_length (c.in-Err-judge_redo.ensures.fault text)

pub returns-in-Err-judge_redo-clause-unfit : goal.returns-in-Err-judge_redo-clause-unfit
returns-in-Err-judge_redo-clause-unfit g c dh rh line told refused =
    c.in-Err-judge_redo.ensures.unfit (c.check_length.ensures.looks.faith.1 dh) (g.T.TextStore.text c.args.redo.now) (c.in-Ok.ensures.found.found rh) line
    (refused_at _ _ _ _ c.args.found.count line refl (sym (c.check_length.ensures.looks.same dh)) refused)

pub returns-clause-undone : goal.returns-clause-undone
returns-clause-undone g c dh rh =
    let text : List ℕ = g.T.TextStore.text c.args.redo.now in
    let changes : ℕ = c.args.found.count in
    let undone : ℕ = c.in-Ok-judge_redo.undone in
    subst (λ z. HasUndoneCount text z changes undone) (c.check_length.ensures.looks.same dh)
    (c.in-Ok-judge_redo.ensures.undone (c.check_length.ensures.looks.faith.1 dh) text (c.in-Ok.ensures.found.found rh))

pub returns-clause-sum : goal.returns-clause-sum
returns-clause-sum g c = c.in-Ok-judge_redo.ensures.sum c.in-Ok.ensures.found.few

pub returns-clause-unfit : goal.returns-clause-unfit
returns-clause-unfit g c dh rh line told refused =
    c.in-Ok-judge_redo.ensures.unfit (c.check_length.ensures.looks.faith.1 dh) (g.T.TextStore.text c.args.redo.now) (c.in-Ok.ensures.found.found rh) line
    (refused_at _ _ _ _ c.args.found.count line refl (sym (c.check_length.ensures.looks.same dh)) refused)

pub returns-in-Err-judge_redo-clause-image_before : goal.returns-in-Err-judge_redo-clause-image_before
returns-in-Err-judge_redo-clause-image_before g c h =
    NoMore_then _ _ _ (c.check_length.ensures.found_before h) (c.judge_redo.ensures.found_before (c.check_length.ensures.looks.faith.1 h))

pub returns-clause-image_before : goal.returns-clause-image_before
returns-clause-image_before g c h = NoMore_then _ _ _ (c.check_length.ensures.found_before h) (c.judge_redo.ensures.found_before (c.check_length.ensures.looks.faith.1 h))
