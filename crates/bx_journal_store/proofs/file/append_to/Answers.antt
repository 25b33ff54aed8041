use Rattle.bx_image.proofs.Files.{OnErr_map}
use Rattle.bx_journal_store.proofs.Texts.{OnOk_map, appended_at, IsPartlyAppended-placed}
use Rattle.bx_journal_store.proofs.Fading.{FadesBehind_found}
use Rattle.bx_journal_store.proofs.file.append_to.Goals as goal

pub returns-clause-ok : goal.returns-clause-ok
returns-clause-ok g c faithful =
    let end = c.in_ok-end.ensures in
    OnOk_map c.write_full.result _ _ (appended_at _ _ _ c.args.bytes.now c.in_ok-end.end (end.size faithful) (end.content faithful)) (c.write_full.ensures.ok (end.faith.1 faithful))

pub returns-clause-failed : goal.returns-clause-failed
returns-clause-failed g c faithful =
    let end = c.in_ok-end.ensures in
    OnErr_map c.write_full.result _ _ (IsPartlyAppended-placed _ _ _ c.args.bytes.now c.in_ok-end.end (end.size faithful) (end.content faithful)) (c.write_full.ensures.failed (end.faith.1 faithful))

pub returns-clause-fades : goal.returns-clause-fades
returns-clause-fades g c faithful =
    let end = c.in_ok-end.ensures in
    FadesBehind_found _ _ c.args.bytes.now c.in_ok-end.end _ _ _ (end.size faithful) (end.content faithful) (end.survives faithful) (c.write_full.ensures.fades (end.faith.1 faithful))
