use Rattle.std.proofs.Common.{◌∙◌, ap, length}
use Rattle.std.proofs.lemmas.Result.{on_ok_weaker}
use Rattle.bx_image.proofs.Images.{length-cut}
use Rattle.bx_journal_protocol.proofs.PartLemmas.{all_keep_on, keeps_on, unmapped_moves}
use Rattle.bx_journal_model.proofs.RestoreLemmas.{cut_named}
use Rattle.bx_journal_protocol.proofs.protocol.restore.restore_windows.Goals as goal

pub returns-in_err-restore_len-clause-keeps : goal.returns-in_err-restore_len-clause-keeps
returns-in_err-restore_len-clause-keeps g c dh th s r st names = c.in_err-restore_len.ensures.keeps dh r (cut_named r s c.args.mark.len st.len names)

pub returns-in_err-restore_len-clause-phase : goal.returns-in_err-restore_len-clause-phase
returns-in_err-restore_len-clause-phase g c dh th s r st names = unmapped_moves r _ _ (returns-in_err-restore_len-clause-keeps g c dh th s r st names)

pub returns-in_err-restore_len-clause-survives : goal.returns-in_err-restore_len-clause-survives
returns-in_err-restore_len-clause-survives g c dh th s r st names only = c.in_err-restore_len.ensures.survives dh r (cut_named r s c.args.mark.len st.len names) only

pub returns-in_err-restore_lines-clause-keeps : goal.returns-in_err-restore_lines-clause-keeps
returns-in_err-restore_lines-clause-keeps g c dh th s r st names =
    keeps_on r _ _ _ (c.in_ok-restore_len.ensures.keeps dh r (cut_named r s c.args.mark.len st.len names))
    (c.in_err-restore_lines.ensures.keeps (c.in_ok-restore_len.ensures.goes_on.faith.1 dh) th s r st names).0

pub returns-in_err-restore_lines-clause-phase : goal.returns-in_err-restore_lines-clause-phase
returns-in_err-restore_lines-clause-phase g c dh th s r st names = unmapped_moves r _ _ (returns-in_err-restore_lines-clause-keeps g c dh th s r st names)

pub returns-in_err-restore_lines-clause-survives : goal.returns-in_err-restore_lines-clause-survives
returns-in_err-restore_lines-clause-survives g c dh th s r st names only =
    all_keep_on r _ _ _ (c.in_ok-restore_len.ensures.survives dh r (cut_named r s c.args.mark.len st.len names) only)
    (c.in_err-restore_lines.ensures.keeps (c.in_ok-restore_len.ensures.goes_on.faith.1 dh) th s r st names).1

pub returns-clause-ok : goal.returns-clause-ok
returns-clause-ok g c dh th s st =
    let still = c.in_ok-restore_len.ensures.goes_on.faith.1 dh in
    let lines = c.in_ok-restore_lines.ensures in
    on_ok_weaker c.sync.result (λ _. c.sync.ensures.image (lines.image_faith.1 still) ∙ lines.ok still th s st _ (c.in_ok-restore_len.ensures.ok dh)) (c.sync.ensures.settled (lines.image_faith.1 still))

pub returns-clause-keeps : goal.returns-clause-keeps
returns-clause-keeps g c dh th s r st names =
    let still = c.in_ok-restore_len.ensures.goes_on.faith.1 dh in
    let lines = c.in_ok-restore_lines.ensures in
    rw (c.sync.ensures.image (lines.image_faith.1 still))
    (keeps_on r _ _ _ (c.in_ok-restore_len.ensures.keeps dh r (cut_named r s c.args.mark.len st.len names)) (lines.keeps still th s r st names).0)

pub returns-clause-phase : goal.returns-clause-phase
returns-clause-phase g c dh th s r st names = unmapped_moves r _ _ (returns-clause-keeps g c dh th s r st names)

pub returns-clause-survives : goal.returns-clause-survives
returns-clause-survives g c dh th s r st names only =
    let still = c.in_ok-restore_len.ensures.goes_on.faith.1 dh in
    let lines = c.in_ok-restore_lines.ensures in
    let all = all_keep_on r _ _ _ (c.in_ok-restore_len.ensures.survives dh r (cut_named r s c.args.mark.len st.len names) only) (lines.keeps still th s r st names).1 in
    λ y there. all y (c.sync.ensures.survives (lines.image_faith.1 still) y there)

pub returns-clause-long : goal.returns-clause-long
returns-clause-long g c dh =
    let still = c.in_ok-restore_len.ensures.goes_on.faith.1 dh in
    let lines = c.in_ok-restore_lines.ensures in
    let now = lines.image_faith.1 still in
    on_ok_weaker c.sync.result (λ _. ap length (c.sync.ensures.image now) ∙ lines.long still (ap length (c.in_ok-restore_len.ensures.ok dh) ∙ length-cut (g.D.Device.image c.args.image.now) c.args.mark.len))
    (c.sync.ensures.settled now)
