use Rattle.std.proofs.Common.{ap}
use Rattle.bx_journal_format.specs.Shown.{shown}
use Rattle.bx_run_session.proofs.LookLemmas.{finds_back}
use Rattle.bx_run_session.proofs.session.looked.look_at.Goals as goal

pub returns-in-Err-look_behind-clause-fault : goal.returns-in-Err-look_behind-clause-fault
returns-in-Err-look_behind-clause-fault g c =
    let looks = c.judge.ensures.looks in
    finds_back _ _ _ _ c.in-Err-look_behind.fault (λ h. looks.faith.1.1 h) (λ h. ap shown (looks.journal_same h)) c.in-Err-look_behind.ensures.fault
