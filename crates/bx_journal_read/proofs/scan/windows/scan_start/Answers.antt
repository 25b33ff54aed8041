use Rattle.std.proofs.Common.{subst}
use Rattle.std.specs.Prelude.{IfOk, IfSome}
use Rattle.bx_journal_read.specs.scan.Windows.{IsReached}
use Rattle.bx_journal_read.proofs.scan.windows.scan_start.Goals as goal

pub returns-clause-reached : goal.returns-clause-reached
returns-clause-reached g c =
    let T = g.T.TextStore in
    subst (λ s. IfOk s (λ o. IfSome o (IsReached (T.faithful c.args.store.now) (T.text c.args.store.now) (g.S.Scan.Leads c.args.scan) c.args.len))) c.in-Ok.is c.in_ok-scanned.ensures.reached
