use Rattle.std.proofs.Common.{[], refl, arith}
use Rattle.bx_journal.proofs.ListLemmas.{listed_all, listed_none}
use Rattle.bx_journal_read.proofs.ScanLemmas.{reached_of}
use Rattle.bx_journal.proofs.session.log.windows.rows_in_windows.Goals as goal

pub scan_windows-requires-clause-led : goal.scan_windows-requires-clause-led
scan_windows-requires-clause-led g c = record { text = []; is = λ h. refl; long = refl; leads = listed_none c.nothing_summed.result c.new.result.items c.nothing_summed.ensures c.new.ensures.items }

pub returns-clause-rows : goal.returns-clause-rows
returns-clause-rows g c =
    let T = g.T.TextStore in
    let reached = reached_of _ c.in_ok-scan_windows.field-0 c.in_ok-found.found c.in-Some.end c.in_ok-found.was c.in-Some.is c.in_ok-scan_windows.ensures.reached in
    let all = c.are_all.ensures c.if-not-are_all.false in
    listed_all (T.faithful c.args.journal.now) (T.faithful c.len.new.self) (T.text c.args.journal.now) (T.text c.len.new.self) c.in_ok-len.len c.args.count c.in-Some.end
    c.len.ensures.goes_on.faith.1 c.len.ensures.text c.in_ok-len.ensures.len (omega (arith, c.if-end-len.false, reached.below)) reached all.0 all.1
