use Rattle.std.proofs.Common.{◌≤◌, ◌++◌, ℕ, List, length, take, subst, arith}
use Rattle.std.specs.Prelude.{IfSome}
use Rattle.bx_journal_read.proofs.ScanLemmas.{reached_on}
use Rattle.bx_journal_read.proofs.scan.windows.take_some.Goals as goal

pub returns-clause-reached : goal.returns-clause-reached
returns-clause-reached g c first led =
    let T = g.T.TextStore in
    let buf : List ℕ = c.read_at.new.buf in
    let long = c.split_at_mut-now.ensures.front_len in
    let leads = subst (λ o. IfSome o (λ t. g.S.Scan.Leads first t.scan (led.text ++ take t.taken buf))) c.in-Some.is (c.in-Ok.ensures.leads first led.text led.long led.leads) in
    let within = subst (λ o. IfSome o (λ t. t.taken ≤ length buf)) c.in-Some.is c.in-Ok.ensures.within in
    reached_on (T.faithful c.args.store.now) (T.text c.args.store.now) buf (g.S.Scan.Leads first) c.args.len c.args.at _ c.in-Some.next.taken c.args.scan c.in-Some.next.scan led c.in_ok-read_at.ensures.bytes within
    (omega (arith, c.read_at.auto.buf, long, c.min-size.ensures, c.requires.below)) leads
