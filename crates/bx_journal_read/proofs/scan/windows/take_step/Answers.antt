use Rattle.std.proofs.Common.{◌≡◌, ◌≤◌, length, ap, subst, arith}
use Rattle.bx_journal_read.specs.declared.scan.windows.Reached.{Reached}
use Rattle.bx_journal_read.specs.scan.Windows.{IsLedTo, IsReached}
use Rattle.bx_journal_read.proofs.ScanLemmas.{reached_of, reached_weaker}
use Rattle.bx_journal_read.proofs.TextWalks.{read_led, read_reached}
use Rattle.bx_journal_read.proofs.scan.windows.take_step.Goals as goal

pub take_first-requires-clause-within : goal.take_first-requires-clause-within
take_first-requires-clause-within g c h =
    let reads = c.in_ok-step.ensures.reads in
    let h0 = reads.goes_on.faith.0 h in
    omega (arith, c.requires.within h0, ap length (reads.text h0))

pub take_first-requires-clause-led : goal.take_first-requires-clause-led
take_first-requires-clause-led g c =
    let T = g.T.TextStore in
    let first = c.requires.led.0 in
    let now = c.in_ok-step.ensures in
    let next = c.in-Some.next in
    let r = reached_of _ c.in_ok-step.step c.in-Ok.found next c.in-Ok.is c.in-Some.is (now.reached first c.requires.led.1) in
    let forth = reached_of (λ (n : Reached g.row.S.Denot). c.args.at ≤ n.at) c.in_ok-step.step c.in-Ok.found next c.in-Ok.is c.in-Some.is now.forth in
    let same : next.at ≡ c.args.at = omega (arith, forth, c.if-next-at.false) in
    (first, read_led T now.reads (g.S.Scan.Leads first) c.args.at next.scan (subst (λ n. IsLedTo (T.faithful c.args.store.now) (T.text c.args.store.now) (g.S.Scan.Leads first) n next.scan) same r.led))

pub returns-clause-reached : goal.returns-clause-reached
returns-clause-reached g c first led =
    let T = g.T.TextStore in
    let now = c.in_ok-step.ensures in
    let next = c.in-Some.next in
    let L = g.S.Scan.Leads first in
    let r = reached_of _ c.in_ok-step.step c.in-Ok.found next c.in-Ok.is c.in-Some.is (now.reached first led) in
    let forth = reached_of (λ (n : Reached g.row.S.Denot). c.args.at ≤ n.at) c.in_ok-step.step c.in-Ok.found next c.in-Ok.is c.in-Some.is now.forth in
    let same : next.at ≡ c.args.at = omega (arith, forth, c.if-next-at.false) in
    let here = read_led T now.reads L c.args.at next.scan (subst (λ n. IsLedTo (T.faithful c.args.store.now) (T.text c.args.store.now) L n next.scan) same r.led) in
    reached_weaker (IsReached (T.faithful c.take_some.new.store) (T.text c.take_some.new.store) L c.args.len) (IsReached (T.faithful c.args.store.now) (T.text c.args.store.now) L c.args.len)
    (λ q reached. read_reached T now.reads L c.args.len q reached) c.take_first.result (c.take_first.ensures.reached first here)
